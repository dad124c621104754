-- What the definitions promise together.
use Rattle.std.specs.Prelude.{◌≤◌, List, length}
use Rattle.graphs.specs.declared.step.Step.{Step}
use Rattle.graphs.specs.Walks.{Returns}
use Rattle.theory.specs.declared.class.Class.{Class}
use Rattle.theory.specs.declared.class.Class.TheVariants.{Linear, Guarded, WeaklyGuarded, Acyclic, WeaklyAcyclic, Sticky, WeaklySticky}
use Rattle.theory.specs.Rules.{Rule, Small}
use Rattle.theory.specs.Edges.{PredicateStep}
use Rattle.theory.specs.Classes.{Belongs}
use Rattle.theory.specs.Witness.{Fits}

-- a list of steps that fits the class shows that the rules do not belong to it
abbrev pub Refutes : Class → Type 0
Refutes class = (rules : List Rule) (w : List Step) → Fits class rules w → Belongs class rules → ⊥

-- what fits a class has at most 5,104 steps: 1,024 marks, and for 16 positions a closed walk of 128 steps and a simple one of 127
abbrev pub Short : Class → Type 0
Short class = (rules : List Rule) (w : List Step) → Small rules → Fits class rules w → length w ≤ 5104

-- which class lies in which
pub record Inclusions (rules : List Rule) : Type 0 where
  pub linear_guarded : Belongs Linear rules → Belongs Guarded rules
  pub guarded_weakly : Belongs Guarded rules → Belongs WeaklyGuarded rules
  pub acyclic_weakly : Belongs Acyclic rules → Belongs WeaklyAcyclic rules
  pub sticky_weakly : Belongs Sticky rules → Belongs WeaklySticky rules
  pub weakly_acyclic_sticky : Belongs WeaklyAcyclic rules → Belongs WeaklySticky rules

-- the classes of every small set of rules
abbrev pub ClassesNest : Type 0
ClassesNest = (rules : List Rule) → Small rules → Inclusions rules

-- acyclic sets have no walk that returns, though the class speaks of closed ones only
abbrev pub AcyclicReturns : Type 0
AcyclicReturns = (rules : List Rule) → Belongs Acyclic rules → (w : List Step) → Returns (PredicateStep rules) w → ⊥
