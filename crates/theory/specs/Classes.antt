-- The seven classes of rule sets.
use Rattle.std.specs.Prelude.{ℕ, ◌<◌, List, length}
use Rattle.lists.specs.Places.{At}
use Rattle.graphs.specs.declared.step.Step.{Step}
use Rattle.graphs.specs.Walks.{Closed}
use Rattle.theory.specs.declared.class.Class.{Class}
use Rattle.theory.specs.declared.class.Class.TheVariants.{Linear, Guarded, WeaklyGuarded, Acyclic, WeaklyAcyclic, Sticky, WeaklySticky}
use Rattle.theory.specs.Rules.{Atom, Rule, Has, BodyVariable, BodyPosition, Repeated}
use Rattle.theory.specs.Edges.{PredicateStep, Infinite}
use Rattle.theory.specs.Marks.{Marked, Affected}

-- some body atom of each rule contains all body variables that satisfy W
abbrev pub GuardedFor : (Rule → ℕ → Type 0) → List Rule → Type 0
GuardedFor W rules = (i : ℕ) (r : Rule) → At rules i r → (k : ℕ) × (a : Atom) × At r.body k a × ((v : ℕ) → BodyVariable r v → W r v → Has a v)

-- all body positions of the variable v are affected
abbrev pub OnlyAffected : List Rule → Rule → ℕ → Type 0
OnlyAffected rules r v = (p : ℕ) → BodyPosition r v p → Affected rules p

-- each marked variable that occurs twice or more in its body satisfies F
abbrev pub MarkedRepeats : (Rule → ℕ → Type 0) → List Rule → Type 0
MarkedRepeats F rules = (i v : ℕ) (r : Rule) → At rules i r → Marked rules i v → Repeated r v → F r v

-- some body position of the variable v is not infinite
abbrev pub SomeFinite : List Rule → Rule → ℕ → Type 0
SomeFinite rules r v = (p : ℕ) × BodyPosition r v p × (Infinite rules p → ⊥)

-- the set of rules belongs to the class
abbrev pub Belongs : Class → List Rule → Type 0
Belongs Linear rules = (i : ℕ) (r : Rule) → At rules i r → length r.body < 2
Belongs Guarded rules = GuardedFor (λ r v. Unit {0}) rules
Belongs WeaklyGuarded rules = GuardedFor (OnlyAffected rules) rules
Belongs Acyclic rules = (w : List Step) → Closed (PredicateStep rules) w → ⊥
Belongs WeaklyAcyclic rules = (p : ℕ) → Infinite rules p → ⊥
Belongs Sticky rules = MarkedRepeats (λ r v. ⊥) rules
Belongs WeaklySticky rules = MarkedRepeats (SomeFinite rules) rules
