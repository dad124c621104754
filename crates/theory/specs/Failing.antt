-- What it is to fail a class, and the law of witnesses.
use Rattle.std.specs.Prelude.{ℕ, ◌≤◌, ◌↔◌, List, length}
use Rattle.theory.specs.declared.class.Class.{Class}
use Rattle.theory.specs.declared.class.Class.TheVariants.{Linear, Guarded, WeaklyGuarded, Acyclic, WeaklyAcyclic, Sticky, WeaklySticky}
use Rattle.graphs.specs.declared.step.Step.{Step}
use Rattle.lists.specs.Places.{At}
use Rattle.graphs.specs.Walks.{Returns}
use Rattle.theory.specs.Rules.{Atom, Rule, Has, BodyVariable, BodyPosition, Repeated, Small}
use Rattle.theory.specs.Edges.{PredicateStep, Infinite}
use Rattle.theory.specs.Marks.{Marked}
use Rattle.theory.specs.Classes.{OnlyAffected}
use Rattle.theory.specs.Witness.{Fits}

-- each body atom of some rule lacks a body variable that satisfies W
abbrev pub Unguarded : (Rule → ℕ → Type 0) → List Rule → Type 0
Unguarded W rules = (i : ℕ) × (r : Rule) × At rules i r × ((k : ℕ) (a : Atom) → At r.body k a → (v : ℕ) × BodyVariable r v × W r v × (Has a v → ⊥))

-- some marked variable that occurs twice or more in its body satisfies W
abbrev pub SomeRepeat : (Rule → ℕ → Type 0) → List Rule → Type 0
SomeRepeat W rules = (i : ℕ) × (v : ℕ) × (r : Rule) × At rules i r × Marked rules i v × Repeated r v × W r v

-- what shows that the rules fail the class: a rule, a variable, a walk or a position
abbrev pub Fails : Class → List Rule → Type 0
Fails Linear rules = (i : ℕ) × (r : Rule) × At rules i r × (2 ≤ length r.body)
Fails Guarded rules = Unguarded (λ r v. Unit {0}) rules
Fails WeaklyGuarded rules = Unguarded (OnlyAffected rules) rules
Fails Acyclic rules = (w : List Step) × Returns (PredicateStep rules) w
Fails WeaklyAcyclic rules = (p : ℕ) × Infinite rules p
Fails Sticky rules = SomeRepeat (λ r v. Unit {0}) rules
Fails WeaklySticky rules = SomeRepeat (λ r v. (p : ℕ) → BodyPosition r v p → Infinite rules p) rules

-- some list of steps fits exactly when the class fails
abbrev pub Witnessed : Class → Type 0
Witnessed class = (rules : List Rule) → Small rules → Fails class rules ↔ ((w : List Step) × Fits class rules w)
