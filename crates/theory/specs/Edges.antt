-- Edges between positions and between predicates, and the steps along them; infinite positions and ranks.
use Rattle.std.specs.Prelude.{◌≡◌, ℕ, ◌⊎◌, List}
use Rattle.lists.specs.Places.{At}
use Rattle.graphs.specs.declared.step.Step.{Step}
use Rattle.graphs.specs.Walks as walks
use Rattle.theory.specs.Rules.{Atom, Rule, Frontier, Existential, BodyPosition, HeadPosition}

-- a normal edge: from a body position of a variable to a head position of the same variable
abbrev pub NormalEdge : Rule → ℕ → ℕ → Type 0
NormalEdge r p q = (v : ℕ) × BodyPosition r v p × HeadPosition r v q

-- a special edge: from a body position of a frontier variable to a head position of an existential variable
abbrev pub SpecialEdge : Rule → ℕ → ℕ → Type 0
SpecialEdge r p q = (v : ℕ) × (e : ℕ) × Frontier r v × BodyPosition r v p × Existential r e × HeadPosition r e q

-- a predicate edge: from a predicate of the body to one of the head
abbrev pub PredicateEdge : Rule → ℕ → ℕ → Type 0
PredicateEdge r p q = (k : ℕ) × (l : ℕ) × (a : Atom) × (b : Atom) × At r.body k a × At r.head l b × (a.predicate ≡ p) × (b.predicate ≡ q)

-- the step has kind n and is an edge of the rule that it names
abbrev pub Along : ℕ → (Rule → ℕ → ℕ → Type 0) → List Rule → Step → Type 0
Along n Edge rules s = (s.kind ≡ n) × (r : Rule) × At rules s.rule r × Edge r s.from s.to

-- kind 3: a step along a predicate edge
abbrev pub PredicateStep : List Rule → Step → Type 0
PredicateStep = Along 3 PredicateEdge

-- kind 4: a step along a normal edge
abbrev pub NormalStep : List Rule → Step → Type 0
NormalStep = Along 4 NormalEdge

-- kind 5: a step along a special edge
abbrev pub SpecialStep : List Rule → Step → Type 0
SpecialStep = Along 5 SpecialEdge

-- a step between positions
abbrev pub PositionStep : List Rule → Step → Type 0
PositionStep rules s = NormalStep rules s ⊎ SpecialStep rules s

-- the position p lies on, or is reached from, a closed walk with a special edge
abbrev pub Infinite : List Rule → ℕ → Type 0
Infinite rules p = walks.Infinite (PositionStep rules) p

-- n is the most special edges on a walk that ends at the position p
abbrev pub Rank : List Rule → ℕ → ℕ → Type 0
Rank rules p n = walks.Rank (PositionStep rules) p n
