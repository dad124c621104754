-- Tables of the edges between 128 positions.
use Rattle.std.specs.Prelude.{◌≡◌, ℕ, ◌<◌, ◌≤◌, ◌⊎◌, ◌↔◌, List, length, Some, None, Option, ◌≢◌}
use Rattle.lists.specs.Places.{At}
use Rattle.ranks.specs.Tables.{entry}
use Rattle.ranks.specs.declared.edge.Edge.{Edge}
use Rattle.ranks.specs.declared.edge.Edge.TheVariants.{Normal, Special}
use Rattle.theory.specs.Rules.{Rule, In}
use Rattle.theory.specs.Edges.{NormalEdge, SpecialEdge}
use Rattle.dependencies.specs.Occurring.{occurrences_of}

-- some rule has such an edge
abbrev pub SomeRule : (Rule → ℕ → ℕ → Type 0) → List Rule → ℕ → ℕ → Type 0
SomeRule E rules p q = (i : ℕ) × (r : Rule) × At rules i r × E r p q

-- the entry is special exactly for special edges, normal exactly for edges that are normal only, and else none
pub record Tabulated (rules : List Rule) (table : List (Option Edge)) : Type 0 where
  pub long : length table ≡ 16384
  pub special : (p q : ℕ) → p < 128 → q < 128 → (entry table p q ≡ Some Special) ↔ SomeRule SpecialEdge rules p q
  pub normal : (p q : ℕ) → p < 128 → q < 128 → (entry table p q ≡ Some Normal) ↔ ((SomeRule SpecialEdge rules p q → ⊥) × SomeRule NormalEdge rules p q)
  -- every edge has its entry
  pub normal_within : (p q : ℕ) → SomeRule NormalEdge rules p q → (p < 128) × (q < 128)
  pub special_within : (p q : ℕ) → SomeRule SpecialEdge rules p q → (p < 128) × (q < 128)

-- from the body variable v to the head variable u there are special edges
abbrev pub MakesSpecial : Rule → ℕ → ℕ → Type 0
MakesSpecial r v u = In r.head v × (In r.body u → ⊥)

-- what the edges from the body variable v to the head variable u are, if there are any
abbrev pub EdgeIs : Rule → ℕ → ℕ → Option Edge → Type 0
EdgeIs r v u None = (MakesSpecial r v u → ⊥) × (v ≢ u)
EdgeIs r v u (Some Normal) = (MakesSpecial r v u → ⊥) × (v ≡ u)
EdgeIs r v u (Some Special) = MakesSpecial r v u

-- how high an entry is
abbrev pub level : Option Edge → ℕ
level None = 0
level (Some Normal) = 1
level (Some Special) = 2

-- entries are raised to the edges E, and stay otherwise: E e p q says that e is what there is from p to q
pub record Raised (E : Option Edge → ℕ → ℕ → Type 0) (before after : List (Option Edge)) : Type 0 where
  pub long : length after ≡ length before
  pub keeps : (p q : ℕ) → p < 128 → q < 128 → level (entry before p q) ≤ level (entry after p q)
  pub raises : (e : Option Edge) (p q : ℕ) → p < 128 → q < 128 → E e p q → level e ≤ level (entry after p q)
  pub only : (p q : ℕ) → p < 128 → q < 128 → (entry after p q ≡ entry before p q) ⊎ E (entry after p q) p q

-- the one edge from `from` to `to`
abbrev pub One : ℕ → ℕ → Option Edge → Option Edge → ℕ → ℕ → Type 0
One from to edge e p q = (p ≡ from) × (q ≡ to) × (e ≡ edge)

-- the edges of some element of the list
abbrev pub Among : {A : Type 0} → (A → Option Edge → ℕ → ℕ → Type 0) → List A → Option Edge → ℕ → ℕ → Type 0
Among {A} E xs e p q = (k : ℕ) × (x : A) × At xs k x × E x e p q

-- the edges from a body occurrence, a variable and its position, to a head occurrence
abbrev pub EdgesTo : Rule → ℕ × ℕ → ℕ × ℕ → Option Edge → ℕ → ℕ → Type 0
EdgesTo r from to e p q = (p ≡ from.1) × (q ≡ to.1) × EdgeIs r from.0 to.0 e

-- the edges from a body occurrence
abbrev pub EdgesFrom : Rule → ℕ × ℕ → Option Edge → ℕ → ℕ → Type 0
EdgesFrom r from = Among (EdgesTo r from) (occurrences_of r.head)

-- the edges of a rule
abbrev pub EdgesOf : Rule → Option Edge → ℕ → ℕ → Type 0
EdgesOf r = Among (EdgesFrom r) (occurrences_of r.body)
