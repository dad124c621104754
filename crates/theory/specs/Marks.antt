-- Marked variables and affected positions: two least sets.
use Rattle.std.specs.Prelude.{◌≡◌, ℕ, List}
use Rattle.lists.specs.Places.{At}
use Rattle.theory.specs.Rules.{Atom, Rule, Has, BodyVariable, Frontier, Existential, BodyPosition, HeadPosition}

-- the body variable v of rule i is missing in a head atom
abbrev pub FirstMark : List Rule → ℕ → ℕ → Type 0
FirstMark rules i v = (r : Rule) × (k : ℕ) × (a : Atom) × At rules i r × BodyVariable r v × At r.head k a × (Has a v → ⊥)

-- u fills, in the atom b, every column that v fills in the atom a of the same predicate
abbrev pub Covers : Atom → ℕ → Atom → ℕ → Type 0
Covers b u a v = (b.predicate ≡ a.predicate) × ((c : ℕ) → At a.columns c v → At b.columns c u)

-- the mark passes from u of rule j to the frontier variable v of rule i: u covers, in a body atom, v in a head atom that contains it
abbrev pub MarkPasses : List Rule → ℕ → ℕ → ℕ → ℕ → Type 0
MarkPasses rules j u i v =
    (r : Rule) × (k : ℕ) × (a : Atom) × (t : Rule) × (l : ℕ) × (b : Atom) × At rules i r × Frontier r v × At r.head k a × Has a v × At rules j t × At t.body l b × Covers b u a v

-- the variable v of rule i is marked: as a first mark, or since a mark passes to it
pub data Marked (rules : List Rule) : ℕ → ℕ → Type 0 where
  first_mark : {i v : ℕ} → FirstMark rules i v → Marked rules i v
  mark_passed : {i v : ℕ} (j u : ℕ) → Marked rules j u → MarkPasses rules j u i v → Marked rules i v

-- p is a head position of an existential variable of rule i
abbrev pub FirstAffected : List Rule → ℕ → ℕ → Type 0
FirstAffected rules i p = (r : Rule) × (e : ℕ) × At rules i r × Existential r e × HeadPosition r e p

-- p is a head position of the frontier variable v of rule i
abbrev pub Carries : List Rule → ℕ → ℕ → ℕ → Type 0
Carries rules i v p = (r : Rule) × At rules i r × Frontier r v × HeadPosition r v p

-- p is a body position of the variable v of rule i
abbrev pub Carried : List Rule → ℕ → ℕ → ℕ → Type 0
Carried rules i v p = (r : Rule) × At rules i r × BodyPosition r v p

-- the position p is affected: as a first one, or through a frontier variable all of whose body positions are affected
pub data Affected (rules : List Rule) : ℕ → Type 0 where
  first_affected : {p : ℕ} (i : ℕ) → FirstAffected rules i p → Affected rules p
  affected_through : {p : ℕ} (i v : ℕ) → Carries rules i v p → ((q : ℕ) → Carried rules i v q → Affected rules q) → Affected rules p
