-- The occurrences of variables in a side, numbered 4 × atom + column.
use Rattle.std.specs.Prelude.{◌≡◌, ℕ, zero, suc, ◌/◌, ◌%◌, cond, List, [], ◌∷◌, ◌++◌, Some, None, Option, ◌==◌}
use Rattle.std.specs.List.{slice_get}
use Rattle.theory.specs.Rules.{Atom, position}

-- the variable that was looked up in column c of the atom, and its position
abbrev pub in_column : Atom → ℕ → Option ℕ → Option (ℕ × ℕ)
in_column a c None = None
in_column a c (Some v) = Some (v, position a c)

-- the variable in column c of the atom that was looked up, and its position
abbrev pub in_atom : ℕ → Option Atom → Option (ℕ × ℕ)
in_atom c None = None
in_atom c (Some a) = in_column a c (slice_get a.columns c)

-- the variable and the position of occurrence n; none if there is no such column
abbrev pub occurrence_of : List Atom → ℕ → Option (ℕ × ℕ)
occurrence_of atoms n = in_atom (n % 4) (slice_get atoms (n / 4))

-- it is there, and is the variable v at the position p
abbrev pub Is : Option (ℕ × ℕ) → ℕ → ℕ → Type 0
Is None v p = ⊥
Is (Some o) v p = (o.0 ≡ v) × (o.1 ≡ p)

-- occurrence n is the variable v at the position p
abbrev pub OccursAt : List Atom → ℕ → ℕ → ℕ → Type 0
OccursAt atoms n v p = Is (occurrence_of atoms n) v p

-- the position of the occurrence, if it is one of the variable v
abbrev pub position_if : Option (ℕ × ℕ) → ℕ → List ℕ
position_if None v = []
position_if (Some o) v = cond (o.0 == v) (o.1 ∷ []) []

-- the positions of the variable v among the first n occurrences
unfoldable pub positions_upto : List Atom → ℕ → ℕ → List ℕ
positions_upto atoms v zero = []
positions_upto atoms v (suc n) = positions_upto atoms v n ++ position_if (occurrence_of atoms n) v

-- all positions of the variable v in a small side: it has at most 16 occurrences
abbrev pub positions_of : List Atom → ℕ → List ℕ
positions_of atoms v = positions_upto atoms v 16
