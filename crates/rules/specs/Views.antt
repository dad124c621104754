-- The rules that stand in memory, as the definitions have them.
use Rattle.std.specs.Prelude.{◌≡◌, ℕ, ◌<◌, ◌≤◌, List, map, length, Some, None, Option}
use Rattle.bounded.specs.Bounded.{items}
use Rattle.theory.specs.Rules as plain
use Rattle.rules.specs.declared.rule.Atom.{Atom}
use Rattle.rules.specs.declared.rule.Side.{Side}
use Rattle.rules.specs.declared.rule.Rule.{Rule}

abbrev pub variables : Atom → List ℕ
variables a = items a.columns

abbrev pub atoms_of : Side → List Atom
atoms_of d = items d.atoms

abbrev pub plain_atom : Atom → plain.Atom
plain_atom a = record { predicate = a.predicate; columns = variables a }

abbrev pub plain_side : Side → List plain.Atom
plain_side d = map plain_atom (atoms_of d)

abbrev pub plain_rule : Rule → plain.Rule
plain_rule r = record { body = plain_side r.body; head = plain_side r.head }

-- an atom of these variables; there is one whenever they are one to four and the predicate is below 32
abbrev pub AtomMade : ℕ → List ℕ → Option Atom → Type 0
AtomMade p vs None = p < 32 → 0 < length vs → length vs ≤ 4 → ⊥
AtomMade p vs (Some a) = (a.predicate ≡ p) × (variables a ≡ vs)

-- a side of these atoms; there is one whenever they are one to four
abbrev pub SideMade : List Atom → Option Side → Type 0
SideMade xs None = 0 < length xs → length xs ≤ 4 → ⊥
SideMade xs (Some d) = atoms_of d ≡ xs
