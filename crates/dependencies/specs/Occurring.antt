-- The occurrences of a side as a list.
use Rattle.std.specs.Prelude.{ℕ, ◌-◌, List}
use Rattle.std.specs.List.{filter_map, range_with_len}
use Rattle.theory.specs.Rules.{Atom}
use Rattle.theory.specs.Occurrences.{occurrence_of}
use Rattle.rules.specs.Views.{plain_side}
use Rattle.dependencies.specs.declared.reading.Occurrences.{Occurrences}

-- those of the k numbers from n on
unfoldable pub occurrences_from : List Atom → ℕ → ℕ → List (ℕ × ℕ)
occurrences_from atoms n k = filter_map (occurrence_of atoms) (range_with_len n k)

-- all of a small side: it has at most 16
abbrev pub occurrences_of : List Atom → List (ℕ × ℕ)
occurrences_of atoms = occurrences_from atoms 0 16

-- those that an iterator has left
abbrev pub rest : Occurrences → List (ℕ × ℕ)
rest s = occurrences_from (plain_side s.side.now) s.numbers.start (s.numbers.end - s.numbers.start)
