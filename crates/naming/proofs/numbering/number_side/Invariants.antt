use Rattle.std.proofs.Common.{map, take}
use Rattle.bounded.specs.Bounded.{items}
use Rattle.patterns.specs.Tables.{written}
use Rattle.naming.specs.Names.{predicates_of, names_of}
use Rattle.naming.proofs.Sides.{Begun}
use Rattle.naming.proofs.numbering.number_side.Given as goal

abbrev pub invariant-loop-atom : goal.invariant-loop-atom
invariant-loop-atom l = Begun (predicates_of l.known) (map written (take l.atom-index l.atom-items)) (names_of l.initial.variables) (names_of l.variables) (items l.atoms)
