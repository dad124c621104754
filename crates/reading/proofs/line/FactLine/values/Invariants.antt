use Rattle.bounded.specs.Bounded.{items}
use Rattle.reading.proofs.Valuing.{Front}
use Rattle.reading.proofs.line.FactLine.values.Given as goal

abbrev pub invariant-loop-word : goal.invariant-loop-word
invariant-loop-word l = Front l.words l.word-index (items l.values)
