use Rattle.reading.proofs.Digits.{Begun}
use Rattle.reading.proofs.values.numbers.decimal.Given as goal

abbrev pub invariant-loop-b : goal.invariant-loop-b
invariant-loop-b l = Begun l.text l.b-index l.n
