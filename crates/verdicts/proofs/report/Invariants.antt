use Rattle.std.proofs.Common.{◌≤◌}
use Rattle.verdicts.proofs.report.Given as goal

abbrev pub invariant-loop-line : goal.invariant-loop-line
invariant-loop-line l = l.refused ≤ l.line-iterator.number
