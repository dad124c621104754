use Rattle.tokens.proofs.Checking.{Held}
use Rattle.tokens.proofs.bytes.first_stray.Given as goal

abbrev pub invariant-loop-i : goal.invariant-loop-i
invariant-loop-i l = Held l.line l.stray l.due l.i
