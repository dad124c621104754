use Rattle.std.proofs.Common.{◌≤◌}
use Rattle.book_trials.proofs.positions_of.Given as goal

abbrev pub invariant-loop-position : goal.invariant-loop-position
invariant-loop-position l = l.unknown ≤ l.position
