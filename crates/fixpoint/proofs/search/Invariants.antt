use Rattle.std.proofs.Common.{◌-◌}
use Rattle.fixpoint.specs.Steps.{Step}
use Rattle.fixpoint.proofs.Rounds.{Doing}
use Rattle.fixpoint.proofs.search.Given as goal

abbrev pub invariant-loop-before : goal.invariant-loop-before
invariant-loop-before g l = let y = g.Y.System in Doing (y.size l.system) (y.first l.system) (Step (y.numbered l.system)) l.rounds l.before

abbrev pub decreases-loop-before : goal.decreases-loop-before
decreases-loop-before g l = 1026 - l.before
