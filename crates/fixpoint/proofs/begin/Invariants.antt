use Rattle.fixpoint.proofs.Beginning.{Beginning}
use Rattle.fixpoint.proofs.begin.Given as goal

abbrev pub invariant-loop-item : goal.invariant-loop-item
invariant-loop-item g l = Beginning l.item-end (g.Y.System.first l.system) l.rounds l.item
