use Rattle.fixpoint.proofs.Growing.{Growing}
use Rattle.fixpoint.proofs.grow.Given as goal

abbrev pub invariant-loop-s : goal.invariant-loop-s
invariant-loop-s g l = let y = g.Y.System in Growing l.n (y.numbered l.system) l.initial.rounds l.rounds l.before l.s l.grew
