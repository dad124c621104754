use Rattle.ranks.specs.Edges.{edges_of}
use Rattle.ranks.proofs.Rounds.{After}
use Rattle.ranks.proofs.best.best.Given as goal

abbrev pub invariant-loop : goal.invariant-loop
invariant-loop l = After (edges_of l.table) l.counter l.best
