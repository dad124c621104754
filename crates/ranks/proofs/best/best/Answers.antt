use Rattle.std.proofs.Common.{arith}
use Rattle.std.proofs.lemmas.Slice.Eq.{slice_eq-Decides}
use Rattle.ranks.proofs.Rounds.{after_none, after_more, after_all, settled}
use Rattle.ranks.proofs.best.best.Goals as goal
use Rattle.std.proofs.lemmas.Bool.Decides.{Decides-eqb}
use Rattle.ranks.specs.Edges.{edges_of}

pub loop-init : goal.loop-init
loop-init c = after_none (edges_of c.args.table.now)

pub round-next-requires : goal.round-next-requires
round-next-requires c = λ p. omega (arith, c.loop.invariant.low p)

pub returns-then-eq : goal.returns-then-eq
returns-then-eq c = record { attained = c.loop.invariant.attained; covers = settled (edges_of c.args.table.now) c.loop.best c.round-next.result 127 c.round-next.ensures ((slice_eq-Decides Decides-eqb c.round-next.result c.loop.best c.eq.result c.eq.ensures).0 c.if-eq.true); next = c.round-next.ensures }

pub loop-preserved : goal.loop-preserved
loop-preserved c = after_more (edges_of c.args.table.now) c.loop.counter c.loop.best c.round-next.result c.loop.invariant c.round-next.ensures

pub returns : goal.returns
returns c = record { attained = c.loop.invariant.attained; covers = after_all (edges_of c.args.table.now) c.loop.counter c.loop.best c.loop.invariant c.loop-test.false; next = c.round-next-2.ensures }
