use Rattle.std.proofs.Common.{◌≡◌, cond, eqb, get_or, rules}
use Rattle.graphs.proofs.Ranking.{finite}
use Rattle.lists.proofs.FromFn.{from_fn_each}
use Rattle.ranks.specs.Answers.{Ranked}
use Rattle.ranks.specs.Tables.{TableStep}
use Rattle.ranks.specs.declared.rank.Rank.TheVariants.{Number, Infinite}
use Rattle.ranks.proofs.Behind.{told}
use Rattle.ranks.proofs.Relaxed.{relaxed_round}
use Rattle.ranks.specs.Edges.{edges_of}
use Rattle.ranks.proofs.ranks_of.Goals as goal

pub invariant_of-search : goal.invariant_of-search
invariant_of-search c = record { round = relaxed_round (edges_of c.args.table.now) c.best.result.0 c.best.result.1 c.best.ensures.next }

pub returns-clause-each : goal.returns-clause-each
returns-clause-each c =
    let best = c.best.result.0 in
    let rounds = c.search-rounds.result in
    λ p l. from_fn_each _ (λ x r. Ranked (TableStep (edges_of c.args.table.now)) x r) _ _
    (λ x y q k.
    let is : y ≡ cond (eqb (get_or rounds x 0) 0) (Number (get_or best x 0)) Infinite = search rules in
    (search rules, rw is (told _ best rounds c.best.ensures.attained c.best.ensures.covers c.search-rounds.ensures.found x)))
    128 c.from_fn.ensures.items p Infinite l

pub returns-clause-laws : goal.returns-clause-laws
returns-clause-laws c = finite
