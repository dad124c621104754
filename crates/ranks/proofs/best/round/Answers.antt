use Rattle.std.proofs.Common.{rules}
use Rattle.lists.proofs.FromFn.{from_fn_each}
use Rattle.ranks.specs.Relaxing.{Relaxes}
use Rattle.ranks.specs.Edges.{edges_of}
use Rattle.ranks.proofs.best.round.Goals as goal

pub returns : goal.returns
returns c = record {
  long = c.from_fn.ensures.items.long;
  each = λ to l. from_fn_each _ (λ x r. Relaxes (edges_of c.args.table.now) c.args.best.now 128 x r) _ _ (λ x y q k. search rules) 128 c.from_fn.ensures.items to 0 l;
}
