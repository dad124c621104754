use Rattle.std.proofs.Common.{ℕ, List, sym, subst}
use Rattle.rules.specs.Views.{plain_rule}
use Rattle.dependencies.specs.Occurring.{rest}
use Rattle.dependencies.specs.Tables.{Raised, Among, EdgesTo}
use Rattle.dependencies.specs.Views.{pair}
use Rattle.dependencies.proofs.Raising.{raised_first, raised_to}
use Rattle.dependencies.proofs.table.add_from.Goals as goal

pub loop-to-preserved : goal.loop-to-preserved
loop-to-preserved c =
    let r = plain_rule c.args.rule.now in
    let from = pair c.args.from in
    let to = pair c.in-Some.to in (
      tt,
      tt,
      λ after left.
          c.loop-to.invariant.2 after
          (subst (λ (os : List (ℕ × ℕ)). Raised (Among (EdgesTo r from) os) c.loop-to.table after) (sym c.in-Some.ensures.steps)
          (raised_first (EdgesTo r from) to (rest c.next.new.self) c.loop-to.table c.raise.new.table after (raised_to r from to c.edge_between.result c.loop-to.table c.raise.new.table c.edge_between.ensures c.raise.ensures) left)),
    )
