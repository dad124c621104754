use Rattle.std.proofs.Common.{ℕ, List, sym, subst}
use Rattle.rules.specs.Views.{plain_rule}
use Rattle.dependencies.specs.Occurring.{rest}
use Rattle.dependencies.specs.Tables.{Raised, Among, EdgesFrom}
use Rattle.dependencies.specs.Views.{pair}
use Rattle.dependencies.proofs.Raising.{raised_first}
use Rattle.dependencies.proofs.table.add_rule.Goals as goal

pub loop-from-preserved : goal.loop-from-preserved
loop-from-preserved c =
    let r = plain_rule c.args.rule.now in (
      tt,
      tt,
      λ after left.
          c.loop-from.invariant.2 after
          (subst (λ (os : List (ℕ × ℕ)). Raised (Among (EdgesFrom r) os) c.loop-from.table after) (sym c.in-Some.ensures.steps)
          (raised_first (EdgesFrom r) (pair c.in-Some.from) (rest c.next.new.self) c.loop-from.table c.add_from.new.table after c.add_from.ensures left)),
    )
