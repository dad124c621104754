use Rattle.std.proofs.Common.{List, Option}
use Rattle.rules.specs.Views.{plain_rule, plain_side}
use Rattle.ranks.specs.declared.edge.Edge.{Edge}
use Rattle.dependencies.specs.Occurring.{occurrences_of, rest}
use Rattle.dependencies.specs.Tables.{Raised, Among, EdgesTo}
use Rattle.dependencies.specs.Views.{pair}
use Rattle.dependencies.proofs.table.add_from.Given as goal

-- raising the edges that are left raises all
abbrev pub invariant-loop-to : goal.invariant-loop-to
invariant-loop-to l =
    (goal.iterator-loop-to).can_next l.to-iterator × (goal.iterator-loop-to).is_finite l.to-iterator
    × ((after : List (Option Edge)) → Raised (Among (EdgesTo (plain_rule l.rule) (pair l.from)) (rest l.to-iterator)) l.table after → Raised (Among (EdgesTo (plain_rule l.rule) (pair l.from)) (occurrences_of (plain_side l.rule.head))) l.initial.table after)
