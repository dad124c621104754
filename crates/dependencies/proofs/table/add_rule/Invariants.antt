use Rattle.std.proofs.Common.{List, Option}
use Rattle.rules.specs.Views.{plain_rule, plain_side}
use Rattle.ranks.specs.declared.edge.Edge.{Edge}
use Rattle.dependencies.specs.Occurring.{occurrences_of, rest}
use Rattle.dependencies.specs.Tables.{Raised, Among, EdgesFrom}
use Rattle.dependencies.proofs.table.add_rule.Given as goal

-- raising the edges that are left raises all
abbrev pub invariant-loop-from : goal.invariant-loop-from
invariant-loop-from l =
    (goal.iterator-loop-from).can_next l.from-iterator × (goal.iterator-loop-from).is_finite l.from-iterator
    × ((after : List (Option Edge)) → Raised (Among (EdgesFrom (plain_rule l.rule)) (rest l.from-iterator)) l.table after → Raised (Among (EdgesFrom (plain_rule l.rule)) (occurrences_of (plain_side l.rule.body))) l.initial.table after)
