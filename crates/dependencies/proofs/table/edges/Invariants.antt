use Rattle.std.proofs.Common.{List, map, drop, replicate, None, Option}
use Rattle.rules.specs.Views.{plain_rule}
use Rattle.ranks.specs.declared.edge.Edge.{Edge}
use Rattle.dependencies.specs.Tables.{Raised, Among, EdgesOf}
use Rattle.dependencies.proofs.table.edges.Given as goal

-- raising the edges of the rules that are left raises all
abbrev pub invariant-loop-rule : goal.invariant-loop-rule
invariant-loop-rule l = (after : List (Option Edge)) → Raised (Among EdgesOf (map plain_rule (drop l.rule-index l.rules))) l.table after → Raised (Among EdgesOf (map plain_rule l.rules)) (replicate 16384 None) after
