use Rattle.std.proofs.Common.{◌≡◌, suc, ◌+◌, ◌<◌, List, [], ◌∷◌, map, drop, sym, ap, ◌∙◌, subst, length, get_or, add-one, arith, drop-cons}
use Rattle.std.proofs.lemmas.List.{drop_all}
use Rattle.rules.specs.declared.rule.Rule.{Rule}
use Rattle.rules.specs.Views.{plain_rule}
use Rattle.dependencies.specs.Tables.{Raised, Among, EdgesOf}
use Rattle.dependencies.proofs.Raising.{raised_none, raised_first, tabulated}
use Rattle.dependencies.proofs.table.edges.Goals as goal

pub loop-rule-preserved : goal.loop-rule-preserved
loop-rule-preserved c = λ after left.
    let i = c.loop-rule.rule-index in
    let rules = c.args.rules.now in
    let x = c.rule-item.result in
    let here : x ≡ get_or rules i x = cc in
    let inside : i < length rules = omega arith in
    let first : drop i rules ≡ x ∷ drop (i + 1) rules = rw add-one (drop-cons rules i x inside ∙ ap (λ (y : Rule). y ∷ drop (suc i) rules) (sym here)) in
    c.loop-rule.invariant after
    (subst (λ (rest : List Rule). Raised (Among EdgesOf (map plain_rule rest)) c.loop-rule.table after) (sym first)
    (raised_first EdgesOf (plain_rule x) (map plain_rule (drop (i + 1) rules)) c.loop-rule.table c.add_rule.new.table after c.add_rule.ensures left))

pub returns : goal.returns
returns c =
    let rules = c.args.rules.now in
    let done : drop c.loop-rule.rule-index rules ≡ [] = drop_all c.loop-rule.rule-index rules c.loop-rule-test.false in
    tabulated rules c.loop-rule.table
    (c.loop-rule.invariant c.loop-rule.table
    (subst (λ (rest : List Rule). Raised (Among EdgesOf (map plain_rule rest)) c.loop-rule.table c.loop-rule.table) (sym done) (raised_none (Among EdgesOf []) c.loop-rule.table (λ e p q (k, x, here, _). here))))
