use Rattle.std.proofs.Common.{ℕ, List, length, Some, ap, subst, arith}
use Rattle.patterns.specs.Tables.{side_of}
use Rattle.naming.specs.Names.{predicates_of, names_of}
use Rattle.naming.specs.Meaning.{words_of}
use Rattle.naming.specs.Numbering.{SideNumbered}
use Rattle.naming.proofs.Sides.{rule_numbered, joined_most}
use Rattle.naming.proofs.numbering.number_rule.Goals as goal

pub returns-in_err-head : goal.returns-in_err-head
returns-in_err-head c =
    let rule = c.args.rule.now in
    let body = c.in_ok-body.ensures in
    let most = joined_most (names_of c.new-variables.result) (words_of (side_of rule.body)) (names_of c.number_side.new.variables) body.1 in
    let none = ap (λ (k : List (List ℕ)). length k) c.new-variables.ensures in
    rw c.from_residual-in_err-head.ensures (λ small nameable able. omega (arith, c.in_err-head.ensures small able, body.2))

pub returns : goal.returns
returns c =
    let rule = c.args.rule.now in
    let known = predicates_of c.args.known.now in
    let mid = names_of c.number_side.new.variables in
    let body = subst (λ (k : List (List ℕ)). SideNumbered known (side_of rule.body) k mid (Some c.in_ok-body.body)) c.new-variables.ensures c.in_ok-body.ensures in
    (rule_numbered known (side_of rule.body) (side_of rule.head) mid (names_of c.number_side-2.new.variables) c.new-label.result c.in_ok-body.body c.in_ok-head.head body c.in_ok-head.ensures, c.new-label.ensures)
