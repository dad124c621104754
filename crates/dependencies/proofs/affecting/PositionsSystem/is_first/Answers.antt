use Rattle.std.proofs.Common.{rules}
use borrow.Author.Tests.{tests}
use Rattle.std.proofs.lemmas.Iterator.{cases_from_any, YieldsList-from_slice}
use Rattle.rules.specs.declared.rule.Rule.{Rule}
use Rattle.rules.specs.Views.{plain_rule}
use Rattle.dependencies.specs.Affecting.{FirstIn}
use Rattle.dependencies.proofs.Looking.{any_decides}
use Rattle.dependencies.proofs.Passing.{first_of}
use Rattle.dependencies.proofs.affecting.PositionsSystem.is_first.Goals as goal

pub returns : goal.returns
returns c _ =
    let all = c.args.self.now.rules.now in
    let p = c.args.i in
    let first : Rule → Type 0 = λ x. FirstIn (plain_rule x) p in
    first_of all p c.any.result
    (any_decides first (λ x. first x → ⊥) all (λ x no yes. no yes) c.any.result
    (cases_from_any _ _ _ (λ (x : Rule). FirstIn (plain_rule x) p) (λ (x : Rule). FirstIn (plain_rule x) p → ⊥) c.any.ensures.ran (YieldsList-from_slice all (search rules)) (λ x q k. search (rules, tests)) (λ x q k. search (rules, tests))))
