use Rattle.std.proofs.Common.{rules}
use borrow.Author.Tests.{tests}
use Rattle.std.proofs.lemmas.Iterator.{cases_from_any}
use Rattle.std.proofs.lemmas.Iterator.Consumers.{YieldsList-from_first}
use Rattle.rules.specs.Views.{plain_side}
use Rattle.dependencies.specs.Views.{pair}
use Rattle.dependencies.specs.Occurring.{occurrences_of, rest}
use Rattle.dependencies.proofs.Looking.{any_decides}
use Rattle.dependencies.proofs.Passing.{FirstAt, NotFirstAt, first_in}
use Rattle.dependencies.proofs.affecting.is_first_in.Goals as goal

pub returns : goal.returns
returns c =
    let x = c.args.rule.now in
    let p = c.args.position in
    let os = occurrences_of (plain_side x.head) in
    first_in x p c.any.result
    (any_decides (FirstAt x p) (NotFirstAt x p) os (λ o no yes. yes.1 (no yes.0)) c.any.result
    (cases_from_any c.any.new.self _ _ (FirstAt x p) (NotFirstAt x p) c.any.ensures.ran (YieldsList-from_first pair rest {s = c.occurrences_in.result} os c.occurrences_in.ensures) (λ o q k. search (rules, tests)) (λ o q k. search (rules, tests))))
