use Rattle.std.proofs.Common.{arith, rules}
use Rattle.reading.proofs.Digits.{begun_none, begun_more, begun_all, no_digit, too_large}
use Rattle.reading.proofs.values.numbers.decimal.Goals as goal

pub loop-b-init : goal.loop-b-init
loop-b-init c = begun_none _

pub returns-then-not-is_ascii_digit : goal.returns-then-not-is_ascii_digit
returns-then-not-is_ascii_digit c = no_digit _ _ c.loop-b-test.true (λ d. let n = c.if-not-is_ascii_digit.ensures.cases in search rules)

pub returns-then-next-gt-GREATEST : goal.returns-then-next-gt-GREATEST
returns-then-next-gt-GREATEST c =
    too_large _ _ _ c.loop-b-test.true c.if-not-is_ascii_digit.ensures.cases c.loop-b.invariant
    (let t = c.if-next-gt-GREATEST.true in let n = c.from.ensures in let d = c.from-in-loop-b.ensures in omega arith)

pub loop-b-preserved : goal.loop-b-preserved
loop-b-preserved c =
    begun_more _ _ _ _ c.loop-b-test.true c.if-not-is_ascii_digit.ensures.cases (let n = c.from.ensures in let d = c.from-in-loop-b.ensures in omega arith) c.if-next-gt-GREATEST.false c.loop-b.invariant

pub returns : goal.returns
returns c = begun_all _ _ _ (search rules) c.loop-b-test.false c.loop-b.invariant
