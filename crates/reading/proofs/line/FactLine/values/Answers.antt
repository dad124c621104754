use Rattle.std.proofs.Common.{◌≡◌, ◌∷◌, [], ◌++◌, rules, ap, ◌∙◌}
use Rattle.std.proofs.lemmas.Result.{err_from_is_err_and}
use Rattle.bounded.specs.Bounded.{items}
use Rattle.reading.proofs.Valuing.{told_number, told_none, front_more, front_all, front_bad}
use Rattle.reading.proofs.line.FactLine.values.Goals as goal

pub returns-in_err-number : goal.returns-in_err-number
returns-in_err-number c =
    let p = err_from_is_err_and c.from_residual.result c.from_residual.ensures.1 in
    let q : c.in_err-number.field-0.0 ≡ c.at.result = search rules in
    let bad = told_none _ _ c.in_err-number.ensures.ok_part c.decimal.ensures in
    let (v, a) = front_bad c.args.self.now _ _ _ _ c.in_err-number.field-0.0 c.words-words.ensures.words c.loop-word-test.true c.loop-word.invariant bad (ap (λ r. r.question) q ∙ c.at.ensures.question) (ap (λ r. r.place) q ∙ c.at.ensures.place) in
    record { values = rw (p.1, p.2) v; asked = rw (p.1, p.2) a }

pub loop-word-preserved : goal.loop-word-preserved
loop-word-preserved c =
    let good = told_number _ _ _ c.in_ok-number.ensures.ok_part c.decimal.ensures in
    let more : items c.push.new.self ≡ items c.loop-word.values ++ (c.in_ok-number.number ∷ []) = search rules in
    front_more _ _ _ _ _ _ c.loop-word-test.true c.loop-word.invariant good more

pub returns : goal.returns
returns c =
    let (v, a) = front_all c.args.self.now _ _ c.loop-word.values c.words-words.ensures.words c.loop-word-test.false c.loop-word.invariant in
    record { values = v; asked = a }
