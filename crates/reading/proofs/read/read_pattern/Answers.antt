use Rattle.std.proofs.Common.{ℕ, sym, refl, ◌∙◌, subst, inl}
use Rattle.std.proofs.lemmas.Result.{err_from_is_err_and}
use Rattle.reading.proofs.Completing.{Along, along_start, along_more, along_stray, along_stuck, along_end}
use Rattle.reading.proofs.read.read_pattern.Goals as goal

pub loop-token-init : goal.loop-token-init
loop-token-init c =
    let line = c.new-lexer.result.line in
    (refl, λ form shows. subst (λ (n : ℕ). Along form line c.new-reader.result n) (sym c.new-lexer.ensures.at) (along_start _ _ _ (shows line)))

pub returns-in_err-token : goal.returns-in_err-token
returns-in_err-token c =
    let inv = c.loop-token.invariant in
    let form = c.args.form in
    absurd (along_stray form _ _ _ _ _ c.loop-token.reader c.requires.0 (inv.0 ∙ c.new-lexer.ensures.line) c.requires.1 (inv.1 form c.new-reader.ensures) c.in_err-token.ensures.next)

pub loop-token-preserved : goal.loop-token-preserved
loop-token-preserved c =
    let inv = c.loop-token.invariant in
    let n = c.in_ok-token.ensures in
    (n.line ∙ inv.0, λ form shows. along_more form _ _ _ _ _ _ c.loop-token.reader c.feed.new.self n.line c.in-Some.is (inv.1 form shows) n.next c.in_ok-feed.ensures.fed)

pub returns-in_err-feed : goal.returns-in_err-feed
returns-in_err-feed c =
    let inv = c.loop-token.invariant in
    let n = c.in_ok-token.ensures in
    let form = c.args.form in
    let p = err_from_is_err_and c.from_residual-in_err-feed.result c.from_residual-in_err-feed.ensures.1 in
    rw (p.1, p.2) (inl (along_stuck form _ _ _ _ _ _ c.loop-token.reader c.feed.new.self _ c.requires.0 (inv.0 ∙ c.new-lexer.ensures.line) c.in-Some.is c.requires.1 (inv.1 form c.new-reader.ensures) n.next c.in_err-feed.ensures.fed))

pub returns : goal.returns
returns c =
    let inv = c.loop-token.invariant in
    let form = c.args.form in
    along_end form _ _ _ _ _ c.loop-token.reader _ _ (inv.0 ∙ c.new-lexer.ensures.line) c.in_default.not-Some refl (inv.1 form c.new-reader.ensures) c.in_ok-token.ensures.next c.finished.ensures
