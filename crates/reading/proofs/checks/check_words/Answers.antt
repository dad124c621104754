use Rattle.std.proofs.Common.{ℕ, sym, refl, ◌∙◌, subst}
use Rattle.std.proofs.lemmas.Result.{err_from_is_err_and}
use Rattle.reading.proofs.Scanning.{Scanned, scan_start, scan_more, scan_end, scan_long, scan_stray}
use Rattle.reading.proofs.checks.check_words.Goals as goal

pub loop-token-init : goal.loop-token-init
loop-token-init c = (refl, subst (λ (n : ℕ). Scanned c.new-lexer.result.line.now n) (sym c.new-lexer.ensures.at) (scan_start _))

pub returns-in_err-token : goal.returns-in_err-token
returns-in_err-token c form us all =
    let inv = c.loop-token.invariant in
    absurd (scan_stray _ _ _ _ _ us (inv.0 ∙ c.new-lexer.ensures.line) all inv.1 c.in_err-token.ensures.next)

pub loop-token-preserved : goal.loop-token-preserved
loop-token-preserved c =
    let inv = c.loop-token.invariant in
    let n = c.in_ok-token.ensures in
    (n.line ∙ inv.0, scan_more _ _ _ _ _ _ n.line c.in-Some.is inv.1 n.next c.in_ok-check_word.ensures)

pub returns-in_err-check_word : goal.returns-in_err-check_word
returns-in_err-check_word c form us all =
    let inv = c.loop-token.invariant in
    let n = c.in_ok-token.ensures in
    let p = err_from_is_err_and c.from_residual-in_err-check_word.result c.from_residual-in_err-check_word.ensures.1 in
    let (long, why, at) = c.in_err-check_word.ensures in
    rw (p.1, p.2) (scan_long form _ _ _ _ _ _ us _ (inv.0 ∙ c.new-lexer.ensures.line) c.in-Some.is all inv.1 n.next long at, sym why)

pub returns : goal.returns
returns c form us all =
    let inv = c.loop-token.invariant in
    scan_end form _ _ _ _ _ (inv.0 ∙ c.new-lexer.ensures.line) c.in_default.not-Some inv.1 c.in_ok-token.ensures.next
