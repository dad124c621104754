use Rattle.std.proofs.Common.{◌≡◌, ◌+◌, ℕ, true, get_or, subst, inl, inr, arith}
use Rattle.std.proofs.lemmas.Bool.{both_ways, cases_lt}
use Rattle.lists.proofs.Leading.{leads}
use Rattle.tokens.specs.Tokens.{word_byte}
use Rattle.tokens.proofs.run_end.Goals as goal

pub returns : goal.returns
returns c =
    let s = c.args.line.now in
    let from = c.args.from in
    let e = from + c.word_length.result in
    let l = leads word_byte s 0 from _ (omega (arith, c.requires.0)) c.word_length.ensures.count in
    record {
      some = elim (cases_lt from e) [
        | inl h ↦ h
        | inr h ↦ let same : from ≡ e = omega arith in absurd (both_ways _ (l.stops (omega (arith, c.requires.0))) (subst (λ (i : ℕ). word_byte (get_or s i 0) ≡ true) same c.requires.1))
      ];
      within = l.within;
      all = l.passes;
      stops = l.stops;
    }
