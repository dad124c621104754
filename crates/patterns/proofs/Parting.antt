-- A question on a line answers one thing, so a line has one outcome.
use Rattle.std.proofs.Common.{◌≡◌, ℕ, ◌≤◌, List, sym, ap, ◌∙◌, subst, arith}
use Rattle.lists.specs.Places.{At, First}
use Rattle.lists.proofs.Numbered.{first_single}
use Rattle.tokens.specs.Tokens.{Token}
use Rattle.tokens.proofs.Unique.{tokens_single, stray_or_tokens, stray_single}
use Rattle.patterns.specs.Patterns.{Written, Line, Writes, Breaks, TooMany}
use Rattle.patterns.specs.declared.state.Form.{Form}
use Rattle.patterns.specs.Patterns.Line.{fact_line}
use Rattle.patterns.specs.declared.state.Form.TheVariants as forms
use Rattle.patterns.specs.Asking.{Asked, LongWord, GoodNumber, question_of, Yes, No, asked, LineDetermined}
use Rattle.patterns.specs.Asking.Asked.{line_length, bytes, word_length, pattern, counts, numbers}
use Rattle.patterns.proofs.Shapes.{writes_single, breaks_or_follows, breaks_single}
use Rattle.questions.proofs.Parting.{first_no_single, all_or_first}

fact_single : (s : List ℕ) (a b : Written) → Writes forms.Fact s (fact_line a) → Writes forms.Fact s (fact_line b) → a ≡ b
fact_single s a b p q = let e = writes_single forms.Fact s (fact_line a) (fact_line b) p q in cc

least : (l m : Line) (w v : Token) → l ≡ m → TooMany l w → ((x : Token) → TooMany m x → v.place ≤ x.place) → v.place ≤ w.place
least l m w v e t h = h w (subst (λ x. TooMany x w) e t)

pub yes_or_no : (form : Form) (s : List ℕ) (x : Asked) (p : ℕ) → Yes form s x → No form s x p → ⊥
yes_or_no form s line_length p y (n, _) = omega arith
yes_or_no form s bytes p (ts, t) n = stray_or_tokens s p ts n t
yes_or_no form s word_length p (ts, t, y) (us, k, w, u, f, _) = y k w (subst (λ x. At x k w) (tokens_single s us ts u t) f.here) f.does
yes_or_no form s pattern p (l, (ts, t, f)) (us, u, b) = breaks_or_follows form s ts l p f (subst (λ x. Breaks form s x p) (tokens_single s us ts u t) b)
yes_or_no form s counts p (l, w, y) (m, v, u, t, _, _) = y v (subst (λ x. TooMany x v) (writes_single form s m l u w) t)
yes_or_no form s numbers p (a, w, y) (b, k, v, u, f, _) = f.does (y k v (subst (λ x. At x.words k v) (fact_single s b a u w) f.here))

pub no_single : (form : Form) (s : List ℕ) (x : Asked) (p q : ℕ) → No form s x p → No form s x q → p ≡ q
no_single form s line_length p q (_, e) (_, f) = e ∙ sym f
no_single form s bytes p q m n = stray_single s p q m n
no_single form s word_length p q (ts, k, t, a, f, e) (us, j, u, b, g, h) =
    e ∙ ap (λ (x : Token). x.place) (first_single LongWord us k j t u (subst (λ x. First LongWord x k t) (tokens_single s ts us a b) f) g) ∙ sym h
no_single form s pattern p q (ts, t, a) (us, u, b) = breaks_single form s us p q (subst (λ x. Breaks form s x p) (tokens_single s ts us t u) a) b
no_single form s counts p q (l, w, a, t, f, e) (m, v, b, u, g, h) =
    let same = writes_single form s l m a b in
    let low = least l m w v same t g in
    let high = least m l v w (sym same) u f in
    omega arith
no_single form s numbers p q (a, k, w, x, f, e) (b, j, v, y, g, h) =
    let same = fact_single s a b x y in
    e ∙ ap (λ (z : Token). z.place) (first_single (λ z. GoodNumber z.text → ⊥) b.words k j w v (subst (λ z. First (λ z. GoodNumber z.text → ⊥) z.words k w) same f) g) ∙ sym h

pub line_determined : (form : Form) (s : List ℕ) → LineDetermined form s
line_determined form s = record {
  written = writes_single form s;
  turned = first_no_single (Yes form s) (No form s) question_of (yes_or_no form s) (no_single form s) asked;
  apart = all_or_first (Yes form s) (No form s) question_of (yes_or_no form s) asked;
}
