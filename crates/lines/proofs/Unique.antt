-- An input is cut into lines in one way.
use Rattle.std.proofs.Common.{◌≡◌, ℕ, zero, suc, ◌<◌, ◌⊎◌, List, [], ◌∷◌, ◌++◌, length, sym, refl, ap, ◌∙◌, subst, inl, inr, arith, length-append}
use Rattle.std.proofs.lemmas.Bool.{cases_eq}
use Rattle.lists.specs.Places.{At}
use Rattle.lists.proofs.Numbered.{at_next}
use Rattle.lines.specs.Cutting.{NoNewline, Cut, CutDetermined}
use Rattle.lines.specs.Cutting.Cut.{empty, last, line}

-- two lines that end at a newline of one input are one line, with one rest
line_single : (l m r t : List ℕ) → NoNewline l → NoNewline m → l ++ (10 ∷ r) ≡ m ++ (10 ∷ t) → (l ≡ m) × (r ≡ t)
line_single [] [] r t p q e = (refl, cc)
line_single [] (y ∷ m) r t p q e = absurd (q zero (cc))
line_single (x ∷ l) [] r t p q e = absurd (p zero (cc))
line_single (x ∷ l) (y ∷ m) r t p q e =
    let (same, rest) = line_single l m r t (λ i. p (suc i)) (λ i. q (suc i)) (cc) in
    let first : x ≡ y = cc in
    ((cc), rest)

line_long : (s l r : List ℕ) → s ≡ l ++ (10 ∷ r) → 0 < length s
line_long s l r e = omega (arith, simp length-append at (ap length e))

line_newline : (s l r : List ℕ) → NoNewline s → s ≡ l ++ (10 ∷ r) → ⊥
line_newline s l r n e = n (length l) (subst (λ (x : List ℕ). At x (length l) 10) (sym e) (at_next l r 10))

empty_short : (s : List ℕ) → s ≡ [] → 0 < length s → ⊥
empty_short s e h = omega (arith, ap length e)

pub cut_single : (s : List ℕ) (xs ys : List (List ℕ)) → Cut s xs → Cut s ys → xs ≡ ys
cut_single s xs ys (empty e) (empty f) = refl
cut_single s xs ys (empty e) (last h n) = absurd (empty_short s e h)
cut_single s xs (y ∷ ys) (empty e) (line l r n f c) = absurd (empty_short s e (line_long s l r f))
cut_single s xs ys (last h n) (empty f) = absurd (empty_short s f h)
cut_single s xs ys (last h n) (last g m) = refl
cut_single s xs (y ∷ ys) (last h n) (line l r m f c) = absurd (line_newline s l r n f)
cut_single s (x ∷ xs) ys (line l r n e c) (empty f) = absurd (empty_short s f (line_long s l r e))
cut_single s (x ∷ xs) ys (line l r n e c) (last h m) = absurd (line_newline s l r m e)
cut_single s (x ∷ xs) (y ∷ ys) (line l r n e c) (line m t o f d) =
    let (same, rest) = line_single l m r t n o (sym e ∙ f) in
    let more = cut_single t xs ys (subst (λ (z : List ℕ). Cut z xs) rest c) d in
    cc

-- a byte before an input: it begins a line, or is one more in the first
cut_more : (b : ℕ) (s : List ℕ) (ls : List (List ℕ)) → (b ≡ 10 → ⊥) → Cut s ls → (ms : List (List ℕ)) × Cut (b ∷ s) ms
cut_more b s ls n (empty e) = ((b ∷ s) ∷ [], last (omega arith) (subst (λ (x : List ℕ). NoNewline (b ∷ x)) (sym e) alone))
  where
    alone : NoNewline (b ∷ [])
    alone zero h = n h
    alone (suc i) h = h
cut_more b s ls n (last h m) = ((b ∷ s) ∷ [], last (omega arith) longer)
  where
    longer : NoNewline (b ∷ s)
    longer zero q = n q
    longer (suc i) q = m i q
cut_more b s (x ∷ ls) n (line l r m e c) = ((b ∷ l) ∷ ls, line (b ∷ l) r longer (ap (λ (y : List ℕ). b ∷ y) e) c)
  where
    longer : NoNewline (b ∷ l)
    longer zero q = n q
    longer (suc i) q = m i q

cut_some : (s : List ℕ) → (ls : List (List ℕ)) × Cut s ls
cut_some [] = ([], empty refl)
cut_some (b ∷ s) = cases (cut_some s) (cases_eq b 10)
  where
    cases : (ls : List (List ℕ)) × Cut s ls → (b ≡ 10) ⊎ (b ≡ 10 → ⊥) → (ms : List (List ℕ)) × Cut (b ∷ s) ms
    cases (ls, c) (inl e) = ([] ∷ ls, line [] s (λ i h. h) (ap (λ (x : ℕ). x ∷ s) e) c)
    cases (ls, c) (inr n) = cut_more b s ls n c

pub determined : (s : List ℕ) → CutDetermined s
determined s = record { some = cut_some s; one = cut_single s }
