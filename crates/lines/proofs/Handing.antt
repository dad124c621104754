-- Handing out a line: what is cut off in front, and what is left behind it.
use Rattle.std.proofs.Common.{◌≡◌, ℕ, ◌+◌, ◌<◌, ◌≤◌, min, List, [], ◌∷◌, ◌++◌, length, take, drop, sym, ◌∙◌, ap, subst, ⊎_elim, arith, take-append-drop, length-take, drop-drop}
use Rattle.std.proofs.lemmas.List.{drop_all, drop_more, take_all, get_or-take}
use Rattle.std.proofs.lemmas.Bool.{cases_lt}
use Rattle.lists.proofs.Numbered.{at_below, at_get}
use Rattle.lines.specs.Cutting.{NoNewline, Cut, Ends}
use Rattle.lines.specs.Cutting.Cut.{empty, last, line}
use Rattle.lines.proofs.Unique.{cut_single}

pub nothing_left : (s : List ℕ) (i : ℕ) → length s ≤ i → Cut (drop i s) []
nothing_left s i h = empty (drop_all i s h)

no_newline : (s : List ℕ) (e : ℕ) → Ends s e → NoNewline (take e s)
no_newline s e x k h =
    let below : k < e = omega (arith, simp length-take at (at_below (take e s) k 10 h)) in
    x.before k below (sym (get_or-take e s k 0 below) ∙ at_get _ k 10 0 h)

-- the bytes up to the newline, the newline, and the rest
parted : (s : List ℕ) (e : ℕ) → Ends s e → e < length s → s ≡ take e s ++ (10 ∷ drop (e + 1) s)
parted s e x h =
    let cut = take-append-drop e s in
    let first = drop_more s e 0 h in
    let newline = x.stops h in
    cc

-- with no newline up to the input's end, it is one line
whole : (s : List ℕ) (e : ℕ) → 0 < length s → Ends s e → length s ≤ e → Cut s (take e s ∷ [])
whole s e h x l =
    let all : take e s ≡ s = take_all e s l in
    subst (λ (k : List ℕ). Cut s (k ∷ [])) (sym all) (last h (subst NoNewline all (no_newline s e x)))

-- the line that is cut off, before the lines of what is left
line_first : (s : List ℕ) (e j : ℕ) (rest : List (List ℕ)) → 0 < length s → Ends s e → j ≡ min (length s) (e + 1) → Cut (drop j s) rest → Cut s (take e s ∷ rest)
line_first s e j rest h x q c = ⊎_elim
    (λ l. let there : j ≡ e + 1 = omega arith in line _ (drop (e + 1) s) (no_newline s e x) (parted s e x l) (subst (λ (k : ℕ). Cut (drop k s) rest) there c))
    (λ l. let none : [] ≡ rest = cut_single (drop j s) [] rest (nothing_left s j (omega arith)) c in subst (λ (r : List (List ℕ)). Cut s (take e s ∷ r)) none (whole s e h x l))
    (cases_lt e (length s))

-- the same of r, what is left of the text from the place i on
pub line_first_at : (text r : List ℕ) (i e j : ℕ) (rest : List (List ℕ)) → r ≡ drop i text → 0 < length r → Ends r e → j ≡ min (length r) (e + 1) → Cut (drop (i + j) text) rest → Cut (drop i text) (take e r ∷ rest)
line_first_at text r i e j rest here h x q c =
    let behind : drop (i + j) text ≡ drop j r = sym (drop-drop j i text) ∙ ap (drop j) (sym here) in
    subst (λ (s : List ℕ). Cut s (take e r ∷ rest)) here (line_first r e j rest h x q (subst (λ (s : List ℕ). Cut s rest) behind c))
