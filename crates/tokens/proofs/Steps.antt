-- A reading from the left goes on by blanks and by a token, and passes through every place that it reaches.
use Rattle.std.proofs.Common.{◌≡◌, ℕ, zero, suc, ◌+◌, ◌-◌, ◌<◌, List, [], ◌∷◌, ◌++◌, length, sym, refl, ap, ◌∙◌, subst, append-nil, arith}
use Rattle.tokens.specs.Tokens.{Kind, Lies, Token, token_at, Between, Tokens, NothingAt, Stray}
use Rattle.tokens.specs.Tokens.Between.{none, blank, token}
use Rattle.tokens.specs.Lexing.{Blanks}
use Rattle.tokens.proofs.Unique.{lies_kind, lies_end, lies_longer, lies_within, lies_no_blank, between_passes}

pub between_join : (s : List ℕ) (a e i : ℕ) (ts us : List Token) → Between s a i ts → Between s e a us → Between s e i (ts ++ us)
between_join s a e i ts us (none q) r = subst (λ x. Between s e x us) (sym q) r
between_join s a e i ts us (blank b t) r = blank b (between_join s a e (i + 1) ts us t r)
between_join s a e i (x ∷ ts) us (token j k l t) r = token j k l (between_join s a e j ts us t r)

only_blanks : (s : List ℕ) (n i a : ℕ) → a ≡ i + n → Blanks s i a → Between s a i []
only_blanks s zero i a q b = none (omega arith)
only_blanks s (suc n) i a q b =
    let w = b.within in
    blank (omega arith, b.all i (omega arith) (omega arith)) (only_blanks s n (i + 1) a (omega arith) (record { from = omega arith; within = w; all = λ k f l. b.all k (omega arith) l }))

pub blanks_between : (s : List ℕ) (i a : ℕ) → Blanks s i a → Between s a i []
blanks_between s i a b = let f = b.from in only_blanks s (a - i) i a (omega arith) b

pub between_blanks : (s : List ℕ) (i a : ℕ) (ts : List Token) → Between s i 0 ts → Blanks s i a → Between s a 0 ts
between_blanks s i a ts t b = subst (Between s a 0) (append-nil ts) (between_join s i a 0 ts [] t (blanks_between s i a b))

pub between_snoc : (s : List ℕ) (a e : ℕ) (k : Kind) (ts : List Token) → Between s a 0 ts → Lies s a e k → Between s e 0 (ts ++ (token_at s a e k ∷ []))
between_snoc s a e k ts t l = between_join s a e 0 ts (token_at s a e k ∷ []) t (token e k l (none refl))

-- what is read from a place at which a token lies begins with that token
pub between_begins : (s : List ℕ) (a e n : ℕ) (k : Kind) (us : List Token) → Lies s a e k → Between s n a us → a < n → (rest : List Token) × (us ≡ token_at s a e k ∷ rest) × Between s n e rest
between_begins s a e n k us l (none q) h = absurd (omega arith)
between_begins s a e n k us l (blank b r) h = absurd (lies_no_blank s a e k b l)
between_begins s a e n k (u ∷ us) l (token j m o r) h =
    let km = lies_kind s a e j k m l o in
    let ej = lies_end s a e j m (subst (λ x. Lies s a e x) km l) o in
    (us, (cc), subst (λ x. Between s n x us) (sym ej) r)

pub next_token : (s : List ℕ) (a e : ℕ) (k : Kind) (ts us : List Token) → Tokens s us → Between s a 0 ts → Lies s a e k → (rest : List Token) × (us ≡ ts ++ (token_at s a e k ∷ rest))
next_token s a e k ts us u t l =
    let w = lies_within s a e k l in
    let g = lies_longer s a e k l in
    let (more, same, left) = between_passes s a (length s) 0 ts us t u (omega arith) in
    let (rest, first, _) = between_begins s a e (length s) k more l left (omega arith) in
    (rest, same ∙ ap (λ (x : List Token). ts ++ x) first)

pub stray_here : (s : List ℕ) (p : ℕ) (ts : List Token) → Between s p 0 ts → NothingAt s p → Stray s p
stray_here s p ts t n = record { before = (ts, t); here = n }
