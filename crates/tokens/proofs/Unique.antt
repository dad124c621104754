-- A line is read in one way: one token at a place, one list of tokens, one first stray byte.
use Rattle.std.proofs.Common.{◌≡◌, ℕ, ◌+◌, ◌<◌, ◌≤◌, Bool, true, false, cond, eqb, ◌⊎◌, List, [], ◌∷◌, ◌++◌, length, get_or, sym, refl, ap, ◌∙◌, subst, inl, inr, append-nil, arith}
use Rattle.lists.proofs.Numbered.{order}
use Rattle.tokens.specs.Tokens.{word_byte, Byte, Run, Kind, Lies, Token, Between, Tokens, NothingAt, Stray, Determined}
use Rattle.tokens.specs.Tokens.Kind.{word, bars, arrow, opens, closes, comma, stop}
use Rattle.tokens.specs.Tokens.Between.{none, blank, token}

-- a byte as the mark of a kind: 0 for the bytes of words
mark : ℕ → ℕ
mark b = cond (word_byte b) 0 b

code : Kind → ℕ
code word = 0
code bars = 124
code arrow = 45
code opens = 40
code closes = 41
code comma = 44
code stop = 46

kind_at : ℕ → Kind
kind_at b = cond (eqb b 0) word (cond (eqb b 124) bars (cond (eqb b 45) arrow (cond (eqb b 40) opens (cond (eqb b 41) closes (cond (eqb b 44) comma stop)))))

kind_code : (k : Kind) → kind_at (code k) ≡ k
unfolding code kind_at
kind_code word = refl
kind_code bars = refl
kind_code arrow = refl
kind_code opens = refl
kind_code closes = refl
kind_code comma = refl
kind_code stop = refl

lies_code : (s : List ℕ) (i e : ℕ) (k : Kind) → Lies s i e k → mark (get_or s i 0) ≡ code k
unfolding word_byte mark code
lies_code s i e word r = ap (λ (t : Bool). cond t 0 (get_or s i 0)) (r.all i (omega arith) r.some)
lies_code s i e bars (b, _, _, _) = ap mark b.1
lies_code s i e arrow (b, _, _) = ap mark b.1
lies_code s i e opens (b, _) = ap mark b.1
lies_code s i e closes (b, _) = ap mark b.1
lies_code s i e comma (b, _) = ap mark b.1
lies_code s i e stop (b, _) = ap mark b.1

pub lies_kind : (s : List ℕ) (i e j : ℕ) (k m : Kind) → Lies s i e k → Lies s i j m → k ≡ m
lies_kind s i e j k m a b = sym (kind_code k) ∙ ap kind_at (sym (lies_code s i e k a) ∙ lies_code s i j m b) ∙ kind_code m

blank_code : (k : Kind) → mark 32 ≡ code k → ⊥
unfolding mark word_byte code
blank_code word e = omega arith
blank_code bars e = omega arith
blank_code arrow e = omega arith
blank_code opens e = omega arith
blank_code closes e = omega arith
blank_code comma e = omega arith
blank_code stop e = omega arith

pub lies_no_blank : (s : List ℕ) (i e : ℕ) (k : Kind) → Byte s i 32 → Lies s i e k → ⊥
lies_no_blank s i e k b l = blank_code k (sym (ap mark b.1) ∙ lies_code s i e k l)

run_end : (s : List ℕ) (i e j : ℕ) → Run s i e → Run s i j → e ≡ j
run_end s i e j a b = cases (order e j)
  where
    cases : (e < j) ⊎ ((e ≡ j) ⊎ (j < e)) → e ≡ j
    cases (inl l) = let t = b.all e (omega arith) l in let f = a.stops (omega arith) in let z : ◌≡◌ {A = Bool} true false = sym t ∙ f in cc
    cases (inr (inl q)) = q
    cases (inr (inr l)) = let t = a.all j (omega arith) l in let f = b.stops (omega arith) in let z : ◌≡◌ {A = Bool} true false = sym t ∙ f in cc

pub lies_end : (s : List ℕ) (i e j : ℕ) (k : Kind) → Lies s i e k → Lies s i j k → e ≡ j
lies_end s i e j word a b = run_end s i e j a b
lies_end s i e j bars a b = a.3 ∙ sym b.3
lies_end s i e j arrow a b = a.2 ∙ sym b.2
lies_end s i e j opens a b = a.1 ∙ sym b.1
lies_end s i e j closes a b = a.1 ∙ sym b.1
lies_end s i e j comma a b = a.1 ∙ sym b.1
lies_end s i e j stop a b = a.1 ∙ sym b.1

pub lies_longer : (s : List ℕ) (i e : ℕ) (k : Kind) → Lies s i e k → i < e
lies_longer s i e word a = a.some
lies_longer s i e bars a = omega (arith, a.3)
lies_longer s i e arrow a = omega (arith, a.2)
lies_longer s i e opens a = omega (arith, a.1)
lies_longer s i e closes a = omega (arith, a.1)
lies_longer s i e comma a = omega (arith, a.1)
lies_longer s i e stop a = omega (arith, a.1)

pub lies_within : (s : List ℕ) (i e : ℕ) (k : Kind) → Lies s i e k → e ≤ length s
lies_within s i e word a = a.within
lies_within s i e bars a = omega (arith, a.3, a.2.0)
lies_within s i e arrow a = omega (arith, a.2, a.1.0)
lies_within s i e opens a = omega (arith, a.1, a.0.0)
lies_within s i e closes a = omega (arith, a.1, a.0.0)
lies_within s i e comma a = omega (arith, a.1, a.0.0)
lies_within s i e stop a = omega (arith, a.1, a.0.0)

pub between_le : (s : List ℕ) (e i : ℕ) (ts : List Token) → Between s e i ts → i ≤ e
between_le s e i ts (none q) = omega arith
between_le s e i ts (blank b r) = let h = between_le s e (i + 1) ts r in omega arith
between_le s e i (t ∷ ts) (token j k l r) = let h = between_le s e j ts r in let g = lies_longer s i j k l in omega arith

-- two readings from one place go together until the nearer of their ends
pub between_passes : (s : List ℕ) (a e i : ℕ) (ts us : List Token) → Between s a i ts → Between s e i us → a ≤ e → (rest : List Token) × (us ≡ ts ++ rest) × Between s e a rest
between_passes s a e i ts us (none q) r h = (us, refl, subst (λ x. Between s e x us) q r)
between_passes s a e i ts us (blank b t) (none q) h = let g = between_le s a (i + 1) ts t in absurd (omega arith)
between_passes s a e i ts us (blank b t) (blank c r) h = between_passes s a e (i + 1) ts us t r h
between_passes s a e i ts (u ∷ us) (blank b t) (token j k l r) h = absurd (lies_no_blank s i j k b l)
between_passes s a e i (x ∷ ts) us (token j k l t) (none q) h = let g = between_le s a j ts t in let f = lies_longer s i j k l in absurd (omega arith)
between_passes s a e i (x ∷ ts) us (token j k l t) (blank c r) h = absurd (lies_no_blank s i j k c l)
between_passes s a e i (x ∷ ts) (u ∷ us) (token j k l t) (token n m o r) h =
    let km = lies_kind s i j n k m l o in
    let jn = lies_end s i j n m (subst (λ y. Lies s i j y) km l) o in
    let (rest, same, left) = between_passes s a e n ts us (subst (λ y. Between s a y ts) jn t) r h in
    (rest, cc, left)

pub between_nothing : (s : List ℕ) (e : ℕ) (ts : List Token) → Between s e e ts → ts ≡ []
between_nothing s e ts (none q) = refl
between_nothing s e ts (blank b r) = let h = between_le s e (e + 1) ts r in absurd (omega arith)
between_nothing s e (t ∷ ts) (token j k l r) = let h = between_le s e j ts r in let g = lies_longer s e j k l in absurd (omega arith)

-- nothing is read from a stray byte on
pub between_stopped : (s : List ℕ) (p e : ℕ) (ts : List Token) → NothingAt s p → Between s e p ts → p ≡ e
between_stopped s p e ts n (none q) = q
between_stopped s p e ts n (blank b r) = absurd (n.no_blank b)
between_stopped s p e (t ∷ ts) n (token j k l r) = absurd (n.no_token j k l)

pub between_single : (s : List ℕ) (e i : ℕ) (ts us : List Token) → Between s e i ts → Between s e i us → ts ≡ us
between_single s e i ts us a b =
    let (rest, same, left) = between_passes s e e i ts us a b (omega arith) in
    sym (append-nil ts) ∙ ap (λ (x : List Token). ts ++ x) (sym (between_nothing s e rest left)) ∙ sym same

pub tokens_single : (s : List ℕ) (ts us : List Token) → Tokens s ts → Tokens s us → ts ≡ us
tokens_single s ts us a b = between_single s (length s) 0 ts us a b

pub stray_or_tokens : (s : List ℕ) (p : ℕ) (us : List Token) → Stray s p → Tokens s us → ⊥
stray_or_tokens s p us x t =
    let w = x.here.within in
    let (ts, b) = x.before in
    let (rest, same, left) = between_passes s p (length s) 0 ts us b t (omega arith) in
    let q = between_stopped s p (length s) rest x.here left in
    omega arith

stray_first : (s : List ℕ) (p q : ℕ) → Stray s p → Stray s q → p ≤ q → p ≡ q
stray_first s p q x y h =
    let (ts, b) = x.before in
    let (us, c) = y.before in
    let (rest, same, left) = between_passes s p q 0 ts us b c h in
    between_stopped s p q rest x.here left

pub stray_single : (s : List ℕ) (p q : ℕ) → Stray s p → Stray s q → p ≡ q
stray_single s p q x y = cases (order p q)
  where
    cases : (p < q) ⊎ ((p ≡ q) ⊎ (q < p)) → p ≡ q
    cases (inl l) = stray_first s p q x y (omega arith)
    cases (inr (inl e)) = e
    cases (inr (inr l)) = sym (stray_first s q p y x (omega arith))

pub determined : (s : List ℕ) → Determined s
determined s = record { tokens = tokens_single s; stray = stray_single s; apart = stray_or_tokens s }
