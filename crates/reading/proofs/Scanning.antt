-- Going along a line token by token, in search of a long word.
use Rattle.std.proofs.Common.{◌≡◌, ℕ, ◌<◌, ◌⊎◌, List, [], ◌∷◌, ◌++◌, length, Some, None, Ok, Err, Option, sym, refl, ◌∙◌, subst, inl, inr, arith, Bor}
use Rattle.questions.specs.declared.question.Refusal.{Refusal}
use Rattle.lists.specs.Places.{At}
use Rattle.lists.proofs.Numbered.{at_front, at_next, at_snoc}
use Rattle.tokens.specs.Tokens as plain
use Rattle.tokens.specs.Tokens.{Kind, token_at, Between, Tokens}
use Rattle.tokens.specs.Tokens.Between.{none}
use Rattle.tokens.specs.Lexing.{kind_of, place_of, Is, Next}
use Rattle.tokens.specs.declared.token.Token.{Token}
use Rattle.tokens.specs.declared.token.Token.TheVariants.{Word, Bars, Arrow, Open, Close, Comma, Stop}
use Rattle.tokens.proofs.Unique.{stray_or_tokens}
use Rattle.tokens.proofs.Steps.{between_blanks, between_snoc, next_token, stray_here}
use Rattle.patterns.specs.declared.state.Form.{Form}
use Rattle.patterns.specs.Asking.{LongWord, Yes, No}
use Rattle.patterns.specs.Asking.Asked.{word_length}
use Rattle.reading.specs.Lines.{Long}

-- a token of the lexer is long exactly if the token of the line is
long_there : (line : Bor (List ℕ)) (a e : ℕ) (t : Token) → Is line a e t → Long t → LongWord (token_at line.now a e (kind_of t))
long_there line a e (Word w) is l = (refl, subst (λ (x : List ℕ). 8 < length x) is.borrows.holds l)
long_there line a e (Bars p) is l = absurd l
long_there line a e (Arrow p) is l = absurd l
long_there line a e (Open p) is l = absurd l
long_there line a e (Close p) is l = absurd l
long_there line a e (Comma p) is l = absurd l
long_there line a e (Stop p) is l = absurd l

no_kind : (k : Kind) → (k ≡ Kind.word → ◌≡◌ {A = ℕ} 0 1) → k ≡ Kind.word → ⊥
no_kind k f e = let z = f e in omega arith

long_back : (line : Bor (List ℕ)) (a e : ℕ) (t : Token) → Is line a e t → LongWord (token_at line.now a e (kind_of t)) → Long t
long_back line a e (Word w) is (_, l) = subst (λ (x : List ℕ). 8 < length x) (sym is.borrows.holds) l
long_back line a e (Bars p) is (k, _) = no_kind Kind.bars (λ q. cc) k
long_back line a e (Arrow p) is (k, _) = no_kind Kind.arrow (λ q. cc) k
long_back line a e (Open p) is (k, _) = no_kind Kind.opens (λ q. cc) k
long_back line a e (Close p) is (k, _) = no_kind Kind.closes (λ q. cc) k
long_back line a e (Comma p) is (k, _) = no_kind Kind.comma (λ q. cc) k
long_back line a e (Stop p) is (k, _) = no_kind Kind.stop (λ q. cc) k

-- no word before the place at is long
abbrev pub Scanned : List ℕ → ℕ → Type 0
Scanned s at = (ts : List plain.Token) × Between s at 0 ts × ((k : ℕ) (t : plain.Token) → At ts k t → LongWord t → ⊥)

pub scan_start : (s : List ℕ) → Scanned s 0
scan_start s = ([], none refl, λ k t h. absurd h)

-- what the lexer gave, at a line that is the caller's
took : (line : Bor (List ℕ)) (i j : ℕ) (o : Option Token) (t : Token) → o ≡ Some t → Next line i j (Ok o) → Next line i j (Ok (Some t))
took line i j o t e n = subst (λ x. Next line i j (Ok x)) e n

pub scan_more : (line m : Bor (List ℕ)) (i j : ℕ) (o : Option Token) (t : Token) → m ≡ line → o ≡ Some t → Scanned line.now i → Next line i j (Ok o) → (Long t → ⊥) → Scanned m.now j
scan_more line m i j o t same some (ts, b, n) next short =
    let (a, blanks, is) = took line i j o t some next in
    let s = line.now in
    let u = token_at s a j (kind_of t) in
    subst (λ x. Scanned x.now j) (sym same) (ts ++ (u ∷ []), between_snoc s a j (kind_of t) ts (between_blanks s i a ts b blanks) is.lies, λ k v h l. cases a is k v l (at_snoc ts u k v h))
  where
    cases : (a : ℕ) → Is line a j t → (k : ℕ) (v : plain.Token) → LongWord v → At ts k v ⊎ ((k ≡ length ts) × (token_at line.now a j (kind_of t) ≡ v)) → ⊥
    cases a is k v l (inl h) = n k v h l
    cases a is k v l (inr (_, e)) = short (long_back line a j t is (subst LongWord (sym e) l))

pub scan_end : (form : Form) (line m : Bor (List ℕ)) (i j : ℕ) (o : Option Token) → line ≡ m → ((t : Token) → o ≡ Some t → ⊥) → Scanned line.now i → Next line i j (Ok o) → Yes form m.now word_length
scan_end form line m i j None same some (ts, b, n) (blanks, _) = subst (λ x. Yes form x.now word_length) same (ts, between_blanks line.now i (length line.now) ts b blanks, n)
scan_end form line m i j (Some t) same some (ts, b, n) next = absurd (some t refl)

pub scan_long : (form : Form) (line m : Bor (List ℕ)) (i j : ℕ) (o : Option Token) (t : Token) (us : List plain.Token) (p : ℕ) → line ≡ m → o ≡ Some t → Tokens m.now us → Scanned line.now i → Next line i j (Ok o) → Long t → p ≡ place_of t → No form m.now word_length p
scan_long form line m i j o t us p same some all (ts, b, n) next l at =
    let (a, blanks, is) = took line i j o t some next in
    let s = line.now in
    let u = token_at s a j (kind_of t) in
    let every = subst (λ x. Tokens x.now us) (sym same) all in
    let (rest, e) = next_token s a j (kind_of t) ts us every (between_blanks s i a ts b blanks) is.lies in
    subst (λ x. No form x.now word_length p) same (
      us,
      length ts,
      u,
      every,
      record {
        here = subst (λ x. At x (length ts) u) (sym e) (at_next ts rest u);
        does = long_there line a j t is l;
        earlier = λ k v h q. n k v (at_front ts (u ∷ rest) k v h (subst (λ x. At x k v) e q));
      },
      at ∙ is.place,
    )

pub scan_stray : (line m : Bor (List ℕ)) (i j : ℕ) (e : Refusal) (us : List plain.Token) → line ≡ m → Tokens m.now us → Scanned line.now i → Next line i j (Err e) → ⊥
scan_stray line m i j e us same all (ts, b, n) (_, _, blanks, nothing) =
    stray_or_tokens line.now e.place us (stray_here line.now e.place ts (between_blanks line.now i e.place ts b blanks) nothing) (subst (λ x. Tokens x.now us) (sym same) all)
