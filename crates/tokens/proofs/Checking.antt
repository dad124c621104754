-- The byte check's loop: what is read before its index.
use Rattle.std.proofs.Common.{◌≡◌, ℕ, ◌+◌, ◌<◌, ◌≤◌, true, false, List, [], ◌∷◌, ◌++◌, length, get_or, Some, None, Option, sym, refl, subst, ⊎_elim, arith, MatchOption}
use Rattle.std.proofs.lemmas.Bool.{cases_eq, cases_Bool, cases_lt}
use Rattle.std.specs.Option.{option_or}
use Rattle.tokens.specs.Tokens.{word_byte, Token, token_at, Between, Stray}
use Rattle.tokens.specs.Tokens.Kind.{word}
use Rattle.tokens.specs.Tokens.Between.{none, blank as space}
use Rattle.tokens.specs.Reach.{Passes, Reach, Reaches}
use Rattle.tokens.specs.Reach.Passes.{blank, token}
use Rattle.tokens.proofs.Steps.{between_join, between_snoc}

-- the bytes before e are blanks and tokens
abbrev pub Read : List ℕ → ℕ → Type 0
Read s e = (ts : List Token) × Between s e 0 ts

passed : (s : List ℕ) (i e : ℕ) → Read s i → Passes s i e → Read s e
passed s i e (ts, t) (blank b q) = (ts ++ [], between_join s i e 0 ts [] t (space b (none (sym q))))
passed s i e (ts, t) (token k l) = (ts ++ (token_at s i e k ∷ []), between_snoc s i e k ts t l)

-- the bytes before due are read, but for a last word that may go on
pub record Front (s : List ℕ) (due : ℕ) : Type 0 where
  pub at : ℕ
  pub read : Read s at
  pub from : at ≤ due
  pub within : due ≤ length s
  pub all : (k : ℕ) → at ≤ k → k < due → word_byte (get_or s k 0) ≡ true

begun : (s : List ℕ) → Front s 0
begun s = record { at = 0; read = ([], none refl); from = omega arith; within = omega arith; all = λ k _ h. absurd (omega arith) }

-- the last word ends at due
closed : (s : List ℕ) (due : ℕ) → Front s due → (due < length s → word_byte (get_or s due 0) ≡ false) → Read s due
closed s due f stops =
    ⊎_elim (λ e. subst (Read s) e f.read)
    (λ ne. passed s f.at due f.read (token word (record { some = let b = f.from in omega (arith, ne); within = f.within; all = f.all; stops = stops })))
    (cases_eq f.at due)

step : (s : List ℕ) (i n : ℕ) → Front s i → Reach s i n → Front s (i + n)
step s i n f r =
    let h = r.some in
    ⊎_elim
    (λ w. let one : n ≡ 1 = r.letter w in record {
      at = f.at;
      read = f.read;
      from = let b = f.from in omega arith;
      within = r.within;
      all = λ k a b. ⊎_elim (λ lt. f.all k a lt) (λ ge. let e : i ≡ k = omega arith in subst (λ j. word_byte (get_or s j 0) ≡ true) e w) (cases_lt k i);
    })
    (λ w. record { at = i + n; read = passed s i (i + n) (closed s i f (λ _. w)) (r.mark w); from = omega arith; within = r.within; all = λ k a b. absurd (omega arith) })
    (cases_Bool (word_byte (get_or s i 0)))

stray : (s : List ℕ) (i : ℕ) → Front s i → Reaches s i None → Stray s i
stray s i f (w, n) = record { before = closed s i f (λ _. w); here = n }

-- what the loop keeps at i: the first stray byte, or that all before due is read
abbrev pub Held : List ℕ → Option ℕ → ℕ → ℕ → Type 0
Held s bad due i = MatchOption bad (Front s due × (i ≤ due)) (λ p. Stray s p)

pub held_first : (s : List ℕ) → Held s None 0 0
held_first s = (begun s, omega arith)

pub held_passed : (s : List ℕ) (bad : Option ℕ) (due i : ℕ) → Held s bad due i → i < due → Held s bad due (i + 1)
held_passed s None due i h l = (h.0, omega arith)
held_passed s (Some p) due i h l = h

pub held_step : (s : List ℕ) (bad : Option ℕ) (due i n : ℕ) → Held s bad due i → due ≤ i → Reach s i n → Held s bad (i + n) (i + 1)
held_step s None due i n h l r = let o = r.some in (step s i n (subst (Front s) (omega (arith, h.1)) h.0) r, omega arith)
held_step s (Some p) due i n h l r = h

-- the first stray byte is kept
pub held_stray : (s : List ℕ) (bad : Option ℕ) (due i : ℕ) → Held s bad due i → due ≤ i → Reaches s i None → Held s (option_or bad (Some i)) due (i + 1)
held_stray s None due i h l r = stray s i (subst (Front s) (omega (arith, h.1)) h.0) r
held_stray s (Some p) due i h l r = h

pub held_last : (s : List ℕ) (bad : Option ℕ) (due i : ℕ) → Held s bad due i → length s ≤ i → MatchOption bad (Read s (length s)) (λ p. Stray s p)
held_last s None due i h l = closed s (length s) (subst (Front s) (let w = h.0.within in omega (arith, h.1)) h.0) (λ m. absurd (omega arith))
held_last s (Some p) due i h l = h
