-- A line of bytes as tokens, read from the left.
use Rattle.std.specs.Prelude.{◌≡◌, ℕ, ◌+◌, ◌<◌, ◌≤◌, Bool, true, false, ◌||◌, List, [], ◌∷◌, length, ◌==◌, slice_index, slice_range}
use Rattle.std.specs.Char.{is_ascii_alphanumeric}

-- a letter, a digit or an underscore
unfoldable pub word_byte : ℕ → Bool
word_byte b = is_ascii_alphanumeric b || b == 95

-- the byte b stands at the place i
abbrev pub Byte : List ℕ → ℕ → ℕ → Type 0
Byte s i b = (i < length s) × (slice_index s i ≡ b)

-- word bytes from a up to and without e, one or more, and no further one at e
pub record Run (s : List ℕ) (a e : ℕ) : Type 0 where
  pub some : a < e
  pub within : e ≤ length s
  pub all : (k : ℕ) → a ≤ k → k < e → word_byte (slice_index s k) ≡ true
  pub stops : e < length s → word_byte (slice_index s e) ≡ false

pub data Kind : Type 0 where
  word : Kind
  bars : Kind
  arrow : Kind
  opens : Kind
  closes : Kind
  comma : Kind
  stop : Kind

-- a token of the kind lies from i up to and without e: a word, |||, ->, (, ), a comma or a full stop
abbrev pub Lies : List ℕ → ℕ → ℕ → Kind → Type 0
Lies s i e word = Run s i e
Lies s i e bars = Byte s i 124 × Byte s (i + 1) 124 × Byte s (i + 2) 124 × (e ≡ i + 3)
Lies s i e arrow = Byte s i 45 × Byte s (i + 1) 62 × (e ≡ i + 2)
Lies s i e opens = Byte s i 40 × (e ≡ i + 1)
Lies s i e closes = Byte s i 41 × (e ≡ i + 1)
Lies s i e comma = Byte s i 44 × (e ≡ i + 1)
Lies s i e stop = Byte s i 46 × (e ≡ i + 1)

-- a part of the line with its byte place
pub record Token : Type 0 where
  pub kind : Kind
  pub place : ℕ
  pub text : List ℕ

-- the token of the kind from i up to and without e
abbrev pub token_at : List ℕ → ℕ → ℕ → Kind → Token
token_at s i e k = record { kind = k; place = i; text = slice_range s i e }

-- the bytes from i up to and without e are blanks and these tokens
pub data Between (s : List ℕ) (e : ℕ) : ℕ → List Token → Type 0 where
  none : {i : ℕ} → i ≡ e → Between s e i []
  blank : {i : ℕ} {ts : List Token} → Byte s i 32 → Between s e (i + 1) ts → Between s e i ts
  token : {i : ℕ} {ts : List Token} (j : ℕ) (k : Kind) → Lies s i j k → Between s e j ts → Between s e i (token_at s i j k ∷ ts)

-- the line's tokens
abbrev pub Tokens : List ℕ → List Token → Type 0
Tokens s ts = Between s (length s) 0 ts

-- neither a blank nor a token begins at p
pub record NothingAt (s : List ℕ) (p : ℕ) : Type 0 where
  pub within : p < length s
  pub no_blank : Byte s p 32 → ⊥
  pub no_token : (e : ℕ) (k : Kind) → Lies s p e k → ⊥

-- the byte at p is the first that belongs to no token and is no blank
pub record Stray (s : List ℕ) (p : ℕ) : Type 0 where
  pub before : (ts : List Token) × Between s p 0 ts
  pub here : NothingAt s p

-- a line has at most one list of tokens, at most one first stray byte, and not both
pub record Determined (s : List ℕ) : Type 0 where
  pub tokens : (ts us : List Token) → Tokens s ts → Tokens s us → ts ≡ us
  pub stray : (p q : ℕ) → Stray s p → Stray s q → p ≡ q
  pub apart : (p : ℕ) (ts : List Token) → Stray s p → Tokens s ts → ⊥
