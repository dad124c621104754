-- What the lexer hands out: which token comes next, and where.
use Rattle.std.specs.Prelude.{◌≡◌, ℕ, ◌-◌, ◌<◌, ◌≤◌, List, length, Some, None, Ok, Err, Option, Result, slice_index}
use Rattle.std.specs.Borrow.{Bor}
use Rattle.questions.specs.declared.question.Refusal.{Refusal}
use Rattle.questions.specs.declared.question.Question.TheVariants.{Bytes}
use Rattle.tokens.specs.Tokens.{Kind, Lies, NothingAt}
use Rattle.tokens.specs.Tokens.Kind.{word, bars, arrow, opens, closes, comma, stop}
use Rattle.lists.specs.Parts.{Part}
use Rattle.tokens.specs.declared.token.Token.{Token}
use Rattle.tokens.specs.declared.token.Token.TheVariants.{Word, Bars, Arrow, Open, Close, Comma, Stop}

abbrev pub kind_of : Token → Kind
kind_of (Word w) = word
kind_of (Bars p) = bars
kind_of (Arrow p) = arrow
kind_of (Open p) = opens
kind_of (Close p) = closes
kind_of (Comma p) = comma
kind_of (Stop p) = stop

abbrev pub place_of : Token → ℕ
place_of (Word w) = w.place
place_of (Bars p) = p
place_of (Arrow p) = p
place_of (Open p) = p
place_of (Close p) = p
place_of (Comma p) = p
place_of (Stop p) = p

-- a word is handed out as the line's own memory
abbrev pub Borrows : Bor (List ℕ) → ℕ → ℕ → Token → Type 0
Borrows line i e (Word w) = Part line w.text i (e - i)
Borrows line i e (Bars p) = Unit {0}
Borrows line i e (Arrow p) = Unit {0}
Borrows line i e (Open p) = Unit {0}
Borrows line i e (Close p) = Unit {0}
Borrows line i e (Comma p) = Unit {0}
Borrows line i e (Stop p) = Unit {0}

-- t is the token that lies in the line from i up to and without e
pub record Is (line : Bor (List ℕ)) (i e : ℕ) (t : Token) : Type 0 where
  pub lies : Lies line.now i e (kind_of t)
  pub place : place_of t ≡ i
  pub borrows : Borrows line i e t

-- only blanks from i up to and without e
pub record Blanks (s : List ℕ) (i e : ℕ) : Type 0 where
  pub from : i ≤ e
  pub within : e ≤ length s
  pub all : (k : ℕ) → i ≤ k → k < e → slice_index s k ≡ 32

-- from the place i on comes r, and the next place to read from is j
abbrev pub Next : Bor (List ℕ) → ℕ → ℕ → Result (Option Token) Refusal → Type 0
Next line i j (Ok None) = Blanks line.now i (length line.now) × (j ≡ length line.now)
Next line i j (Ok (Some t)) = (a : ℕ) × Blanks line.now i a × Is line a j t
Next line i j (Err e) = (e.question ≡ Bytes) × (j ≡ e.place) × Blanks line.now i e.place × NothingAt line.now e.place
