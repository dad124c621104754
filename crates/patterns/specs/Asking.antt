-- The questions that are put to a line: when each answers yes, and when no and at which place.
use Rattle.std.specs.Prelude.{◌≡◌, ℕ, ◌+◌, ◌-◌, ◌*◌, ◌<◌, ◌≤◌, List, [], ◌∷◌, length}
use Rattle.lists.specs.Places.{At, First}
use Rattle.questions.specs.Asking as asking
use Rattle.tokens.specs.Tokens.{Token, Tokens, Stray}
use Rattle.tokens.specs.Tokens.Kind.{word}
use Rattle.patterns.specs.Patterns.{Written, Line, Is, Writes, Breaks, TooMany}
use Rattle.patterns.specs.declared.state.Form.{Form}
use Rattle.patterns.specs.Patterns.Line.{fact_line}
use Rattle.patterns.specs.declared.state.Form.TheVariants as forms
use Rattle.questions.specs.declared.question.Question.{Question}
use Rattle.questions.specs.declared.question.Question.TheVariants.{LineLength, Bytes, WordLength, Pattern, Counts, Numbers}

-- the questions on a line
pub data Asked : Type 0 where
  line_length : Asked
  bytes : Asked
  word_length : Asked
  pattern : Asked
  counts : Asked
  numbers : Asked

abbrev pub question_of : Asked → Question
question_of line_length = LineLength
question_of bytes = Bytes
question_of word_length = WordLength
question_of pattern = Pattern
question_of counts = Counts
question_of numbers = Numbers

-- a word of more than 8 bytes
abbrev pub LongWord : Token → Type 0
LongWord t = Is word t × (8 < length t.text)

-- a decimal digit
abbrev pub Digit : ℕ → Type 0
Digit d = (48 ≤ d) × (d ≤ 57)

-- what the digits behind the value n make of it
abbrev pub worth : ℕ → List ℕ → ℕ
worth n [] = n
worth n (d ∷ ds) = worth (10 * n + (d - 48)) ds

-- the bytes are the decimal number n, leading zeros allowed
pub record Decimal (text : List ℕ) (n : ℕ) : Type 0 where
  pub some : 0 < length text
  pub digits : (i d : ℕ) → At text i d → Digit d
  pub value : worth 0 text ≡ n

-- the bytes are the number n, and it is at most 32,767
abbrev pub Number : List ℕ → ℕ → Type 0
Number text n = Decimal text n × (n ≤ 32767)

abbrev pub GoodNumber : List ℕ → Type 0
GoodNumber text = (n : ℕ) × Number text n

-- the question on the line s of this form answers yes; whether words are numbers is asked of fact lines alone
abbrev pub Yes : Form → List ℕ → Asked → Type 0
Yes form s line_length = length s ≤ 400
Yes form s bytes = (ts : List Token) × Tokens s ts
Yes form s word_length = (ts : List Token) × Tokens s ts × ((k : ℕ) (t : Token) → At ts k t → LongWord t → ⊥)
Yes form s pattern = (l : Line) × Writes form s l
Yes form s counts = (l : Line) × Writes form s l × ((w : Token) → TooMany l w → ⊥)
Yes form s numbers = (a : Written) × Writes forms.Fact s (fact_line a) × ((k : ℕ) (w : Token) → At a.words k w → GoodNumber w.text)

-- the question answers no, at the place p
abbrev pub No : Form → List ℕ → Asked → ℕ → Type 0
No form s line_length p = (400 < length s) × (p ≡ 0)
No form s bytes p = Stray s p
No form s word_length p = (ts : List Token) × (k : ℕ) × (t : Token) × Tokens s ts × First LongWord ts k t × (p ≡ t.place)
No form s pattern p = (ts : List Token) × Tokens s ts × Breaks form s ts p
No form s counts p = (l : Line) × (w : Token) × Writes form s l × TooMany l w × ((v : Token) → TooMany l v → w.place ≤ v.place) × (p ≡ w.place)
No form s numbers p = (a : Written) × (k : ℕ) × (w : Token) × Writes forms.Fact s (fact_line a) × First (λ v. GoodNumber v.text → ⊥) a.words k w × (p ≡ w.place)

-- the questions that every line is put, in this order
abbrev pub asked : List Asked
asked = line_length ∷ bytes ∷ word_length ∷ pattern ∷ counts ∷ []

-- the line is turned away; or it passes
abbrev pub Turned : Form → List ℕ → Question → ℕ → Type 0
Turned form s q p = asking.FirstNo (Yes form s) (No form s) question_of asked q p

abbrev pub Passes : Form → List ℕ → Type 0
Passes form s = asking.AllYes (Yes form s) asked

-- a line writes one thing at most; at most one question turns it away, at one place, and none if it passes
pub record LineDetermined (form : Form) (s : List ℕ) : Type 0 where
  pub written : (l m : Line) → Writes form s l → Writes form s m → l ≡ m
  pub turned : (q r : Question) (p t : ℕ) → Turned form s q p → Turned form s r t → (q ≡ r) × (p ≡ t)
  pub apart : (q : Question) (p : ℕ) → Passes form s → Turned form s q p → ⊥
