-- What it is to read a line: it passes its questions and is kept as it is written, or its first no turns it away.
use Rattle.std.specs.Prelude.{◌≡◌, ℕ, ◌<◌, ◌⊎◌, List, length, Ok, Err, Result}
use Rattle.std.specs.Borrow.{Bor}
use Rattle.questions.specs.declared.question.Refusal.{Refusal}
use Rattle.questions.specs.declared.question.Question.TheVariants.{WordLength, Pattern, Counts}
use Rattle.tokens.specs.Lexing.{place_of}
use Rattle.tokens.specs.declared.token.Token.{Token}
use Rattle.tokens.specs.declared.token.Token.TheVariants.{Word, Bars, Arrow, Open, Close, Comma, Stop}
use Rattle.patterns.specs.Patterns.{Line, Writes}
use Rattle.patterns.specs.declared.state.Form.{Form}
use Rattle.patterns.specs.Patterns.Line.{rule_line, fact_line}
use Rattle.patterns.specs.declared.state.Form.TheVariants as forms
use Rattle.patterns.specs.Asking.{Asked, question_of, Yes, No, Turned, Passes}
use Rattle.patterns.specs.Asking.Asked.{pattern, counts}
use Rattle.patterns.specs.declared.reader.Tables.{Tables}
use Rattle.reading.specs.declared.line.RuleLine.{RuleLine}
use Rattle.reading.specs.declared.line.FactLine.{FactLine}
use Rattle.patterns.specs.Tables.{word_of, written, side_of, PartOf, AtomPartOf, SidePartOf}
use Rattle.patterns.specs.Drafts.{Keeps, line_parts}

-- one question is put: yes, or no at the refusal's place
abbrev pub Answers : Form → List ℕ → Asked → Result (Unit {0}) Refusal → Type 0
Answers form s x (Ok u) = Yes form s x
Answers form s x (Err e) = No form s x e.place × (question_of x ≡ e.question)

-- a word of more than 8 bytes
abbrev pub Long : Token → Type 0
Long (Word w) = 8 < length w.text.now
Long (Bars p) = ⊥
Long (Arrow p) = ⊥
Long (Open p) = ⊥
Long (Close p) = ⊥
Long (Comma p) = ⊥
Long (Stop p) = ⊥

abbrev pub Judged : Token → Result (Unit {0}) Refusal → Type 0
Judged t (Ok u) = Long t → ⊥
Judged t (Err e) = Long t × (e.question ≡ WordLength) × (e.place ≡ place_of t)

-- the tables hold what the line writes, and nothing in it is too many
abbrev pub Spells : Form → Bor (List ℕ) → Tables → Type 0
Spells form line t = (l : Line) × Writes form line.now l × Keeps line t (line_parts l) × Yes form line.now counts

-- the last two questions: the pattern, and the counts
abbrev pub Patterned : Form → Bor (List ℕ) → Result Tables Refusal → Type 0
Patterned form line (Ok t) = Spells form line t
Patterned form line (Err e) = (No form line.now pattern e.place × (Pattern ≡ e.question)) ⊎ (Yes form line.now pattern × No form line.now counts e.place × (Counts ≡ e.question))

-- the whole line
abbrev pub Read : Form → Bor (List ℕ) → Result Tables Refusal → Type 0
Read form line (Ok t) = Passes form line.now × Spells form line t
Read form line (Err e) = Turned form line.now e.question e.place

-- what a rule line and a fact line that are read write
abbrev pub rule_of : RuleLine → Line
rule_of r = rule_line (word_of r.label) (side_of r.body) (side_of r.head)

abbrev pub fact_of : FactLine → Line
fact_of f = fact_line (written f.atom)

-- all words of the rule line are the line's own memory
pub record RulePartOf (line : Bor (List ℕ)) (r : RuleLine) : Type 0 where
  pub label : PartOf line r.label
  pub body : SidePartOf line r.body
  pub head : SidePartOf line r.head

-- the line passes its questions and is kept as it is written, borrowing the caller's bytes; or its first no turns it away
abbrev pub ReadRule : Bor (List ℕ) → Result RuleLine Refusal → Type 0
ReadRule line (Ok r) = RulePartOf line r × Passes forms.Rule line.now × Writes forms.Rule line.now (rule_of r)
ReadRule line (Err e) = Turned forms.Rule line.now e.question e.place

abbrev pub ReadFact : Bor (List ℕ) → Result FactLine Refusal → Type 0
ReadFact line (Ok f) = AtomPartOf line f.atom × Passes forms.Fact line.now × Writes forms.Fact line.now (fact_of f)
ReadFact line (Err e) = Turned forms.Fact line.now e.question e.place
