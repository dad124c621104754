-- The values of a fact line, and how they answer whether its words are numbers.
use Rattle.std.specs.Prelude.{◌≡◌, ℕ, List, Ok, Err, Result}
use Rattle.bounded.specs.Bounded.{items}
use Rattle.bounded.specs.declared.Bounded.{Bounded}
use Rattle.questions.specs.declared.question.Refusal.{Refusal}
use Rattle.questions.specs.declared.question.Question.TheVariants.{Numbers}
use Rattle.lists.specs.Places.{First, Pairwise}
use Rattle.tokens.specs.Tokens.{Token}
use Rattle.patterns.specs.Patterns.{Writes}
use Rattle.patterns.specs.declared.state.Form.TheVariants as forms
use Rattle.patterns.specs.Asking.{GoodNumber, Number, Yes, No}
use Rattle.patterns.specs.Asking.Asked.{numbers}
use Rattle.patterns.specs.Tables.{written}
use Rattle.reading.specs.declared.line.FactLine.{FactLine}
use Rattle.reading.specs.Lines.{fact_of}

-- the words in the brackets of a fact line
abbrev pub words_of : FactLine → List Token
words_of f = (written f.atom).words

-- each word is a number and these are the values; or this is the first word that is none
abbrev pub Valued : {N : ℕ} → FactLine → Result (Bounded ℕ N) Refusal → Type 0
Valued f (Ok v) = Pairwise (λ w n. Number w.text n) (words_of f) (items v)
Valued f (Err e) = (k : ℕ) × (w : Token) × First (λ x. GoodNumber x.text → ⊥) (words_of f) k w × (e.place ≡ w.place) × (e.question ≡ Numbers)

-- of every line that writes the fact: the question on its numbers is answered so
abbrev pub Asks : {N : ℕ} → FactLine → Result (Bounded ℕ N) Refusal → Type 0
Asks f (Ok v) = (line : List ℕ) → Writes forms.Fact line (fact_of f) → Yes forms.Fact line numbers
Asks f (Err e) = (line : List ℕ) → Writes forms.Fact line (fact_of f) → No forms.Fact line numbers e.place × (e.question ≡ Numbers)
