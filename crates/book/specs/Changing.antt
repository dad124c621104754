-- What adding and withdrawing make of a book, and how they end.
use Rattle.std.specs.Prelude.{◌≡◌, ℕ, suc, List, [], ◌∷◌, ◌++◌, take, drop, Ok, Err, Result}
use Rattle.questions.specs.declared.question.Question.TheVariants.{LabelStands}
use Rattle.questions.specs.declared.question.Refusal.{Refusal}
use Rattle.tokens.specs.Tokens.{Token}
use Rattle.patterns.specs.Patterns.{Written}
use Rattle.theory.specs.Rules.{Rule}
use Rattle.naming.specs.Meaning.{Predicate, Learned, RuleMeans}
use Rattle.book.specs.Book.{Entry, Book, Carries}
use Rattle.book.specs.Asking.{WritesRule, Turned, Passes}

-- adding stands the line's rule last, and its predicates become known
pub record Adds (b : Book) (line : List ℕ) (after : Book) : Type 0 where
  pub label : Token
  pub body : List Written
  pub head : List Written
  pub writes : WritesRule line label body head
  pub known : List Predicate
  pub learned : Learned b.known (body ++ head) known
  pub rule : Rule
  pub means : RuleMeans known body head rule
  pub becomes : after ≡ record { entries = b.entries ++ (record { label = label.text; rule = rule } ∷ []); known = known }

-- the line passes its questions and is added; or its first no turns it away, and the book is as it was
abbrev pub Added : Book → List ℕ → Book → Result (Unit {0}) Refusal → Type 0
Added b line after (Ok u) = Passes b line × Adds b line after
Added b line after (Err e) = Turned b line e.question e.place × (after ≡ b)

-- withdrawing removes the label's rule; later ones move down, and every predicate stays known
pub record Withdraws (b : Book) (label : List ℕ) (after : Book) : Type 0 where
  pub number : ℕ
  pub entry : Entry
  pub carries : Carries b label number entry
  pub becomes : after ≡ record { entries = take number b.entries ++ drop (suc number) b.entries; known = b.known }

-- the label's rule is withdrawn; or no standing rule carries the label, and the book is as it was
abbrev pub Withdrawn : Book → List ℕ → Book → Result (Unit {0}) Refusal → Type 0
Withdrawn b label after (Ok u) = Withdraws b label after
Withdrawn b label after (Err e) = ((i : ℕ) (x : Entry) → Carries b label i x → ⊥) × (e.question ≡ LabelStands) × (e.place ≡ 0) × (after ≡ b)
