-- Adding to a book and withdrawing from it have one outcome at most, and a line has one.
use Rattle.std.specs.Prelude.{◌≡◌, ℕ, ◌⊎◌, List}
use Rattle.questions.specs.declared.question.Question.{Question}
use Rattle.patterns.specs.Asking as lines
use Rattle.patterns.specs.declared.state.Form.TheVariants as forms
use Rattle.book.specs.Book.{Entry, Book, Carries}
use Rattle.book.specs.Asking.{Turned, Passes}
use Rattle.book.specs.Changing.{Adds, Withdraws}

pub record Determined (b : Book) : Type 0 where
  -- at most one question turns a line away, at one place, and none if it passes
  pub turned : (line : List ℕ) (q r : Question) (p t : ℕ) → Turned b line q p → Turned b line r t → (q ≡ r) × (p ≡ t)
  pub apart : (line : List ℕ) (q : Question) (p : ℕ) → Passes b line → Turned b line q p → ⊥
  -- a line has one book after it at most, and so has a label, which has none if no rule carries it
  pub adds : (line : List ℕ) (after other : Book) → Adds b line after → Adds b line other → after ≡ other
  pub withdraws : (label : List ℕ) (after other : Book) → Withdraws b label after → Withdraws b label other → after ≡ other
  pub stands : (label : List ℕ) (after : Book) → ((i : ℕ) (e : Entry) → Carries b label i e → ⊥) → Withdraws b label after → ⊥

-- a line that its own questions let pass or turn away passes, or is turned away
abbrev pub Decided : Book → List ℕ → Type 0
Decided b line = lines.Passes forms.Rule line ⊎ ((q : Question) × (p : ℕ) × lines.Turned forms.Rule line q p) → Passes b line ⊎ ((q : Question) × (p : ℕ) × Turned b line q p)
