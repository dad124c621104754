-- The questions that adding a rule line puts to a book: when each answers yes, and when no and at which place.
use Rattle.std.specs.Prelude.{◌≡◌, ℕ, ◌<◌, ◌≤◌, ◌⊎◌, List, [], ◌∷◌, ◌++◌, map, length, take, ◌≢◌}
use Rattle.lists.specs.Places.{At, Holds, First}
use Rattle.questions.specs.Asking as asking
use Rattle.questions.specs.declared.question.Question.{Question}
use Rattle.questions.specs.declared.question.Question.TheVariants.{LabelUnused, Columns, Predicates, Rules}
use Rattle.tokens.specs.Tokens.{Token}
use Rattle.patterns.specs.Patterns.{Written, Writes}
use Rattle.patterns.specs.Patterns.Line.{rule_line}
use Rattle.patterns.specs.declared.state.Form.TheVariants as forms
use Rattle.patterns.specs.Asking as lines
use Rattle.naming.specs.Meaning.{Predicate, predicate_of, Learned}
use Rattle.book.specs.Book.{Entry, Book, Carries}

-- a question on the line alone, or one to the book
pub data Asked : Type 0 where
  of_line : lines.Asked → Asked
  label_unused : Asked
  columns : Asked
  predicates : Asked
  few_rules : Asked

abbrev pub question_of : Asked → Question
question_of (of_line x) = lines.question_of x
question_of label_unused = LabelUnused
question_of columns = Columns
question_of predicates = Predicates
question_of few_rules = Rules

-- the line writes the label, the body and the head
abbrev pub WritesRule : List ℕ → Token → List Written → List Written → Type 0
WritesRule line label body head = Writes forms.Rule line (rule_line label body head)

-- a known predicate has this name
abbrev pub Known : List Predicate → List ℕ → Type 0
Known known name = (i : ℕ) × (p : Predicate) × At known i p × (p.name ≡ name)

-- a predicate of this name should have n columns: those that are known, or else those of its first atom in the line
abbrev pub Wanted : List Predicate → List Written → List ℕ → ℕ → Type 0
Wanted known atoms name n =
    ((i : ℕ) × (p : Predicate) × At known i p × (p.name ≡ name) × (p.columns ≡ n))
    ⊎ ((Known known name → ⊥) × (k : ℕ) × (a : Written) × First (λ b. b.predicate.text ≡ name) atoms k a × (length a.words ≡ n))

-- the atom has other columns than its predicate should have
abbrev pub WrongColumns : List Predicate → List Written → Written → Type 0
WrongColumns known atoms a = (n : ℕ) × Wanted known atoms a.predicate.text n × (length a.words ≢ n)

-- the predicate of atom number k would be the 33rd
abbrev pub OneMore : List Predicate → List Written → ℕ → Written → Type 0
OneMore known atoms k a = At atoms k a × (before : List Predicate) × Learned known (take k atoms) before × (Holds before (predicate_of a) → ⊥) × (length before ≡ 32)

-- the question answers yes
abbrev pub Yes : Book → List ℕ → Asked → Type 0
Yes b line (of_line x) = lines.Yes forms.Rule line x
Yes b line label_unused = (label : Token) × (body : List Written) × (head : List Written) × WritesRule line label body head × ((i : ℕ) (e : Entry) → Carries b label.text i e → ⊥)
Yes b line columns = (label : Token) × (body : List Written) × (head : List Written) × WritesRule line label body head × ((k : ℕ) (a : Written) → At (body ++ head) k a → WrongColumns b.known (body ++ head) a → ⊥)
Yes b line predicates = (label : Token) × (body : List Written) × (head : List Written) × (after : List Predicate) × WritesRule line label body head × Learned b.known (body ++ head) after × (length after ≤ 32)
Yes b line few_rules = length b.entries < 64

-- the question answers no, at the place p
abbrev pub No : Book → List ℕ → Asked → ℕ → Type 0
No b line (of_line x) p = lines.No forms.Rule line x p
No b line label_unused p = (label : Token) × (body : List Written) × (head : List Written) × (i : ℕ) × (e : Entry) × WritesRule line label body head × Carries b label.text i e × (p ≡ label.place)
No b line columns p = (label : Token) × (body : List Written) × (head : List Written) × (k : ℕ) × (a : Written) × WritesRule line label body head × First (WrongColumns b.known (body ++ head)) (body ++ head) k a × (p ≡ a.predicate.place)
No b line predicates p = (label : Token) × (body : List Written) × (head : List Written) × (k : ℕ) × (a : Written) × WritesRule line label body head × OneMore b.known (body ++ head) k a × (p ≡ a.predicate.place)
No b line few_rules p = (64 ≤ length b.entries) × (p ≡ 0)

-- the questions of adding, in the order in which they are put
abbrev pub asked : List Asked
asked = map of_line lines.asked ++ (label_unused ∷ columns ∷ predicates ∷ few_rules ∷ [])

-- the line is turned away; or it passes
abbrev pub Turned : Book → List ℕ → Question → ℕ → Type 0
Turned b line q p = asking.FirstNo (Yes b line) (No b line) question_of asked q p

abbrev pub Passes : Book → List ℕ → Type 0
Passes b line = asking.AllYes (Yes b line) asked
