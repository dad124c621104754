-- What is asked and prepared before a rule is added.
use Rattle.std.specs.Prelude.{◌≡◌, ℕ, List, [], ◌∷◌, ◌++◌, Ok, Err, Result}
use Rattle.questions.specs.declared.question.Question.TheVariants.{LabelUnused}
use Rattle.questions.specs.declared.question.Refusal.{Refusal}
use Rattle.patterns.specs.Tables.{word_of}
use Rattle.reading.specs.declared.line.RuleLine.{RuleLine}
use Rattle.rules.specs.declared.rule.Rule.{Rule}
use Rattle.naming.specs.Names.{predicates_of}
use Rattle.naming.specs.declared.predicate.Predicates.{Predicates}
use Rattle.book.specs.Book as plain
use Rattle.book.specs.Asking.{Turned, Passes}
use Rattle.book.specs.Changing.{Adds}
use Rattle.book.specs.Views.{plain_entry}

-- no standing rule carries the line's label; or one does
abbrev pub LabelAsked : plain.Book → RuleLine → Result (Unit {0}) Refusal → Type 0
LabelAsked b rule (Ok u) = (i : ℕ) (e : plain.Entry) → plain.Carries b (word_of rule.label).text i e → ⊥
LabelAsked b rule (Err x) = (i : ℕ) × (e : plain.Entry) × plain.Carries b (word_of rule.label).text i e × (x.question ≡ LabelUnused) × (x.place ≡ rule.label.place)

-- with these the line is added; or its first no turns it away
abbrev pub Prepared : plain.Book → List ℕ → Result (Rule × Predicates) Refusal → Type 0
Prepared b line (Ok r) = Passes b line × Adds b line (record { entries = b.entries ++ (plain_entry r.0 ∷ []); known = predicates_of r.1 })
Prepared b line (Err e) = Turned b line e.question e.place
