-- The standing rules and known predicates in memory, as the definitions have them.
use Rattle.std.specs.Prelude.{ℕ, List, map, Some, None, Option}
use Rattle.rules.specs.Views.{plain_rule}
use Rattle.rules.specs.Names.{text_of}
use Rattle.rules.specs.declared.rule.Rule.{Rule}
use Rattle.naming.specs.Names.{predicates_of}
use Rattle.naming.specs.declared.predicate.Predicates.{Predicates}
use Rattle.book.specs.Book as plain

-- a standing rule under its label
abbrev pub plain_entry : Rule → plain.Entry
plain_entry r = record { label = text_of r.label; rule = plain_rule r }

abbrev pub book_of : List Rule → Predicates → plain.Book
book_of rules known = record { entries = map plain_entry rules; known = predicates_of known }

-- the number of the standing rule that carries the label; or there is none
abbrev pub FindsLabel : plain.Book → List ℕ → Option ℕ → Type 0
FindsLabel b label None = (i : ℕ) (e : plain.Entry) → plain.Carries b label i e → ⊥
FindsLabel b label (Some i) = (e : plain.Entry) × plain.Carries b label i e
