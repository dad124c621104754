-- The number and the layer of each question: the one table of both.
use Rattle.std.specs.Prelude.{ℕ}
use Rattle.questions.specs.declared.question.Question.{Question}
use Rattle.questions.specs.declared.question.Question.TheVariants.{Unsealed, Sealed, LineLength, Bytes, WordLength, Pattern, Counts, LabelUnused, Columns, Predicates, Rules, LabelStands, FactsKnown, PredicateKnown, Numbers, Room, ValueCount, BodyStored, TriggerUnmet, Nulls, Buffer, Known}
use Rattle.questions.specs.declared.question.Layer.{Layer}
use Rattle.questions.specs.declared.question.Layer.TheVariants.{Reading, Store, Fill, Book}

abbrev pub number_of : Question → ℕ
number_of Unsealed = 1
number_of Sealed = 2
number_of LineLength = 3
number_of Bytes = 4
number_of WordLength = 5
number_of Pattern = 6
number_of Counts = 7
number_of LabelUnused = 8
number_of Columns = 9
number_of Predicates = 10
number_of Rules = 11
number_of LabelStands = 12
number_of FactsKnown = 13
number_of PredicateKnown = 14
number_of Numbers = 15
number_of Room = 16
number_of ValueCount = 17
number_of BodyStored = 18
number_of TriggerUnmet = 19
number_of Nulls = 20
number_of Buffer = 21
number_of Known = 22

abbrev pub layer_of : Question → Layer
layer_of Unsealed = Book
layer_of Sealed = Fill
layer_of LineLength = Reading
layer_of Bytes = Reading
layer_of WordLength = Reading
layer_of Pattern = Reading
layer_of Counts = Reading
layer_of LabelUnused = Book
layer_of Columns = Book
layer_of Predicates = Book
layer_of Rules = Book
layer_of LabelStands = Book
layer_of FactsKnown = Store
layer_of PredicateKnown = Book
layer_of Numbers = Reading
layer_of Room = Store
layer_of ValueCount = Fill
layer_of BodyStored = Fill
layer_of TriggerUnmet = Fill
layer_of Nulls = Fill
layer_of Buffer = Book
layer_of Known = Book
