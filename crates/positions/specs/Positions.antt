-- The known positions of a book, and what is told of the rank of one.
use Rattle.std.specs.Prelude.{◌≡◌, ℕ, ◌/◌, ◌%◌, ◌<◌, Ok, Err, Result}
use Rattle.lists.specs.Places.{At}
use Rattle.questions.specs.declared.question.Question.TheVariants.{Known}
use Rattle.questions.specs.declared.question.Refusal.{Refusal}
use Rattle.theory.specs.Edges.{PositionStep}
use Rattle.naming.specs.Meaning.{Predicate}
use Rattle.book.specs.Book.{Book, rules}
use Rattle.ranks.specs.Answers.{Ranked}
use Rattle.ranks.specs.declared.rank.Rank.{Rank}

-- the position is a column of a known predicate
abbrev pub KnownPosition : Book → ℕ → Type 0
KnownPosition b p = (q : Predicate) × At b.known (p / 4) q × (p % 4 < q.columns)

-- the rank of a known position along the edges of the standing rules, or that it is infinite; a position that is not known is refused
abbrev pub RankTold : Book → ℕ → Result Rank Refusal → Type 0
RankTold b p (Ok r) = KnownPosition b p × Ranked (PositionStep (rules b)) p r
RankTold b p (Err e) = (KnownPosition b p → ⊥) × (e.question ≡ Known) × (e.place ≡ 0)
