-- What is said of a place: its rank, or that it is infinite.
use Rattle.std.specs.Prelude.{ℕ}
use Rattle.graphs.specs.declared.step.Step.{Step}
use Rattle.graphs.specs.Walks as walks
use Rattle.ranks.specs.declared.rank.Rank.{Rank}
use Rattle.ranks.specs.declared.rank.Rank.TheVariants.{Number, Infinite}

abbrev pub Ranked : (Step → Type 0) → ℕ → Rank → Type 0
Ranked P p (Number n) = walks.Rank P p n × (walks.Infinite P p → ⊥)
Ranked P p Infinite = walks.Infinite P p
