-- A table of edges between 128 positions: the entry at 128 × p + q is the edge from p to q, or none.
use Rattle.std.specs.Prelude.{◌≡◌, ℕ, ◌+◌, ◌*◌, ◌/◌, ◌<◌, ◌⊎◌, List, [], ◌∷◌, Some, None, Option, slice_index_or}
use Rattle.graphs.specs.declared.step.Step.{Step}
use Rattle.ranks.specs.declared.edge.Edge.{Edge}
use Rattle.ranks.specs.declared.edge.Edge.TheVariants.{Normal, Special}

abbrev pub entry : List (Option Edge) → ℕ → ℕ → Option Edge
entry table p q = slice_index_or table (128 * p + q) None

-- the steps of a table: of kind 4 if normal, of kind 5 if special, of no rule
pub record TableStep (table : List (Option Edge)) (s : Step) : Type 0 where
  pub from : s.from < 128
  pub to : s.to < 128
  pub edge : ((s.kind ≡ 4) × (entry table s.from s.to ≡ Some Normal)) ⊎ ((s.kind ≡ 5) × (entry table s.from s.to ≡ Some Special))
  pub rule : s.rule ≡ 0

-- the position p if there is an edge
abbrev pub position_if : ℕ → Option Edge → List ℕ
position_if p None = []
position_if p (Some edge) = p ∷ []

-- where the edge of the entry at k begins; nowhere if the entry is none
abbrev pub source : List (Option Edge) → ℕ → List ℕ
source table k = position_if (k / 128) (slice_index_or table k None)
