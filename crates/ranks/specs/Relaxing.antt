-- Numbers of positions in a list, and what the steps of a table make of them.
use Rattle.std.specs.Prelude.{◌≡◌, ℕ, ◌+◌, ◌<◌, ◌≤◌, ◌⊎◌, List, length, map, max, Option, slice_index}
use Rattle.std.specs.List.{range_with_len, reduce}
use Rattle.std.specs.Option.{option_map, unwrap_or}
use Rattle.graphs.specs.declared.step.Step.{Step}
use Rattle.graphs.specs.Walks.{counts}
use Rattle.ranks.specs.declared.edge.Edge.{Edge}
use Rattle.ranks.specs.Edges.{adds}
use Rattle.ranks.specs.Tables.{entry, TableStep}

abbrev pub number : List ℕ → ℕ → ℕ
number best p = slice_index best p

-- a step to the position gives it the number n: that of where it begins, and one more if it is special
abbrev pub Gives : List (Option Edge) → List ℕ → ℕ → ℕ → Type 0
Gives table best to n = (s : Step) × TableStep table s × (s.to ≡ to) × (n ≡ number best s.from + counts s)

-- r is the greatest number that steps from positions below `below` give the position; 0 if there is none
pub record Relaxes (table : List (Option Edge)) (best : List ℕ) (below to r : ℕ) : Type 0 where
  pub lifts : (s : Step) → TableStep table s → s.to ≡ to → s.from < below → number best s.from + counts s ≤ r
  pub some : (r ≡ 0) ⊎ Gives table best to r

-- new has the numbers of old after a round
pub record Round (table : List (Option Edge)) (old new : List ℕ) : Type 0 where
  pub long : length new ≡ 128
  pub each : (to : ℕ) → to < 128 → Relaxes table old 128 to (number new to)

-- some step gives the position more than its number
abbrev pub Tense : List (Option Edge) → List ℕ → ℕ → Type 0
Tense table best to = (s : Step) × TableStep table s × (s.to ≡ to) × (number best to < number best s.from + counts s)

-- the number that the edge from the position `from` gives the position, if there is an edge
abbrev pub offered : List (Option Edge) → List ℕ → ℕ → ℕ → Option ℕ
offered table best to from = option_map (λ edge. number best from + adds edge) (entry table from to)

-- that number; 0 if there is no edge
abbrev pub offered_or_zero : List (Option Edge) → List ℕ → ℕ → ℕ → ℕ
offered_or_zero table best to from = unwrap_or (offered table best to from) 0

-- the greatest of the numbers that positions give the position
unfoldable pub relaxed : List (Option Edge) → List ℕ → ℕ → ℕ
relaxed table best to = unwrap_or (reduce max (map (offered_or_zero table best to) (range_with_len 0 128))) 0
