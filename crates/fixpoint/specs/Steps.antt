-- Steps that are numbered.
use Rattle.std.specs.Prelude.{◌≡◌, ℕ, ◌<◌, List, [], ◌∷◌, length, Some, None, Option, ◌≢◌}
use Rattle.fixpoint.specs.Least.{Held}

pub record Numbered : Type 0 where
  -- how many steps there are
  pub count : ℕ
  -- the items that a step waits for
  pub needs : ℕ → List ℕ
  -- the item that a step leads to
  pub leads : ℕ → ℕ

-- one of the steps leads from ps, one or more, to i
abbrev pub Step : Numbered → List ℕ → ℕ → Type 0
Step steps ps i = (s : ℕ) × (s < steps.count) × (steps.needs s ≡ ps) × (steps.leads s ≡ i) × (0 < length ps)

-- there are items to step from, and each has a round from 1 to r
abbrev pub Ready : List ℕ → ℕ → List ℕ → Type 0
Ready rounds r ps = (0 < length ps) × Held rounds r ps

-- the one item of ps; none if ps is not one item
abbrev pub Single : List ℕ → Option ℕ → Type 0
Single ps None = (a : ℕ) → ps ≢ (a ∷ [])
Single ps (Some a) = ps ≡ (a ∷ [])
