-- The meaning of a system of steps: the least set closed under them, and the table of rounds that finds it.
-- n is the number of items, `first i` says that i is a first item, `steps ps i` that there is a step from the items ps to i.
use Rattle.std.specs.Prelude.{◌≡◌, ℕ, ◌+◌, ◌<◌, ◌≤◌, List, length, slice_index}

-- the least closed set
pub data Derived (n : ℕ) (first : ℕ → Type 0) (steps : List ℕ → ℕ → Type 0) : ℕ → Type 0 where
  by_first : {i : ℕ} → i < n → first i → Derived n first steps i
  by_step : {i : ℕ} (ps : List ℕ) → i < n → steps ps i → ((k : ℕ) → k < length ps → Derived n first steps (slice_index ps k)) → Derived n first steps i

-- the item has a round from 1 to r
abbrev pub FoundBy : List ℕ → ℕ → ℕ → Type 0
FoundBy rounds r i = (0 < slice_index rounds i) × (slice_index rounds i ≤ r)

-- each of the items ps has a round from 1 to r
abbrev pub Held : List ℕ → ℕ → List ℕ → Type 0
Held rounds r ps = (k : ℕ) → k < length ps → FoundBy rounds r (slice_index ps k)

-- some step leads to i from items that each have a round from 1 to r
abbrev pub Follows : (List ℕ → ℕ → Type 0) → List ℕ → ℕ → ℕ → Type 0
Follows steps rounds r i = (ps : List ℕ) × steps ps i × Held rounds r ps

-- the table has the least set, and the round in which each of its items is found
pub record Found (n : ℕ) (first : ℕ → Type 0) (steps : List ℕ → ℕ → Type 0) (rounds : List ℕ) : Type 0 where
  -- what is found follows
  pub sound : (i : ℕ) → 0 < slice_index rounds i → Derived n first steps i
  -- what follows is found
  pub complete : (i : ℕ) → Derived n first steps i → 0 < slice_index rounds i
  -- the first items, and no other, are found in round 1
  pub one : (i : ℕ) → slice_index rounds i ≡ 1 → first i
  pub one_all : (i : ℕ) → i < n → first i → slice_index rounds i ≡ 1
  -- what is found in round r + 1 follows by one step from what was found in the rounds 1 to r
  pub later : (i r : ℕ) → 0 < r → slice_index rounds i ≡ r + 1 → Follows steps rounds r i
  -- and it is found as soon as it does
  pub soonest : (i r : ℕ) → i < n → 0 < r → Follows steps rounds r i → FoundBy rounds (r + 1) i
  -- there are no more rounds than items
  pub few : (i : ℕ) → slice_index rounds i ≤ n
  -- there is nothing else in the table
  pub outside : (i : ℕ) → n ≤ i → slice_index rounds i ≡ 0

-- there is one such table
abbrev pub Determined : ℕ → (ℕ → Type 0) → (List ℕ → ℕ → Type 0) → Type 0
Determined n first steps = (xs ys : List ℕ) → Found n first steps xs → Found n first steps ys → (i : ℕ) → slice_index xs i ≡ slice_index ys i
