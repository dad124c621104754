-- How a search fills its table: the first items, then one round after the other.
use Rattle.std.specs.Prelude.{◌≡◌, ℕ, ◌+◌, ◌<◌, ◌≤◌, ◌⊎◌, Bool, true, false, List, slice_index}
use Rattle.fixpoint.specs.Least.{Follows}

-- the table before any step: the first items have round 1, and nothing else has a round
pub record Begun (n : ℕ) (first : ℕ → Type 0) (rounds : List ℕ) : Type 0 where
  pub low : (i : ℕ) → slice_index rounds i ≤ 1
  pub one : (i : ℕ) → slice_index rounds i ≡ 1 → first i
  pub one_all : (i : ℕ) → i < n → first i → slice_index rounds i ≡ 1
  pub outside : (i : ℕ) → n ≤ i → slice_index rounds i ≡ 0

-- round r + 1 makes `new` of `old`, and `grew` says whether something is found in it
pub record Grown (n : ℕ) (steps : List ℕ → ℕ → Type 0) (old new : List ℕ) (r : ℕ) (grew : Bool) : Type 0 where
  -- what is found keeps its round
  pub keeps : (i : ℕ) → 0 < slice_index old i → slice_index new i ≡ slice_index old i
  -- what is found anew follows from the rounds 1 to r, and has the round r + 1
  pub fresh : (i : ℕ) → slice_index old i ≡ 0 → (slice_index new i ≡ 0) ⊎ ((i < n) × (slice_index new i ≡ r + 1) × Follows steps old r i)
  -- each item that follows from them is found
  pub all : (i : ℕ) → i < n → Follows steps old r i → 0 < slice_index new i
  pub some : grew ≡ true → (i : ℕ) × (slice_index old i ≡ 0) × (0 < slice_index new i)
  pub none : grew ≡ false → new ≡ old
