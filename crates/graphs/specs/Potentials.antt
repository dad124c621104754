-- Numbers of places that bound the special edges on walks, as relaxing along steps gives them.
use Rattle.std.specs.Prelude.{◌≡◌, ℕ, ◌+◌, ◌≤◌, List, length}
use Rattle.graphs.specs.declared.step.Step.{Step}
use Rattle.graphs.specs.Walks.{Walk, counts, specials}

-- each number is the special edges of some walk to the place
abbrev pub Attained : (Step → Type 0) → (ℕ → ℕ) → Type 0
Attained P b = (p : ℕ) → (q : ℕ) × (w : List Step) × Walk P q w p × (specials w ≡ b p)

-- a walk of at most k steps has no more special edges than the number of the place where it ends
abbrev pub Covers : (Step → Type 0) → ℕ → (ℕ → ℕ) → Type 0
Covers P k b = (q p : ℕ) (w : List Step) → Walk P q w p → length w ≤ k → specials w ≤ b p

-- the number b where the step begins, and what the step adds, are within the number c where it ends
abbrev pub Lifts : (ℕ → ℕ) → (ℕ → ℕ) → Step → Type 0
Lifts b c s = b s.from + counts s ≤ c s.to
