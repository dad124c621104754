-- What holds of walks along any relation of steps, and of any finite one.
use Rattle.std.specs.Prelude.{◌≡◌, ℕ, ◌<◌, ◌≤◌, ◌⊎◌, List, ◌∷◌, length}
use Rattle.lists.specs.Places.{At, Holds}
use Rattle.graphs.specs.declared.step.Step.{Step}
use Rattle.graphs.specs.Walks.{Walk, Returns, Simple, Closed, Special, Infinite, Rank}

-- to ask for no `from` twice makes no difference
pub record WalksSimple (P : Step → Type 0) : Type 0 where
  -- where a walk leads, a simple walk does
  pub walk : (p q : ℕ) (w : List Step) → Walk P p w q → (u : List Step) × Simple P p u q
  -- each step of a walk that returns begins a closed walk; so does a special edge on it
  pub closed : (w : List Step) (k : ℕ) (s : Step) → Returns P w → At w k s → (c : List Step) × Closed P (s ∷ c)
  -- a place on, or reached from, any walk that returns and has a special edge is infinite
  pub infinite : (w u : List Step) (i j p : ℕ) (s t : Step) → Returns P w → At w i s → Special s → At w j t → Walk P t.from u p → Infinite P p
  -- an infinite place is reached by a simple walk from the first step of a closed walk that begins with a special edge
  pub reached : (p : ℕ) → Infinite P p → (s : Step) × (c : List Step) × (u : List Step) × Special s × Closed P (s ∷ c) × Simple P s.to u p

-- with all steps from places below n, closed walks have at most n steps, and simple ones to such a place fewer
pub record WalksShort (P : Step → Type 0) (n : ℕ) : Type 0 where
  pub closed : (w : List Step) → Closed P w → length w ≤ n
  pub simple : (p q : ℕ) (w : List Step) → q < n → Simple P p w q → length w < n

abbrev pub Below : (Step → Type 0) → ℕ → Type 0
Below P n = (s : Step) → P s → s.from < n

-- a place has one rank at most, and none if it is infinite
pub record RanksSingle (P : Step → Type 0) : Type 0 where
  pub one : (p m n : ℕ) → Rank P p m → Rank P p n → m ≡ n
  pub apart : (p n : ℕ) → Infinite P p → Rank P p n → ⊥

-- the laws of a finite relation: the steps are those of a list
pub record Finite (edges : List Step) : Type 0 where
  pub simple : WalksSimple (Holds edges)
  pub short : (n : ℕ) → Below (Holds edges) n → WalksShort (Holds edges) n
  pub single : RanksSingle (Holds edges)
  -- each place is infinite or has a rank: the most special edges on walks ending there, reached by a walk
  pub ranked : (p : ℕ) → Infinite (Holds edges) p ⊎ ((n : ℕ) × Rank (Holds edges) p n)

-- each step of P has one of Q between the same places, special if it is
abbrev pub Within : (Step → Type 0) → (Step → Type 0) → Type 0
Within P Q = (s : Step) → P s → (t : Step) × Q t × (t.from ≡ s.from) × (t.to ≡ s.to) × (Special s → Special t)

-- what holds if P and Q are within each other: infinite places and ranks carry over
pub record SameRanks (P Q : Step → Type 0) : Type 0 where
  pub infinite : (p : ℕ) → Infinite P p → Infinite Q p
  pub rank : (p n : ℕ) → Rank P p n → Rank Q p n
