-- Walks along steps that satisfy P: simple and closed ones, infinite places, and ranks.
use Rattle.std.specs.Prelude.{◌≡◌, ℕ, ◌+◌, ◌≤◌, cond, List, [], ◌∷◌, map, ◌==◌}
use Rattle.lists.specs.Places.{At, Once}
use Rattle.graphs.specs.declared.step.Step.{Step}

-- a walk from p to q: each step satisfies P and begins where the one before it ended
abbrev pub Walk : (Step → Type 0) → ℕ → List Step → ℕ → Type 0
Walk P p [] q = p ≡ q
Walk P p (s ∷ w) q = P s × (s.from ≡ p) × Walk P s.to w q

-- a walk of a step or more that ends where it begins
abbrev pub Returns : (Step → Type 0) → List Step → Type 0
Returns P [] = ⊥
Returns P (s ∷ w) = P s × Walk P s.to w s.from

abbrev pub froms : List Step → List ℕ
froms w = map (λ s. s.from) w

abbrev pub tos : List Step → List ℕ
tos w = map (λ s. s.to) w

-- a simple walk from p to q: no `from` twice, and it ends on first coming to q
pub record Simple (P : Step → Type 0) (p : ℕ) (w : List Step) (q : ℕ) : Type 0 where
  pub walk : Walk P p w q
  pub once : Once (froms w)
  pub ends : (k : ℕ) → At (froms w) k q → ⊥

-- a closed walk: it ends where it begins, and no `from` comes twice
abbrev pub Closed : (Step → Type 0) → List Step → Type 0
Closed P w = Returns P w × Once (froms w)

-- a special edge is a step of kind 5
abbrev pub Special : Step → Type 0
Special s = s.kind ≡ 5

-- a place is infinite if it lies on, or is reached from, a closed walk with a special edge
pub record Infinite (P : Step → Type 0) (p : ℕ) : Type 0 where
  pub cycle : List Step
  pub closed : Closed P cycle
  pub special : (k : ℕ) × (s : Step) × At cycle k s × Special s
  pub out : (k : ℕ) × (s : Step) × (w : List Step) × At cycle k s × Walk P s.from w p

-- what a step adds to the special edges on a walk
abbrev pub counts : Step → ℕ
counts s = cond (s.kind == 5) 1 0

-- the special edges on a walk
abbrev pub specials : List Step → ℕ
specials [] = 0
specials (s ∷ w) = counts s + specials w

-- the rank of p is n: the most special edges on a walk, of any length, that ends there
pub record Rank (P : Step → Type 0) (p n : ℕ) : Type 0 where
  pub some : (q : ℕ) × (w : List Step) × Walk P q w p × (specials w ≡ n)
  pub most : (q : ℕ) (w : List Step) → Walk P q w p → specials w ≤ n
