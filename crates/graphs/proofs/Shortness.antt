-- Simple and closed walks are short.
use Rattle.std.proofs.Common.{ℕ, zero, suc, ◌<◌, ◌≤◌, List, [], ◌∷◌, length, refl, subst, arith}
use Rattle.std.proofs.Math.ListN.{length-map}
use Rattle.lists.specs.Places.{At}
use Rattle.lists.proofs.Pigeons.{once_cons, few}
use Rattle.graphs.specs.declared.step.Step.{Step}
use Rattle.graphs.specs.Walks.{Walk, Simple, Closed, froms}
use Rattle.graphs.specs.Laws.{WalksShort, Below}

module _ (P : Step → Type 0) (n : ℕ) (small : Below P n) where
  walk_below : (w : List Step) (p q : ℕ) → Walk P p w q → (i x : ℕ) → At (froms w) i x → x < n
  walk_below [] p q walk i x here = absurd here
  walk_below (s ∷ w) p q (step, e, walk) zero x here = subst (λ y. y < n) here (small s step)
  walk_below (s ∷ w) p q (step, e, walk) (suc i) x here = walk_below w s.to q walk i x here

  closed_few : (w : List Step) → Closed P w → length w ≤ n
  closed_few [] c = omega arith
  closed_few (s ∷ w) ((step, walk), once) =
      omega (arith, few n (froms (s ∷ w)) (walk_below (s ∷ w) s.from s.from (step, refl, walk)) once, length-map w (λ (x : Step). x.from))

  -- wherever it ends
  pub simple_few : (p q : ℕ) (w : List Step) → Simple P p w q → length w ≤ n
  simple_few p q w simple = omega (arith, few n (froms w) (walk_below w p q simple.walk) simple.once, length-map w (λ (x : Step). x.from))

  simple_fewer : (p q : ℕ) (w : List Step) → q < n → Simple P p w q → length w < n
  simple_fewer p q w below simple =
      omega (arith, few n (q ∷ froms w) all (once_cons q (froms w) simple.ends simple.once), length-map w (λ (x : Step). x.from))
    where
      all : (i x : ℕ) → At (q ∷ froms w) i x → x < n
      all zero x here = subst (λ y. y < n) here below
      all (suc i) x here = walk_below w p q simple.walk i x here

  pub walks_short : WalksShort P n
  walks_short = record { closed = closed_few; simple = simple_fewer }
