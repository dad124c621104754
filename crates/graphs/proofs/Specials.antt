-- The special edges on joined walks, and walks with as many as one likes: an infinite place has no rank.
use Rattle.std.proofs.Common.{◌≡◌, ℕ, zero, suc, ◌+◌, ◌≤◌, Bool, true, false, cond, eqb, List, [], ◌∷◌, ◌++◌, refl, ap, arith}
use Rattle.std.proofs.lemmas.Bool.{eqb-true}
use Rattle.lists.specs.Places.{At}
use Rattle.graphs.specs.declared.step.Step.{Step}
use Rattle.graphs.specs.Walks.{Walk, Special, Infinite, Rank, specials}
use Rattle.graphs.specs.Laws.{RanksSingle}
use Rattle.graphs.proofs.Walking.{joined, round}

pub specials_joined : (a b : List Step) → specials (a ++ b) ≡ specials a + specials b
specials_joined [] b = omega arith
specials_joined (s ∷ a) b = omega (arith, specials_joined a b)

pub special_counts : (s : Step) (w : List Step) → Special s → 1 ≤ specials (s ∷ w)
special_counts s w e = let one : ◌≡◌ {A = ℕ} (cond (eqb s.kind 5) 1 0) 1 = ap {B = ℕ} (λ x. cond (eqb x 5) 1 0) e in omega arith

-- what counts is a special edge
pub special_found : (w : List Step) → 1 ≤ specials w → (k : ℕ) × (s : Step) × At w k s × Special s
special_found [] h = absurd (omega arith)
special_found (s ∷ w) h = go (eqb s.kind 5) refl h (special_found w)
  where
    go : (b : Bool) → eqb s.kind 5 ≡ b → 1 ≤ cond b 1 0 + specials w → (1 ≤ specials w → (k : ℕ) × (t : Step) × At w k t × Special t) → (k : ℕ) × (t : Step) × At (s ∷ w) k t × Special t
    go true e h later = (0, s, refl, eqb-true s.kind 5 e)
    go false e h later = let (k, t, here, x) = later (omega arith) in (suc k, t, here, x)

-- n times round, then out
unfoldable pub times : ℕ → List Step → List Step → List Step
times zero a b = b
times (suc n) a b = a ++ times n a b

pub times_walk : (P : Step → Type 0) (n : ℕ) (a b : List Step) (p q : ℕ) → Walk P p a p → Walk P p b q → Walk P p (times n a b) q
unfolding times
times_walk P zero a b p q v w = w
times_walk P (suc n) a b p q v w = joined P a (times n a b) p p q v (times_walk P n a b p q v w)

pub times_specials : (n : ℕ) (a b : List Step) → 1 ≤ specials a → n ≤ specials (times n a b)
unfolding times
times_specials zero a b h = omega arith
times_specials (suc n) a b h = omega (arith, specials_joined a (times n a b), times_specials n a b h)

module _ (P : Step → Type 0) where
  one : (p m n : ℕ) → Rank P p m → Rank P p n → m ≡ n
  one p m n a b =
      let (q, w, walk, e) = a.some in
      let (r, v, back, f) = b.some in
      omega (arith, b.most q w walk, a.most r v back)

  never : (p n : ℕ) → Infinite P p → Rank P p n → ⊥
  never p n h r =
      let (i, s, a, x) = h.special in
      let (j, t, w, b, out) = h.out in
      let (step, u, back) = round P h.cycle i i s s h.closed.0 a a in
      let (_, v, there) = round P h.cycle i j s t h.closed.0 a b in
      let walk = times_walk P (suc n) (s ∷ u) (s ∷ (v ++ w)) s.from p (step, refl, back) (step, refl, joined P v w s.to t.from p there out) in
      omega (arith, r.most s.from (times (suc n) (s ∷ u) (s ∷ (v ++ w))) walk, times_specials (suc n) (s ∷ u) (s ∷ (v ++ w)) (special_counts s u x))

  pub ranks_single : RanksSingle P
  ranks_single = record { one = one; apart = never }
