-- A rule that is numbered by first occurrence has body variables below 16.
use Rattle.std.proofs.Common.{◌≡◌, ℕ, zero, suc, ◌+◌, ◌*◌, ◌<◌, ◌≤◌, List, [], ◌∷◌, ◌++◌, length, sym, refl, ap, ◌∙◌, subst, append_assoc, arith, length-append}
use Rattle.lists.specs.Places.{At, Once}
use Rattle.lists.proofs.Numbered.{at_same, at_below, at_left}
use Rattle.lists.proofs.Elements.{at_right}
use Rattle.lists.proofs.Pigeons.{few}
use Rattle.theory.specs.Rules.{Atom, Rule, BodyVariable, written, Numbered, SmallSide}

written_append : (xs ys : List Atom) → written (xs ++ ys) ≡ written xs ++ written ys
written_append [] ys = refl
written_append (a ∷ xs) ys = ap (λ (r : List ℕ). a.columns ++ r) (written_append xs ys) ∙ sym (append_assoc a.columns (written xs) (written ys))

pub in_written : (atoms : List Atom) (v k c : ℕ) (a : Atom) → At atoms k a → At a.columns c v → (n : ℕ) × At (written atoms) n v
in_written [] v k c a here there = absurd here
in_written (x ∷ xs) v zero c a here there = (c, at_left x.columns (written xs) c v (subst (λ y. At y.columns c v) (sym here) there))
in_written (x ∷ xs) v (suc k) c a here there = let (n, t) = in_written xs v k c a here there in at_right x.columns (written xs) n v t

written_few : (atoms : List Atom) → ((k : ℕ) (a : Atom) → At atoms k a → length a.columns ≤ 4) → length (written atoms) ≤ 4 * length atoms
written_few [] h = omega arith
written_few (a ∷ atoms) h = omega (arith, h 0 a refl, written_few atoms (λ k b here. h (suc k) b here), length-append a.columns (written atoms))

-- the numbers below v all come before n, at different places: so v ≤ n
module _ (ws : List ℕ) (n : ℕ) where
  spots : (v : ℕ) → ((u : ℕ) → u < v → (j : ℕ) × (j < n) × At ws j u) → List ℕ
  spots zero h = []
  spots (suc v) h = (h v (omega arith)).0 ∷ spots v (λ u l. h u (omega arith))

  spots_length : (v : ℕ) (h : (u : ℕ) → u < v → (j : ℕ) × (j < n) × At ws j u) → length (spots v h) ≡ v
  unfolding spots
  spots_length zero h = refl
  spots_length (suc v) h = ap suc (spots_length v (λ u l. h u (omega arith)))

  spots_at : (v : ℕ) (h : (u : ℕ) → u < v → (j : ℕ) × (j < n) × At ws j u) (i x : ℕ) → At (spots v h) i x → (u : ℕ) × (u + i + 1 ≡ v) × (x < n) × At ws x u
  unfolding spots
  spots_at zero h i x here = absurd here
  spots_at (suc v) h zero x here = let (j, l, t) = h v (omega arith) in (v, omega arith, subst (λ y. y < n) here l, subst (λ y. At ws y v) here t)
  spots_at (suc v) h (suc i) x here = let (u, e, l, t) = spots_at v (λ u l. h u (omega arith)) i x here in (u, omega arith, l, t)

  below_all : (v : ℕ) → ((u : ℕ) → u < v → (j : ℕ) × (j < n) × At ws j u) → v ≤ n
  below_all v h =
      let once : Once (spots v h) = λ i j x a b.
      (let (u, e, _, s) = spots_at v h i x a in
      let (t, f, _, r) = spots_at v h j x b in
      let same = at_same ws x u t s r in
      omega arith) in
      omega (arith, few n (spots v h) (λ i x a. (spots_at v h i x a).2) once, spots_length v h)

pub variables_few : (r : Rule) (v : ℕ) → SmallSide r.body → Numbered r → BodyVariable r v → v < 16
variables_few r v small numbered (k, c, (a, here, there)) =
    let (n, at_n) = in_written r.body v k c a here there in
    let all = subst (λ (ws : List ℕ). At ws n v) (sym (written_append r.body r.head)) (at_left (written r.body) (written r.head) n v at_n) in
    omega (arith, below_all (written (r.body ++ r.head)) n v (λ u l. numbered n u v all l), at_below (written r.body) n v at_n, written_few r.body small.columns, small.few)
