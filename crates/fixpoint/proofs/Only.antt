-- What `Found` says has one table.
use Rattle.std.proofs.Common.{ℕ, zero, suc, ◌-◌, ◌<◌, ◌≤◌, List, get_or, ⊎_elim, arith}
use Rattle.std.proofs.lemmas.Bool.{cases_eq, cases_lt}
use Rattle.fixpoint.specs.Least.{FoundBy, Held, Found, Determined}
use Rattle.fixpoint.proofs.Items.{inside}

module _ {n : ℕ} {first : ℕ → Type 0} {steps : List ℕ → ℕ → Type 0} {xs ys : List ℕ} (f : Found n first steps xs) (h : Found n first steps ys) where
  -- what one table has by round b, the other has as soon
  as_soon : (b i : ℕ) → get_or xs i 0 ≤ b → 0 < get_or xs i 0 → FoundBy ys (get_or xs i 0) i
  as_soon zero i m p = absurd (omega arith)
  as_soon (suc b) i m p = ⊎_elim
      (λ e. let y = h.one_all i (inside xs n f.outside i p) (f.one i e) in (omega arith, omega arith))
      (λ ne.
      let q = get_or xs i 0 - 1 in
      let pos : 0 < q = omega arith in
      let g = f.later i q pos (omega arith) in
      let held : Held ys q g.0 = λ k l. (let a = as_soon b (get_or g.0 k 0) (omega (arith, g.2 k l)) (g.2 k l).0 in (a.0, omega (arith, a.1, (g.2 k l).1))) in
      let y = h.soonest i q (inside xs n f.outside i p) pos (g.0, g.1, held) in
      (y.0, omega (arith, y.1)))
      (cases_eq (get_or xs i 0) 1)

  not_later : (i : ℕ) → 0 < get_or xs i 0 → FoundBy ys (get_or xs i 0) i
  not_later i p = as_soon (get_or xs i 0) i (omega arith) p

pub determined : (n : ℕ) (first : ℕ → Type 0) (steps : List ℕ → ℕ → Type 0) → Determined n first steps
determined n first steps xs ys f h i =
    ⊎_elim
    (λ p. let a = not_later f h i p in let b = not_later h f i a.0 in omega (arith, a.1, b.1))
    (λ z. ⊎_elim (λ p. let b = not_later h f i p in absurd (omega (arith, b.0))) (λ w. omega arith) (cases_lt 0 (get_or ys i 0)))
    (cases_lt 0 (get_or xs i 0))
