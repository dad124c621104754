-- What each element of an array made by `array::from_fn` is, where the calls leave the closure as it was.
use Rattle.std.proofs.Common.{◌≡◌, ℕ, zero, suc, ◌+◌, ◌<◌, ◌≤◌, List, get_or, sym, subst, ⊎_elim, arith}
use Rattle.std.proofs.lemmas.Bool.{cases_eq}
use Rattle.std.specs.Array.{IsFromFnResult, IsFromFnResultFrom}
use Rattle.std.specs.Fn.{Called, Mut}

module _ {F B : Type 0} (g : Mut F (ℕ × Unit {0}) B) (P : ℕ → B → Type 0) (f : F) (ys : List B) (call : (x : ℕ) (y : B) (q : F) → Called g f (x, tt) y q → (q ≡ f) × P x y) where
  from_fn_from : (i n : ℕ) → IsFromFnResultFrom g f ys i n → (k : ℕ) (e : B) → i ≤ k → k < i + n → P k (get_or ys k e)
  from_fn_from i zero made k e low up = absurd (omega arith)
  from_fn_from i (suc n) (q, y, at, called, rest) k e low up =
      let one = call i y q called in
      ⊎_elim
      (λ same. subst (λ x. P x (get_or ys x e)) (sym same) (subst (λ z. P i z) (sym (at.1 e)) one.1))
      (λ other. from_fn_from (i + 1) n (subst (λ p. IsFromFnResultFrom g p ys (i + 1) n) one.0 rest) k e (omega arith) (omega arith))
      (cases_eq k i)

  pub from_fn_each : (n : ℕ) → IsFromFnResult g f ys n → (k : ℕ) (e : B) → k < n → P k (get_or ys k e)
  from_fn_each n made k e l = from_fn_from 0 n made.each k e (omega arith) (omega arith)
