-- What `position` and `get` answer, told of the list seen through f.
use Rattle.std.proofs.Common.{ℕ, ◌<◌, List, map, length, sym, subst, Some, None, Option, MatchOption, arith}
use Rattle.std.proofs.Math.ListN.{length-map}
use Rattle.std.specs.List.{AllWithin, HoldsAt}
use Rattle.lists.specs.Places.{At, First}
use Rattle.lists.proofs.Numbered.{at_get, at_below}
use Rattle.lists.proofs.Elements.{at_some, map_at}
use Rattle.lists.proofs.Mapped.{at_map}

module _ {A B : Type 0} (f : A → B) (P : B → Type 0) (xs : List A) where
  none_of : (n : ℕ) → AllWithin (λ x. P (f x) → ⊥) xs 0 n → (j : ℕ) (y : B) → j < n → At (map f xs) j y → P y → ⊥
  none_of n none j y l at p =
      let m = at_map f xs j y at in
      none j m.0 (omega arith) l (subst (λ (x : A). P (f x)) (sym (at_get xs j m.0 m.0 m.1)) (subst P (sym m.2) p))

  found : (i : ℕ) → i < length xs → HoldsAt (λ x. P (f x)) xs i → AllWithin (λ x. P (f x) → ⊥) xs 0 i → (y : B) × First P (map f xs) i y
  found i l holds before =
      let x = at_some xs i l in
      (f x.0, record { here = map_at f xs i x.0 x.1; does = subst (λ (z : A). P (f z)) (at_get xs i x.0 x.0 x.1) (holds x.0); earlier = none_of i before })

  -- where `position` with a test of P answers r, so does Q, which tells of the first element seen through f that satisfies P
  pub finds : (Q : Option ℕ → Type 0) → (((i : ℕ) (y : B) → At (map f xs) i y → P y → ⊥) → Q None) → ((i : ℕ) → (y : B) × First P (map f xs) i y → Q (Some i)) → (r : Option ℕ)
      → MatchOption r (AllWithin (λ x. P (f x) → ⊥) xs 0 (length xs)) (λ i. (i < length xs) × HoldsAt (λ x. P (f x)) xs i × AllWithin (λ x. P (f x) → ⊥) xs 0 i) → Q r
  finds Q none some None m = none (λ j y at. none_of (length xs) m j y (omega (arith, at_below (map f xs) j y at, length-map xs f)) at)
  finds Q none some (Some i) m = some i (found i m.0 m.1 m.2)
