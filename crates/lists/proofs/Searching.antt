-- Looking through a list for the first element that satisfies P; and the front of a table, each element seen through f.
use Rattle.std.proofs.Common.{◌≡◌, ℕ, ◌+◌, ◌<◌, ◌≤◌, ◌≢◌, List, map, length, get_or, take, subst, ⊎_elim, arith, length-take, get_or-take}
use Rattle.std.proofs.Math.ListN.{length-map}
use Rattle.std.proofs.lemmas.Bool.{cases_eq}
use Rattle.lists.specs.Places.{At, First}
use Rattle.lists.proofs.Numbered.{at_same, at_below}
use Rattle.lists.proofs.Mapped.{at_map_get}

-- none of the first i satisfies P
abbrev pub NoneBefore : {A : Type 0} → (A → Type 0) → List A → ℕ → Type 0
NoneBefore {A} P xs i = (j : ℕ) (x : A) → j < i → At xs j x → P x → ⊥

module _ {A : Type 0} (P : A → Type 0) (xs : List A) (i : ℕ) (before : NoneBefore P xs i) where
  pub none_more : (y : A) → At xs i y → (P y → ⊥) → NoneBefore P xs (i + 1)
  none_more y here none j x k at p =
      ⊎_elim
      (λ e. none (subst P (at_same xs i x y (subst (λ n. At xs n x) e at) here) p))
      (λ ne. before j x (let d : j ≢ i = ne in omega arith) at p)
      (cases_eq j i)

  pub found_first : (y : A) → At xs i y → P y → First P xs i y
  found_first y here p = record { here = here; does = p; earlier = before }

  pub none_all : length xs ≤ i → (j : ℕ) (x : A) → At xs j x → P x → ⊥
  none_all l j x at p = before j x (omega (arith, at_below xs j x at)) at p

module _ {A B : Type 0} (f : A → B) (xs : List A) (n : ℕ) (within : n ≤ length xs) where
  pub front_at : (i : ℕ) (d : A) → i < n → At (map f (take n xs)) i (f (get_or xs i d))
  front_at i d l = subst (λ x. At (map f (take n xs)) i (f x)) (get_or-take n xs i d l) (at_map_get f (take n xs) i d (omega (arith, length-take n xs)))

  pub front_length : length (map f (take n xs)) ≡ n
  front_length = omega (arith, length-map (take n xs) f, length-take n xs)
