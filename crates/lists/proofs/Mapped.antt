-- Lists that are made from others element by element.
use Rattle.std.proofs.Common.{◌≡◌, ℕ, zero, suc, ◌<◌, List, [], ◌∷◌, ◌++◌, map, length, get_or, take, refl, ap, subst, arith}
use Rattle.lists.specs.Places.{At, Pairwise}

module _ {A B : Type 0} (f : A → B) where
  pub map_snoc : (xs : List A) (x : A) → map f (xs ++ (x ∷ [])) ≡ map f xs ++ (f x ∷ [])
  map_snoc [] x = refl
  map_snoc (y ∷ ys) x = ap (λ (k : List B). f y ∷ k) (map_snoc ys x)

  pub at_map : (xs : List A) (k : ℕ) (y : B) → At (map f xs) k y → (x : A) × At xs k x × (f x ≡ y)
  at_map [] k y h = absurd h
  at_map (x ∷ xs) zero y h = (x, refl, h)
  at_map (x ∷ xs) (suc k) y h = at_map xs k y h

  pub at_map_get : (xs : List A) (i : ℕ) (d : A) → i < length xs → At (map f xs) i (f (get_or xs i d))
  at_map_get [] i d l = absurd (omega arith)
  at_map_get (x ∷ xs) zero d l = refl
  at_map_get (x ∷ xs) (suc i) d l = at_map_get xs i d (omega arith)

  pub at_map_front : (xs : List A) (i j : ℕ) (y : B) → j < i → At (map f xs) j y → At (map f (take i xs)) j y
  at_map_front [] i j y l h = absurd h
  at_map_front (x ∷ xs) zero j y l h = absurd (omega arith)
  at_map_front (x ∷ xs) (suc i) zero y l h = h
  at_map_front (x ∷ xs) (suc i) (suc j) y l h = at_map_front xs i j y (omega arith) h

module _ {A B : Type 0} (R : A → B → Type 0) where
  pub pairs_snoc : (xs : List A) (ys : List B) (x : A) (y : B) → Pairwise R xs ys → R x y → Pairwise R (xs ++ (x ∷ [])) (ys ++ (y ∷ []))
  pairs_snoc [] [] x y p r = (r, tt)
  pairs_snoc [] (b ∷ ys) x y p r = absurd p
  pairs_snoc (a ∷ xs) [] x y p r = absurd p
  pairs_snoc (a ∷ xs) (b ∷ ys) x y (q, p) r = (q, pairs_snoc xs ys x y p r)

  pub pairs_at : (xs : List A) (ys : List B) (k : ℕ) (x : A) → Pairwise R xs ys → At xs k x → (y : B) × R x y
  pairs_at [] ys k x p h = absurd h
  pairs_at (a ∷ xs) [] k x p h = absurd p
  pairs_at (a ∷ xs) (b ∷ ys) zero x (q, p) h = (b, subst (λ z. R z b) h q)
  pairs_at (a ∷ xs) (b ∷ ys) (suc k) x (q, p) h = pairs_at xs ys k x p h

  pub pairs_left : (xs : List A) (ys : List B) → Pairwise R xs ys → (i : ℕ) (y : B) → At ys i y → (x : A) × At xs i x × R x y
  pairs_left [] [] p i y h = absurd h
  pairs_left [] (z ∷ ys) p i y h = absurd p
  pairs_left (x ∷ xs) [] p i y h = absurd p
  pairs_left (x ∷ xs) (z ∷ ys) (r, p) zero y h = (x, refl, subst (λ k. R x k) h r)
  pairs_left (x ∷ xs) (z ∷ ys) (r, p) (suc i) y h = pairs_left xs ys p i y h

pub pairs_grow : {A B : Type 0} (R S : A → B → Type 0) → ((x : A) (y : B) → R x y → S x y) → (xs : List A) (ys : List B) → Pairwise R xs ys → Pairwise S xs ys
pairs_grow R S f [] [] p = p
pairs_grow R S f [] (y ∷ ys) p = absurd p
pairs_grow R S f (x ∷ xs) [] p = absurd p
pairs_grow R S f (x ∷ xs) (y ∷ ys) (r, p) = (f x y r, pairs_grow R S f xs ys p)

pub pairs_length : {A B : Type 0} (R : A → B → Type 0) (xs : List A) (ys : List B) → Pairwise R xs ys → length xs ≡ length ys
pairs_length R [] [] p = refl
pairs_length R [] (y ∷ ys) p = absurd p
pairs_length R (x ∷ xs) [] p = absurd p
pairs_length R (x ∷ xs) (y ∷ ys) (_, p) = ap suc (pairs_length R xs ys p)
