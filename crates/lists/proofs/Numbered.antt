-- Numbers in order, elements by number, and first ones are determined.
use Rattle.std.proofs.Common.{◌≡◌, ℕ, zero, suc, ◌<◌, ◌⊎◌, List, [], ◌∷◌, ◌++◌, length, get_or, take, sym, refl, ap, ◌∙◌, subst, inl, inr, arith}
use Rattle.lists.specs.Places.{At, First}

pub order : (m n : ℕ) → (m < n) ⊎ ((m ≡ n) ⊎ (n < m))
order zero zero = inr (inl refl)
order zero (suc n) = inl (omega arith)
order (suc m) zero = inr (inr (omega arith))
order (suc m) (suc n) = next (order m n)
  where
    next : (m < n) ⊎ ((m ≡ n) ⊎ (n < m)) → (suc m < suc n) ⊎ ((suc m ≡ suc n) ⊎ (suc n < suc m))
    next (inl l) = inl (omega arith)
    next (inr (inl e)) = inr (inl (ap suc e))
    next (inr (inr l)) = inr (inr (omega arith))

module _ {A : Type 0} where
  pub at_same : (xs : List A) (i : ℕ) (x y : A) → At xs i x → At xs i y → x ≡ y
  at_same [] i x y p q = absurd p
  at_same (z ∷ zs) zero x y p q = sym p ∙ q
  at_same (z ∷ zs) (suc i) x y p q = at_same zs i x y p q

  pub at_below : (xs : List A) (i : ℕ) (x : A) → At xs i x → i < length xs
  at_below [] i x p = absurd p
  at_below (z ∷ zs) zero x p = omega arith
  at_below (z ∷ zs) (suc i) x p = let h = at_below zs i x p in omega arith

  pub at_left : (xs ys : List A) (i : ℕ) (x : A) → At xs i x → At (xs ++ ys) i x
  at_left [] ys i x h = absurd h
  at_left (z ∷ zs) ys zero x h = h
  at_left (z ∷ zs) ys (suc i) x h = at_left zs ys i x h

  pub at_front : (xs ys : List A) (i : ℕ) (x : A) → i < length xs → At (xs ++ ys) i x → At xs i x
  at_front [] ys i x l h = absurd (omega arith)
  at_front (z ∷ zs) ys zero x l h = h
  at_front (z ∷ zs) ys (suc i) x l h = at_front zs ys i x (omega arith) h

  -- the element at a number, and `get_or`
  pub at_get : (xs : List A) (i : ℕ) (x d : A) → At xs i x → get_or xs i d ≡ x
  at_get [] i x d h = absurd h
  at_get (z ∷ zs) zero x d h = h
  at_get (z ∷ zs) (suc i) x d h = at_get zs i x d h

  pub get_at : (xs : List A) (i : ℕ) (d : A) → i < length xs → At xs i (get_or xs i d)
  get_at [] i d l = absurd (omega arith)
  get_at (z ∷ zs) zero d l = refl
  get_at (z ∷ zs) (suc i) d l = get_at zs i d (omega arith)

  -- what stands right behind xs, and what stands before it
  pub at_next : (xs ys : List A) (x : A) → At (xs ++ (x ∷ ys)) (length xs) x
  at_next [] ys x = refl
  at_next (z ∷ zs) ys x = at_next zs ys x

  pub take_front : (xs ys : List A) → take (length xs) (xs ++ ys) ≡ xs
  take_front [] ys = refl
  take_front (z ∷ zs) ys = ap (λ (k : List A). z ∷ k) (take_front zs ys)

  -- an element of xs with y behind it is one of xs, or y
  pub at_snoc : (xs : List A) (y : A) (i : ℕ) (x : A) → At (xs ++ (y ∷ [])) i x → At xs i x ⊎ ((i ≡ length xs) × (y ≡ x))
  at_snoc [] y zero x h = inr (refl, h)
  at_snoc [] y (suc i) x h = absurd h
  at_snoc (z ∷ zs) y zero x h = inl h
  at_snoc (z ∷ zs) y (suc i) x h = more (at_snoc zs y i x h)
    where
      more : At zs i x ⊎ ((i ≡ length zs) × (y ≡ x)) → At zs i x ⊎ ((suc i ≡ length (z ∷ zs)) × (y ≡ x))
      more (inl a) = inl a
      more (inr (e, f)) = inr (ap suc e, f)

  pub first_number : (P : A → Type 0) (xs : List A) (k j : ℕ) (x y : A) → First P xs k x → First P xs j y → k ≡ j
  first_number P xs k j x y a b = cases (order k j)
    where
      cases : (k < j) ⊎ ((k ≡ j) ⊎ (j < k)) → k ≡ j
      cases (inl l) = absurd (b.earlier k x l a.here a.does)
      cases (inr (inl e)) = e
      cases (inr (inr l)) = absurd (a.earlier j y l b.here b.does)

  pub first_single : (P : A → Type 0) (xs : List A) (k j : ℕ) (x y : A) → First P xs k x → First P xs j y → x ≡ y
  first_single P xs k j x y a b = at_same xs j x y (subst (λ n. At xs n x) (first_number P xs k j x y a b) a.here) b.here
