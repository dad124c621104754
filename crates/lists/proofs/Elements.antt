-- Elements of lists: of one behind the other, of a list made from another, and looked up by number.
use Rattle.std.proofs.Common.{◌≡◌, ℕ, zero, suc, ◌+◌, ◌<◌, ◌≤◌, ◌⊎◌, List, [], ◌∷◌, ◌++◌, map, length, take, Some, None, Option, sym, refl, ap, subst, inl, inr, arith}
use Rattle.std.specs.List.{slice_get}
use Rattle.std.proofs.lemmas.Bool.{cases_eq}
use Rattle.lists.specs.Places.{At, Holds}

module _ {A : Type 0} where
  pub at_some : (xs : List A) (i : ℕ) → i < length xs → (x : A) × At xs i x
  at_some [] i h = absurd (omega arith)
  at_some (z ∷ zs) zero h = (z, refl)
  at_some (z ∷ zs) (suc i) h = at_some zs i (omega arith)

  pub at_right : (xs ys : List A) (i : ℕ) (x : A) → At ys i x → Holds (xs ++ ys) x
  at_right [] ys i x h = (i, h)
  at_right (z ∷ zs) ys i x h = let (j, t) = at_right zs ys i x h in (suc j, t)

  pub at_either : (xs ys : List A) (i : ℕ) (x : A) → At (xs ++ ys) i x → Holds xs x ⊎ Holds ys x
  at_either [] ys i x h = inr (i, h)
  at_either (z ∷ zs) ys zero x h = inl (0, h)
  at_either (z ∷ zs) ys (suc i) x h = later (at_either zs ys i x h)
    where
      later : Holds zs x ⊎ Holds ys x → Holds (z ∷ zs) x ⊎ Holds ys x
      later (inl (j, t)) = inl (suc j, t)
      later (inr t) = inr t

-- a number is in a list or not
pub held : (x : ℕ) (xs : List ℕ) → Holds xs x ⊎ (Holds xs x → ⊥)
held x [] = inr (λ h. h.1)
held x (y ∷ ys) = first (cases_eq y x) (held x ys)
  where
    first : (y ≡ x) ⊎ (y ≡ x → ⊥) → Holds ys x ⊎ (Holds ys x → ⊥) → Holds (y ∷ ys) x ⊎ (Holds (y ∷ ys) x → ⊥)
    first (inl e) later = inl (0, e)
    first (inr d) (inl (k, h)) = inl (suc k, h)
    first (inr d) (inr f) = inr refuse
      where
        refuse : Holds (y ∷ ys) x → ⊥
        refuse (zero, h) = d h
        refuse (suc k, h) = f (k, h)

pub map_at : {A B : Type 0} (f : A → B) (xs : List A) (i : ℕ) (x : A) → At xs i x → At (map f xs) i (f x)
map_at f [] i x p = absurd p
map_at f (z ∷ zs) zero x p = ap f p
map_at f (z ∷ zs) (suc i) x p = map_at f zs i x p

-- `At` and `nth`
module _ {A : Type 0} where
  pub at_nth : (xs : List A) (i : ℕ) (x : A) → At xs i x → slice_get xs i ≡ Some x
  at_nth [] i x h = absurd h
  at_nth (y ∷ ys) zero x h = ap Some h
  at_nth (y ∷ ys) (suc i) x h = at_nth ys i x h

  abbrev Same : Option A → A → Type 0
  Same None x = ⊥
  Same (Some y) x = y ≡ x

  same_at : (xs : List A) (i : ℕ) (x : A) → Same (slice_get xs i) x → At xs i x
  same_at [] i x h = absurd h
  same_at (y ∷ ys) zero x h = h
  same_at (y ∷ ys) (suc i) x h = same_at ys i x h

  pub nth_at : (xs : List A) (i : ℕ) (x : A) → slice_get xs i ≡ Some x → At xs i x
  nth_at xs i x e = same_at xs i x (subst (λ (o : Option A). Same o x) (sym e) refl)

-- fronts of lists, and what stands behind
pub take_left : {A : Type 0} (xs ys : List A) (k : ℕ) → k ≤ length xs → take k (xs ++ ys) ≡ take k xs
take_left xs ys zero h = refl
take_left [] ys (suc k) h = absurd (omega arith)
take_left (x ∷ xs) ys (suc k) h = ap (λ (l : List _). x ∷ l) (take_left xs ys k (omega arith))

pub take_map : {A B : Type 0} (f : A → B) (xs : List A) (i : ℕ) → take i (map f xs) ≡ map f (take i xs)
take_map f xs zero = refl
take_map f [] (suc i) = refl
take_map f (x ∷ xs) (suc i) = ap (λ (k : List _). f x ∷ k) (take_map f xs i)

pub at_take : {A : Type 0} (xs : List A) (k j : ℕ) (x : A) → j < k → At xs j x → At (take k xs) j x
at_take [] k j x l at = absurd at
at_take (y ∷ ys) zero j x l at = absurd (omega arith)
at_take (y ∷ ys) (suc k) zero x l at = at
at_take (y ∷ ys) (suc k) (suc j) x l at = at_take ys k j x (omega arith) at

pub take_at : {A : Type 0} (xs : List A) (k j : ℕ) (x : A) → At (take k xs) j x → (j < k) × At xs j x
take_at xs zero j x at = absurd at
take_at [] (suc k) j x at = absurd at
take_at (y ∷ ys) (suc k) zero x at = (omega arith, at)
take_at (y ∷ ys) (suc k) (suc j) x at = let (l, h) = take_at ys k j x at in (omega arith, h)

pub at_behind : {A : Type 0} (xs ys : List A) (k n : ℕ) (y : A) → n ≡ length xs + k → At ys k y → At (xs ++ ys) n y
at_behind [] ys k n y e at = let same : k ≡ n = omega arith in subst (λ (m : ℕ). At ys m y) same at
at_behind (x ∷ xs) ys k zero y e at = absurd (omega arith)
at_behind (x ∷ xs) ys k (suc n) y e at = at_behind xs ys k n y (omega arith) at
