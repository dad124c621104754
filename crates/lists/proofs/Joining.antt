-- First numbers and joined lists are determined, and what a joined list has.
use Rattle.std.proofs.Common.{◌≡◌, ℕ, zero, suc, ◌<◌, ◌≤◌, ◌⊎◌, List, [], ◌∷◌, ◌++◌, length, sym, refl, ◌∙◌, subst, inl, inr, arith}
use Rattle.lists.specs.Places.{At, Holds, Once, First, FirstAt}
use Rattle.lists.specs.Joins.{Joined}
use Rattle.lists.proofs.Numbered.{order, at_below, at_front, at_left, at_next, at_snoc}

module _ {A : Type 0} where
  pub first_at_single : (xs : List A) (k j : ℕ) (x : A) → FirstAt xs k x → FirstAt xs j x → k ≡ j
  first_at_single xs k j x a b = cases (order k j)
    where
      cases : (k < j) ⊎ ((k ≡ j) ⊎ (j < k)) → k ≡ j
      cases (inl l) = absurd (b.1 k l a.0)
      cases (inr (inl e)) = e
      cases (inr (inr l)) = absurd (a.1 j l b.0)

  pub joined_single : (xs ys zs ws : List A) → Joined xs ys zs → Joined xs ys ws → zs ≡ ws
  joined_single xs [] zs ws p q = p ∙ sym q
  joined_single xs (y ∷ ys) zs ws (inl (h, p)) (inl (g, q)) = joined_single xs ys zs ws p q
  joined_single xs (y ∷ ys) zs ws (inl (h, p)) (inr (g, q)) = absurd (g h)
  joined_single xs (y ∷ ys) zs ws (inr (h, p)) (inl (g, q)) = absurd (h g)
  joined_single xs (y ∷ ys) zs ws (inr (h, p)) (inr (g, q)) = joined_single (xs ++ (y ∷ [])) ys zs ws p q

  pub at_last : (xs : List A) (y : A) → Holds (xs ++ (y ∷ [])) y
  at_last [] y = (0, refl)
  at_last (x ∷ xs) y = let (n, h) = at_last xs y in (suc n, h)

  pub holds_snoc : (xs : List A) (y x : A) → Holds (xs ++ (y ∷ [])) x → Holds xs x ⊎ (y ≡ x)
  holds_snoc [] y x (zero, h) = inr h
  holds_snoc [] y x (suc n, h) = absurd h
  holds_snoc (z ∷ zs) y x (zero, h) = inl (0, h)
  holds_snoc (z ∷ zs) y x (suc n, h) = again (holds_snoc zs y x (n, h))
    where
      again : Holds zs x ⊎ (y ≡ x) → Holds (z ∷ zs) x ⊎ (y ≡ x)
      again (inl (m, t)) = inl (suc m, t)
      again (inr e) = inr e

  -- what was there stays at its number, and each that is joined is there
  pub joined_keeps : (xs ys zs : List A) → Joined xs ys zs → (n : ℕ) (x : A) → At xs n x → At zs n x
  joined_keeps xs [] zs p n x h = subst (λ l. At l n x) (sym p) h
  joined_keeps xs (y ∷ ys) zs (inl (_, p)) n x h = joined_keeps xs ys zs p n x h
  joined_keeps xs (y ∷ ys) zs (inr (_, p)) n x h = joined_keeps (xs ++ (y ∷ [])) ys zs p n x (at_left xs (y ∷ []) n x h)

  pub joined_has : (xs ys zs : List A) → Joined xs ys zs → (x : A) → Holds ys x → Holds zs x
  joined_has xs [] zs p x (n, h) = absurd h
  joined_has xs (y ∷ ys) zs (inl ((m, g), p)) x (zero, h) = (m, joined_keeps xs ys zs p m x (subst (λ z. At xs m z) h g))
  joined_has xs (y ∷ ys) zs (inr (_, p)) x (zero, h) = let (m, g) = at_last xs y in (m, joined_keeps (xs ++ (y ∷ [])) ys zs p m x (subst (λ z. At (xs ++ (y ∷ [])) m z) h g))
  joined_has xs (y ∷ ys) zs (inl (_, p)) x (suc n, h) = joined_has xs ys zs p x (n, h)
  joined_has xs (y ∷ ys) zs (inr (_, p)) x (suc n, h) = joined_has (xs ++ (y ∷ [])) ys zs p x (n, h)

  pub joined_only : (xs ys zs : List A) → Joined xs ys zs → (x : A) → Holds zs x → Holds xs x ⊎ Holds ys x
  joined_only xs [] zs p x h = inl (subst (λ l. Holds l x) p h)
  joined_only xs (y ∷ ys) zs (inl (_, p)) x h = cases (joined_only xs ys zs p x h)
    where
      cases : Holds xs x ⊎ Holds ys x → Holds xs x ⊎ Holds (y ∷ ys) x
      cases (inl a) = inl a
      cases (inr (n, a)) = inr (suc n, a)
  joined_only xs (y ∷ ys) zs (inr (_, p)) x h = cases (joined_only (xs ++ (y ∷ [])) ys zs p x h)
    where
      split : Holds xs x ⊎ (y ≡ x) → Holds xs x ⊎ Holds (y ∷ ys) x
      split (inl a) = inl a
      split (inr e) = inr (0, e)

      cases : Holds (xs ++ (y ∷ [])) x ⊎ Holds ys x → Holds xs x ⊎ Holds (y ∷ ys) x
      cases (inl a) = split (holds_snoc xs y x a)
      cases (inr (n, a)) = inr (suc n, a)

  pub joined_longer : (xs ys zs : List A) → Joined xs ys zs → length xs ≤ length zs
  joined_longer [] ys zs p = omega arith
  joined_longer (x ∷ xs) ys zs p = longest (x ∷ xs) zs (joined_keeps (x ∷ xs) ys zs p)
    where
      longest : (us vs : List A) → ((n : ℕ) (a : A) → At us n a → At vs n a) → length us ≤ length vs
      longest [] vs k = omega arith
      longest (a ∷ us) [] k = absurd (k 0 a refl)
      longest (a ∷ us) (b ∷ vs) k = let h = longest us vs (λ n c t. k (suc n) c t) in omega arith

  -- the first that is y stands first at its number
  pub first_at : (xs : List A) (k : ℕ) (x y : A) → First (λ z. z ≡ y) xs k x → FirstAt xs k y
  first_at xs k x y f = (subst (λ z. At xs k z) f.does f.here, λ j l at. f.earlier j y l at refl)

  -- a new one stands first behind the others
  pub new_first : (xs : List A) (y : A) (n : ℕ) → length xs ≡ n → (Holds xs y → ⊥) → FirstAt (xs ++ (y ∷ [])) n y
  new_first xs y n e new = (subst (λ k. At (xs ++ (y ∷ [])) k y) e (at_next xs [] y), λ j l at. new (j, at_front xs (y ∷ []) j y (omega arith) at))

  -- what stands first still does when more are joined
  pub first_stays : (xs ys zs : List A) (n : ℕ) (x : A) → Joined xs ys zs → FirstAt xs n x → FirstAt zs n x
  first_stays xs [] zs n x p f = subst (λ k. FirstAt k n x) (sym p) f
  first_stays xs (y ∷ ys) zs n x (inl (_, p)) f = first_stays xs ys zs n x p f
  first_stays xs (y ∷ ys) zs n x (inr (_, p)) f = first_stays (xs ++ (y ∷ [])) ys zs n x p (at_left xs (y ∷ []) n x f.0, λ j l at. f.1 j l (at_front xs (y ∷ []) j x (let m = at_below xs n x f.0 in omega arith) at))

  -- joining in two goes
  pub joined_twice : (xs ys zs us ws : List A) → Joined xs ys us → Joined us zs ws → Joined xs (ys ++ zs) ws
  joined_twice xs [] zs us ws p q = subst (λ k. Joined k zs ws) p q
  joined_twice xs (y ∷ ys) zs us ws (inl (h, p)) q = inl (h, joined_twice xs ys zs us ws p q)
  joined_twice xs (y ∷ ys) zs us ws (inr (h, p)) q = inr (h, joined_twice (xs ++ (y ∷ [])) ys zs us ws p q)

  once_snoc : (xs : List A) (y : A) → (Holds xs y → ⊥) → Once xs → Once (xs ++ (y ∷ []))
  once_snoc xs y new once i j x a b = cases (at_snoc xs y i x a) (at_snoc xs y j x b)
    where
      cases : At xs i x ⊎ ((i ≡ length xs) × (y ≡ x)) → At xs j x ⊎ ((j ≡ length xs) × (y ≡ x)) → i ≡ j
      cases (inl p) (inl q) = once i j x p q
      cases (inl p) (inr (_, e)) = absurd (new (i, subst (λ z. At xs i z) (sym e) p))
      cases (inr (_, e)) (inl q) = absurd (new (j, subst (λ z. At xs j z) (sym e) q))
      cases (inr (e, _)) (inr (f, _)) = e ∙ sym f

  -- joining repeats nothing
  pub joined_once : (xs ys zs : List A) → Joined xs ys zs → Once xs → Once zs
  joined_once xs [] zs p once = subst (λ l. Once l) (sym p) once
  joined_once xs (y ∷ ys) zs (inl (_, p)) once = joined_once xs ys zs p once
  joined_once xs (y ∷ ys) zs (inr (new, p)) once = joined_once (xs ++ (y ∷ [])) ys zs p (once_snoc xs y new once)
