-- A list of numbers below n with none twice has at most n of them.
use Rattle.std.proofs.Common.{◌≡◌, ℕ, zero, suc, ◌<◌, ◌≤◌, Bool, true, false, cond, eqb, List, [], ◌∷◌, length, sym, refl, ap, ◌∙◌, subst, arith}
use Rattle.std.proofs.lemmas.Bool.{eqb-true, eqb-false}
use Rattle.lists.specs.Places.{At, Once}

pub once_tail : {A : Type 0} (x : A) (xs : List A) → Once (x ∷ xs) → Once xs
once_tail x xs o i j y a b = let e : suc i ≡ suc j = o (suc i) (suc j) y a b in omega arith

pub once_cons : {A : Type 0} (x : A) (xs : List A) → ((k : ℕ) → At xs k x → ⊥) → Once xs → Once (x ∷ xs)
once_cons x xs fresh o zero zero y a b = refl
once_cons x xs fresh o zero (suc j) y a b = absurd (fresh j (subst (λ z. At xs j z) (sym a) b))
once_cons x xs fresh o (suc i) zero y a b = absurd (fresh i (subst (λ z. At xs i z) (sym b) a))
once_cons x xs fresh o (suc i) (suc j) y a b = ap suc (o i j y a b)

-- all but n
abbrev but : ℕ → List ℕ → List ℕ
but n [] = []
but n (x ∷ xs) = cond (eqb x n) (but n xs) (x ∷ but n xs)

but_at : (n : ℕ) (xs : List ℕ) (i x : ℕ) → At (but n xs) i x → (x ≡ n → ⊥) × (j : ℕ) × At xs j x
but_at n [] i x h = absurd h
but_at n (y ∷ ys) i x h = go (eqb y n) refl i h (λ i' h'. but_at n ys i' x h')
  where
    go : (b : Bool) → eqb y n ≡ b → (i : ℕ) → At (cond b (but n ys) (y ∷ but n ys)) i x → ((i : ℕ) → At (but n ys) i x → (x ≡ n → ⊥) × (j : ℕ) × At ys j x) → (x ≡ n → ⊥) × (j : ℕ) × At (y ∷ ys) j x
    go true e i h later = let (ne, j, here) = later i h in (ne, suc j, here)
    go false e zero h later = ((λ f. eqb-false y n e (h ∙ f)), 0, h)
    go false e (suc i) h later = let (ne, j, here) = later i h in (ne, suc j, here)

but_once : (n : ℕ) (xs : List ℕ) → Once xs → Once (but n xs)
but_once n [] o = o
but_once n (y ∷ ys) o = go (eqb y n) (but_once n ys (once_tail y ys o))
  where
    go : (b : Bool) → Once (but n ys) → Once (cond b (but n ys) (y ∷ but n ys))
    go true later = later
    go false later = once_cons y (but n ys) (λ k h. let (ne, j, here) = but_at n ys k y h in let bad : 0 ≡ suc j = o 0 (suc j) y refl here in omega arith) later

-- n is not there: nothing is left out
but_none : (n : ℕ) (xs : List ℕ) → ((k : ℕ) → At xs k n → ⊥) → length (but n xs) ≡ length xs
but_none n [] h = refl
but_none n (y ∷ ys) h = go (eqb y n) refl (but_none n ys (λ k here. h (suc k) here))
  where
    go : (b : Bool) → eqb y n ≡ b → length (but n ys) ≡ length ys → length (cond b (but n ys) (y ∷ but n ys)) ≡ suc (length ys)
    go true e later = absurd (h 0 (eqb-true y n e))
    go false e later = ap suc later

but_length : (n : ℕ) (xs : List ℕ) → Once xs → length xs ≤ suc (length (but n xs))
but_length n [] o = omega arith
but_length n (y ∷ ys) o = go (eqb y n) refl (but_length n ys (once_tail y ys o))
  where
    go : (b : Bool) → eqb y n ≡ b → length ys ≤ suc (length (but n ys)) → suc (length ys) ≤ suc (length (cond b (but n ys) (y ∷ but n ys)))
    go true e later =
        let same = but_none n ys (λ k here. let bad : 0 ≡ suc k = o 0 (suc k) y refl (subst (λ z. At ys k z) (sym (eqb-true y n e)) here) in omega arith) in
        omega arith
    go false e later = omega arith

pub few : (n : ℕ) (xs : List ℕ) → ((i x : ℕ) → At xs i x → x < n) → Once xs → length xs ≤ n
few zero [] small o = omega arith
few zero (x ∷ xs) small o = absurd (omega (arith, small 0 x refl))
few (suc n) xs small o =
    let less = few n (but n xs) (λ i x h. let (ne, j, here) = but_at n xs i x h in let l = small j x here in below n x ne l) (but_once n xs o) in
    omega (arith, but_length n xs o)
  where
    below : (n x : ℕ) → (x ≡ n → ⊥) → x < suc n → x < n
    below n x ne l = omega arith
