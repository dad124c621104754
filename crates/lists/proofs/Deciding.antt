-- Searching a list by a test, and whether two lists of numbers are the same.
use Rattle.std.proofs.Common.{◌≡◌, ℕ, zero, suc, ◌<◌, ◌≢◌, ◌⊎◌, List, [], ◌∷◌, length, sym, refl, ap, subst, inl, inr, arith}
use Rattle.std.proofs.lemmas.Bool.{cases_eq}
use Rattle.lists.specs.Places.{At, First}

abbrev pub OrNot : Type 0 → Type 0
OrNot P = P ⊎ (P → ⊥)

-- one of the list is the first that satisfies P, or none does
abbrev pub Searched : {A : Type 0} → (A → Type 0) → List A → Type 0
Searched {A} P xs = ((k : ℕ) × (x : A) × First P xs k x) ⊎ ((k : ℕ) (x : A) → At xs k x → P x → ⊥)

pub search : {A : Type 0} (P : A → Type 0) (xs : List A) → ((k : ℕ) (x : A) → At xs k x → OrNot (P x)) → Searched P xs
search P [] test = inr (λ k x h p. h)
search {A} P (y ∷ ys) test = cases (test 0 y refl) (search P ys (λ k x h. test (suc k) x h))
  where
    later : (P y → ⊥) → (k : ℕ) (x : A) → First P ys k x → (j : ℕ) (z : A) → j < suc k → At (y ∷ ys) j z → P z → ⊥
    later n k x f zero z l h p = n (subst P (sym h) p)
    later n k x f (suc j) z l h p = f.earlier j z (omega arith) h p

    never : (P y → ⊥) → ((k : ℕ) (x : A) → At ys k x → P x → ⊥) → (k : ℕ) (x : A) → At (y ∷ ys) k x → P x → ⊥
    never n none zero x h p = n (subst P (sym h) p)
    never n none (suc k) x h p = none k x h p

    cases : OrNot (P y) → Searched P ys → Searched P (y ∷ ys)
    cases (inl p) _ = inl (0, y, record { here = refl; does = p; earlier = λ j z l h q. omega arith })
    cases (inr n) (inl (k, x, f)) = inl (suc k, x, record { here = f.here; does = f.does; earlier = later n k x f })
    cases (inr n) (inr none) = inr (never n none)

pub same_text : (xs ys : List ℕ) → OrNot (xs ≡ ys)
same_text [] [] = inl refl
same_text [] (y ∷ ys) = inr (λ e. let z = ap length e in omega arith)
same_text (x ∷ xs) [] = inr (λ e. let z = ap length e in omega arith)
same_text (x ∷ xs) (y ∷ ys) = cases (cases_eq x y) (same_text xs ys)
  where
    cases : (x ≡ y) ⊎ (x ≢ y) → OrNot (xs ≡ ys) → OrNot (x ∷ xs ≡ y ∷ ys)
    cases (inl e) (inl f) = inl cc
    cases (inr n) _ = inr (λ e. n cc)
    cases (inl e) (inr n) = inr (λ f. n cc)
