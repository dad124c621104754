-- Two lists whose elements go together go together when both are cut.
use Rattle.std.proofs.Common.{◌≡◌, ℕ, zero, suc, List, [], ◌∷◌, take, subst}
use Rattle.std.specs.List.{AllZip}

zipped_take : {A B : Type 0} (R : A → B → Type 0) (n : ℕ) (xs : List A) (ys : List B) → AllZip R xs ys → AllZip R (take n xs) (take n ys)
zipped_take R zero xs ys h = tt
zipped_take R (suc n) [] [] h = tt
zipped_take R (suc n) [] (y ∷ ys) h = absurd h
zipped_take R (suc n) (x ∷ xs) [] h = absurd h
zipped_take R (suc n) (x ∷ xs) (y ∷ ys) (r, h) = (r, zipped_take R n xs ys h)

pub zipped_cut : {A B : Type 0} (R : A → B → Type 0) (n m : ℕ) (xs : List A) (ys : List B) → n ≡ m → AllZip R xs ys → AllZip R (take n xs) (take m ys)
zipped_cut R n m xs ys e h = subst (λ k. AllZip R (take n xs) (take k ys)) e (zipped_take R n xs ys h)
