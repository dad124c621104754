-- Elements of lists by number, first ones, and lists without repeats.
use Rattle.std.specs.Prelude.{◌≡◌, ℕ, zero, suc, ◌<◌, List, [], ◌∷◌}

-- x stands at number i of the list, counted from 0
abbrev pub At : {A : Type 0} → List A → ℕ → A → Type 0
At [] i x = ⊥
At (y ∷ ys) zero x = y ≡ x
At (y ∷ ys) (suc i) x = At ys i x

-- the list has x at some number
abbrev pub Holds : {A : Type 0} → List A → A → Type 0
Holds xs x = (n : ℕ) × At xs n x

-- nothing stands at two numbers
abbrev pub Once : {A : Type 0} → List A → Type 0
Once {A} xs = (i j : ℕ) (x : A) → At xs i x → At xs j x → i ≡ j

-- x stands at number n, and nowhere earlier
abbrev pub FirstAt : {A : Type 0} → List A → ℕ → A → Type 0
FirstAt xs n x = At xs n x × ((j : ℕ) → j < n → At xs j x → ⊥)

-- x, at number k, is the first that satisfies P
pub record First {A : Type 0} (P : A → Type 0) (xs : List A) (k : ℕ) (x : A) : Type 0 where
  pub here : At xs k x
  pub does : P x
  pub earlier : (j : ℕ) (y : A) → j < k → At xs j y → P y → ⊥

-- the lists are equally long, and R holds between any two at the same number
abbrev pub Pairwise : {A B : Type 0} → (A → B → Type 0) → List A → List B → Type 0
Pairwise R [] [] = Unit {0}
Pairwise R [] (y ∷ ys) = ⊥
Pairwise R (x ∷ xs) [] = ⊥
Pairwise R (x ∷ xs) (y ∷ ys) = R x y × Pairwise R xs ys
