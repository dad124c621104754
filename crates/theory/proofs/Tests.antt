-- Tests on lists that compute, and what they say of elements by number.
use Rattle.std.proofs.Common.{◌≡◌, ℕ, zero, suc, Bool, true, false, not, ◌&&◌, ◌||◌, eqb, List, [], ◌∷◌, sym, refl, ap, subst, ⊎_elim}
use Rattle.std.proofs.lemmas.Bool.{and_parts, and_from, eqb-true, eq-eqb, both_ways, not-true, cases_Bool}
use Rattle.lists.specs.Places.{At, Once}
use Rattle.theory.specs.Rules.{Atom, Has, In, Stands, position}

-- if a then b
abbrev pub when : Bool → Bool → Bool
when true b = b
when false b = true

pub when_use : (a b : Bool) → when a b ≡ true → a ≡ true → b ≡ true
when_use true b h e = h
when_use false b h e = absurd (both_ways false refl e)

pub when_from : (a b : Bool) → (a ≡ true → b ≡ true) → when a b ≡ true
when_from true b h = h refl
when_from false b h = refl

module _ {A : Type 0} where
  -- the test passes at each element, with its number
  abbrev pub all : (ℕ → A → Bool) → List A → Bool
  all f [] = true
  all f (x ∷ xs) = f 0 x && all (λ i. f (suc i)) xs

  pub all_at : (f : ℕ → A → Bool) (xs : List A) → all f xs ≡ true → (i : ℕ) (x : A) → At xs i x → f i x ≡ true
  all_at f [] h i x here = absurd here
  all_at f (y ∷ ys) h zero x here = subst (λ z. f 0 z ≡ true) here (and_parts (f 0 y) (all (λ i. f (suc i)) ys) h).0
  all_at f (y ∷ ys) h (suc i) x here = all_at (λ j. f (suc j)) ys (and_parts (f 0 y) (all (λ j. f (suc j)) ys) h).1 i x here

  pub all_from : (f : ℕ → A → Bool) (xs : List A) → ((i : ℕ) (x : A) → At xs i x → f i x ≡ true) → all f xs ≡ true
  all_from f [] h = refl
  all_from f (y ∷ ys) h = and_from (f 0 y) (all (λ i. f (suc i)) ys) (h 0 y refl) (all_from (λ i. f (suc i)) ys (λ i x here. h (suc i) x here))

  -- the test passes at some element
  abbrev pub some : (A → Bool) → List A → Bool
  some f [] = false
  some f (x ∷ xs) = f x || some f xs

  pub some_at : (f : A → Bool) (xs : List A) → some f xs ≡ true → (i : ℕ) × (x : A) × At xs i x × (f x ≡ true)
  some_at f [] h = absurd (both_ways false refl h)
  some_at f (y ∷ ys) h = go (f y) refl h (λ e. some_at f ys e)
    where
      go : (b : Bool) → f y ≡ b → (b || some f ys) ≡ true → (some f ys ≡ true → (i : ℕ) × (x : A) × At ys i x × (f x ≡ true)) → (i : ℕ) × (x : A) × At (y ∷ ys) i x × (f x ≡ true)
      go true e g later = (0, y, refl, e)
      go false e g later = let (i, x, here, t) = later g in (suc i, x, here, t)

  pub some_from : (f : A → Bool) (xs : List A) (i : ℕ) (x : A) → At xs i x → f x ≡ true → some f xs ≡ true
  some_from f [] i x here t = absurd here
  some_from f (y ∷ ys) zero x here t = ap (λ b. b || some f ys) (subst (λ z. f z ≡ true) (sym here) t)
  some_from f (y ∷ ys) (suc i) x here t = or_right (f y) (some f ys) (some_from f ys i x here t)
    where
      or_right : (a b : Bool) → b ≡ true → (a || b) ≡ true
      or_right true b e = refl
      or_right false b e = e

abbrev pub among : ℕ → List ℕ → Bool
among v xs = some (eqb v) xs

pub among_from : (v : ℕ) (xs : List ℕ) (i : ℕ) → At xs i v → among v xs ≡ true
among_from v xs i here = some_from (eqb v) xs i v here (eq-eqb v v refl)

pub among_at : (v : ℕ) (xs : List ℕ) → among v xs ≡ true → (i : ℕ) × At xs i v
among_at v xs h = let (i, x, here, e) = some_at (eqb v) xs h in (i, subst (λ y. At xs i y) (sym (eqb-true v x e)) here)

abbrev pub has : Atom → ℕ → Bool
has a v = among v a.columns

pub has_from : (a : Atom) (v : ℕ) → Has a v → has a v ≡ true
has_from a v (c, here) = among_from v a.columns c here

abbrev pub occurs : List Atom → ℕ → Bool
occurs atoms v = some (λ a. has a v) atoms

pub occurs_from : (atoms : List Atom) (v : ℕ) → In atoms v → occurs atoms v ≡ true
occurs_from atoms v (k, c, (a, here, there)) = some_from (λ a'. has a' v) atoms k a here (has_from a v (c, there))

pub occurs_not : (atoms : List Atom) (v : ℕ) → occurs atoms v ≡ false → In atoms v → ⊥
occurs_not atoms v e h = both_ways (occurs atoms v) e (occurs_from atoms v h)

pub occurs_at : (atoms : List Atom) (v : ℕ) → occurs atoms v ≡ true → In atoms v
occurs_at atoms v h =
    let (k, a, here, e) = some_at (λ a'. has a' v) atoms h in
    let (c, there) = among_at v a.columns e in
    (k, c, (a, here, there))

pub absent : (atoms : List Atom) (v : ℕ) → (In atoms v → ⊥) → occurs atoms v ≡ false
absent atoms v h = ⊎_elim (λ t. absurd (h (occurs_at atoms v t))) (λ f. f) (cases_Bool (occurs atoms v))

-- the test passes at each variable and its position
abbrev pub everywhere : (ℕ → ℕ → Bool) → List Atom → Bool
everywhere f atoms = all (λ k a. all (λ c v. f v (position a c)) a.columns) atoms

pub everywhere_at : (f : ℕ → ℕ → Bool) (atoms : List Atom) → everywhere f atoms ≡ true → (v p : ℕ) → Stands atoms v p → f v p ≡ true
everywhere_at f atoms h v p (k, c, a, here, there, e) =
    subst (λ q. f v q ≡ true) e (all_at (λ c' v'. f v' (position a c')) a.columns (all_at (λ k' a'. all (λ c' v'. f v' (position a' c')) a'.columns) atoms h k a here) c v there)

pub everywhere_from : (f : ℕ → ℕ → Bool) (atoms : List Atom) → ((v p : ℕ) → Stands atoms v p → f v p ≡ true) → everywhere f atoms ≡ true
everywhere_from f atoms h =
    all_from (λ k a. all (λ c v. f v (position a c)) a.columns) atoms (λ k a here. all_from (λ c v. f v (position a c)) a.columns (λ c v there. h v (position a c) (k, c, a, here, there, refl)))

-- no number comes twice
abbrev pub once : List ℕ → Bool
once [] = true
once (x ∷ xs) = not (among x xs) && once xs

pub once_at : (xs : List ℕ) → once xs ≡ true → Once xs
once_at [] h i j x p q = absurd p
once_at (y ∷ ys) h zero zero x p q = refl
once_at (y ∷ ys) h zero (suc j) x p q = absurd (both_ways (among y ys) (not-true (among y ys) (and_parts (not (among y ys)) (once ys) h).0) (among_from y ys j (subst (λ z. At ys j z) (sym p) q)))
once_at (y ∷ ys) h (suc i) zero x p q = absurd (both_ways (among y ys) (not-true (among y ys) (and_parts (not (among y ys)) (once ys) h).0) (among_from y ys i (subst (λ z. At ys i z) (sym q) p)))
once_at (y ∷ ys) h (suc i) (suc j) x p q = ap suc (once_at ys (and_parts (not (among y ys)) (once ys) h).1 i j x p q)
