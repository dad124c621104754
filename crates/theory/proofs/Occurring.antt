-- Occurrences by number, and where variables stand.
use Rattle.std.proofs.Common.{◌≡◌, ℕ, ◌+◌, ◌*◌, ◌/◌, ◌%◌, ◌<◌, List, Some, None, Option, sym, refl, ap, ◌∙◌, subst, ⊎_elim, arith}
use Rattle.std.specs.List.{slice_get}
use Rattle.std.proofs.lemmas.Bool.{cases_eq}
use Rattle.lists.specs.Places.{At}
use Rattle.lists.proofs.Numbered.{at_below}
use Rattle.lists.proofs.Elements.{at_nth, nth_at}
use Rattle.theory.specs.Rules.{Atom, Stands, In, position, SmallSide}
use Rattle.theory.specs.Occurrences.{in_column, in_atom, occurrence_of, Is, OccursAt}

-- a variable stands at a position where one of the 16 occurrences has it
pub stands_number : (atoms : List Atom) (v p : ℕ) → SmallSide atoms → Stands atoms v p → (n : ℕ) × (n < 16) × OccursAt atoms n v p
stands_number atoms v p small (k, c, a, here, there, e) =
    let l = at_below a.columns c v there in
    let m = small.columns k a here in
    let o = at_below atoms k a here in
    let few = small.few in
    let n : ℕ = 4 * k + c in
    let q : n / 4 ≡ k = omega arith in
    let r : n % 4 ≡ c = omega arith in
    let found : slice_get atoms (n / 4) ≡ Some a = ap (slice_get atoms) q ∙ at_nth atoms k a here in
    let column : slice_get a.columns (n % 4) ≡ Some v = ap (slice_get a.columns) r ∙ at_nth a.columns c v there in
    let both : occurrence_of atoms n ≡ Some (v, position a (n % 4)) = ap (in_atom (n % 4)) found ∙ ap (in_column a (n % 4)) column in
    let same : position a (n % 4) ≡ p = omega arith in
    (n, omega arith, subst (λ (x : Option (ℕ × ℕ)). Is x v p) (sym both) (refl, same))

pub number_stands : (atoms : List Atom) (n v p : ℕ) → OccursAt atoms n v p → Stands atoms v p
number_stands atoms n v p h = by_atom (slice_get atoms (n / 4)) refl h
  where
    by_column : (a : Atom) → At atoms (n / 4) a → (o : Option ℕ) → slice_get a.columns (n % 4) ≡ o → Is (in_column a (n % 4) o) v p → Stands atoms v p
    by_column a here None e t = absurd t
    by_column a here (Some u) e (f, g) = (n / 4, n % 4, a, here, subst (λ x. At a.columns (n % 4) x) f (nth_at a.columns (n % 4) u e), g)

    by_atom : (o : Option Atom) → slice_get atoms (n / 4) ≡ o → Is (in_atom (n % 4) o) v p → Stands atoms v p
    by_atom None e t = absurd t
    by_atom (Some a) e t = by_column a (nth_at atoms (n / 4) a e) (slice_get a.columns (n % 4)) refl t

pub in_stands : (atoms : List Atom) (v : ℕ) → In atoms v → (p : ℕ) × Stands atoms v p
in_stands atoms v (k, c, (a, here, there)) = (position a c, (k, c, a, here, there, refl))

pub stands_in : (atoms : List Atom) (v p : ℕ) → Stands atoms v p → In atoms v
stands_in atoms v p (k, c, a, here, there, _) = (k, c, (a, here, there))

-- P holds of the first n occurrences, each a variable at a position
abbrev pub EachBelow : (ℕ → ℕ → Type 0) → List Atom → ℕ → Type 0
EachBelow P atoms n = (m v p : ℕ) → m < n → OccursAt atoms m v p → P v p

pub each_next : (P : ℕ → ℕ → Type 0) (atoms : List Atom) (n : ℕ) (o : Option (ℕ × ℕ)) → o ≡ occurrence_of atoms n → ((v p : ℕ) → Is o v p → P v p) → EachBelow P atoms n → EachBelow P atoms (n + 1)
each_next P atoms n o e here before m v p l t =
    ⊎_elim
    (λ same. here v p (subst (λ (x : Option (ℕ × ℕ)). Is x v p) (sym e) (subst (λ k. OccursAt atoms k v p) same t)))
    (λ ne. before m v p (omega arith) t)
    (cases_eq m n)

-- so it holds wherever a variable stands
pub each_stands : (P : ℕ → ℕ → Type 0) (atoms : List Atom) → SmallSide atoms → EachBelow P atoms 16 → (v p : ℕ) → Stands atoms v p → P v p
each_stands P atoms small all v p s = let (n, l, t) = stands_number atoms v p small s in all n v p l t
