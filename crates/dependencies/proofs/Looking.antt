-- What a search through a list by a test tells, and what has been looked up among the occurrences of a side.
use Rattle.std.proofs.Common.{◌≡◌, ℕ, ◌+◌, ◌*◌, ◌/◌, ◌%◌, ◌<◌, ◌≤◌, Bool, true, false, List, map, length, get_or, Some, None, Decides, sym, refl, ap, ◌∙◌, subst, arith}
use Rattle.std.proofs.Math.ListN.{length-map}
use Rattle.std.specs.Bool.{MatchBool}
use Rattle.std.specs.List.{Contains, HoldsAt, AllWithin, slice_get}
use Rattle.std.proofs.lemmas.Bool.{false≢true}
use Rattle.std.proofs.lemmas.Option.{slice_get_read, slice_get-get_or, slice_get_past}
use Rattle.lists.specs.Places.{At}
use Rattle.lists.proofs.Elements.{at_some, map_at, at_nth, nth_at}
use Rattle.lists.proofs.Mapped.{at_map}
use Rattle.lists.proofs.Numbered.{at_below, at_get, get_at}
use Rattle.theory.specs.Rules as plain
use Rattle.theory.specs.Rules.{In, position}
use Rattle.theory.specs.Occurrences.{in_column, in_atom, occurrence_of}
use Rattle.rules.specs.declared.rule.Atom.{Atom}
use Rattle.rules.specs.declared.rule.Side.{Side}
use Rattle.rules.specs.Views.{variables, atoms_of, plain_atom, plain_side}

-- some element has P, and each
abbrev pub SomeOf : {A : Type 0} → (A → Type 0) → List A → Type 0
SomeOf {A} P xs = (k : ℕ) × (x : A) × At xs k x × P x

abbrev pub EachOf : {A : Type 0} → (A → Type 0) → List A → Type 0
EachOf {A} P xs = (k : ℕ) (x : A) → At xs k x → P x

-- what `any` and `all` answer
module _ {A : Type 0} (P No : A → Type 0) (xs : List A) where
  pub any_decides : ((x : A) → No x → P x → ⊥) → (r : Bool) → MatchBool r ((k : ℕ) × (k < length xs) × HoldsAt P xs k) (AllWithin No xs 0 (length xs)) → Decides r (SomeOf P xs)
  any_decides apart true (k, l, h) = ((λ _. let (x, here) = at_some xs k l in (k, x, here, subst P (at_get xs k x x here) (h x))), λ _. refl)
  any_decides apart false none = (
    λ e. absurd (false≢true e),
    λ (k, x, here, p). absurd (apart x (subst No (at_get xs k x x here) (none k x (omega arith) (at_below xs k x here))) p),
  )

  pub all_decides : ((x : A) → No x → P x → ⊥) → (r : Bool) → MatchBool r (AllWithin P xs 0 (length xs)) ((k : ℕ) × (k < length xs) × HoldsAt No xs k) → Decides r (EachOf P xs)
  all_decides apart true all = ((λ _ k x here. subst P (at_get xs k x x here) (all k x (omega arith) (at_below xs k x here))), λ _. refl)
  all_decides apart false (k, l, h) = (
    λ e. absurd (false≢true e),
    λ each. let (x, here) = at_some xs k l in absurd (apart x (subst No (at_get xs k x x here) (h x)) (each k x here)),
  )

contains_at : (xs : List ℕ) (x : ℕ) → Contains xs x → (k : ℕ) × At xs k x
contains_at xs x (k, l, e) = (k, subst (At xs k) e (get_at xs k x l))

at_contains : (xs : List ℕ) (k x : ℕ) → At xs k x → Contains xs x
at_contains xs k x here = (k, at_below xs k x here, at_get xs k x x here)

-- a variable in the atoms
pub in_some : (d : Side) (xs : List Atom) (v : ℕ) (r : Bool) → xs ≡ atoms_of d → Decides r (SomeOf (λ a. Contains (variables a) v) xs) → Decides r (In (plain_side d) v)
in_some d xs v r e h = ((λ t. found (h.0 t)), λ t. h.1 (back t))
  where
    found : SomeOf (λ a. Contains (variables a) v) xs → In (plain_side d) v
    found (k, a, here, has) =
        let (c, there) = contains_at (variables a) v has in
        (k, c, (plain_atom a, map_at plain_atom (atoms_of d) k a (subst (λ (ys : List Atom). At ys k a) e here), there))

    back : In (plain_side d) v → SomeOf (λ a. Contains (variables a) v) xs
    back (k, c, (b, here, there)) =
        let (a, at_a, same) = at_map plain_atom (atoms_of d) k b here in
        (k, a, subst (λ (ys : List Atom). At ys k a) (sym e) at_a, at_contains (variables a) c v (subst (λ (y : plain.Atom). At y.columns c v) (sym same) there))

nth_map : {A B : Type 0} (f : A → B) (xs : List A) (i : ℕ) (x : A) → slice_get xs i ≡ Some x → slice_get (map f xs) i ≡ Some (f x)
nth_map f xs i x e = at_nth (map f xs) i (f x) (map_at f xs i x (nth_at xs i x e))

-- looked up in the atoms xs and the variables ys
pub no_atom : (d : Side) (xs : List Atom) (n : ℕ) → xs ≡ atoms_of d → length xs ≤ n / 4 → None ≡ occurrence_of (plain_side d) n
no_atom d xs n e past =
    let l = length-map (atoms_of d) plain_atom in
    let same = ap (λ (zs : List Atom). length zs) e in
    sym (ap (in_atom (n % 4)) (slice_get_past (plain_side d) (n / 4) (omega arith)))

module _ (d : Side) (xs : List Atom) (ys : List ℕ) (n : ℕ) (a : Atom) (e : xs ≡ atoms_of d) (l : n / 4 < length xs) (here : a ≡ get_or xs (n / 4) a) (f : ys ≡ variables a) where
  in_columns : in_column (plain_atom a) (n % 4) (slice_get ys (n % 4)) ≡ occurrence_of (plain_side d) n
  in_columns =
      let found = slice_get_read xs (length xs) (n / 4) a refl l here in
      ap (λ zs. in_column (plain_atom a) (n % 4) (slice_get zs (n % 4))) f ∙ sym (ap (in_atom (n % 4)) (nth_map plain_atom (atoms_of d) (n / 4) a (ap (λ zs. slice_get zs (n / 4)) (sym e) ∙ found)))

  pub no_column : length ys ≤ n % 4 → None ≡ occurrence_of (plain_side d) n
  no_column past = sym (ap (in_column (plain_atom a) (n % 4)) (slice_get_past ys (n % 4) past)) ∙ in_columns

  pub one_column : (p : ℕ) → p ≡ a.predicate → n % 4 < length ys → Some (get_or ys (n % 4) 0, 4 * p + n % 4) ≡ occurrence_of (plain_side d) n
  one_column p g m =
      let same : 4 * p + n % 4 ≡ position (plain_atom a) (n % 4) = omega arith in
      ap (λ (q : ℕ). Some (get_or ys (n % 4) 0, q)) same ∙ (sym (ap (in_column (plain_atom a) (n % 4)) (slice_get-get_or ys (n % 4) 0 m)) ∙ in_columns)
