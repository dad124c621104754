-- The occurrences of a side as a list: number by number, and where its variables stand.
use Rattle.std.proofs.Common.{◌≡◌, ℕ, zero, suc, ◌+◌, ◌-◌, ◌<◌, ◌≤◌, Bool, true, false, List, [], ◌∷◌, ◌++◌, map, eqb, Some, None, Option, sym, refl, ap, ◌∙◌, subst, ⊎_elim, append-nil, append_assoc, arith}
use Rattle.std.specs.List.{cons_option, filter}
use Rattle.std.proofs.lemmas.Bool.{cases_eq}
use Rattle.lists.specs.Places.{At, Holds}
use Rattle.theory.specs.Rules.{Atom, Stands, SmallSide}
use Rattle.theory.specs.Occurrences.{occurrence_of, Is, OccursAt, position_if, positions_upto, positions_of}
use Rattle.theory.proofs.Occurring.{stands_number, number_stands}
use Rattle.theory.proofs.Positions.{upto_next}
use Rattle.dependencies.specs.Occurring.{occurrences_from, occurrences_of}

module _ (atoms : List Atom) where
  pub from_none : (n k : ℕ) → k ≡ 0 → occurrences_from atoms n k ≡ []
  unfolding occurrences_from
  from_none n k e = ap (λ j. occurrences_from atoms n j) e

  from_more : (n k : ℕ) → occurrences_from atoms n (suc k) ≡ cons_option (occurrence_of atoms n) (occurrences_from atoms (n + 1) k)
  unfolding occurrences_from
  from_more n k = refl

  -- what is left of the numbers from a to b, after the first of them
  pub from_first : (a b c d : ℕ) (o : Option (ℕ × ℕ)) → 0 < b - a → c ≡ a + 1 → d ≡ b → o ≡ occurrence_of atoms a → occurrences_from atoms a (b - a) ≡ cons_option o (occurrences_from atoms c (d - c))
  from_first a b c d o some e f g =
      let more : b - a ≡ suc (d - c) = omega arith in
      ap (occurrences_from atoms a) more ∙ from_more a (d - c)
      ∙ ap (λ (x : Option (ℕ × ℕ)). cons_option x (occurrences_from atoms (a + 1) (d - c))) (sym g)
      ∙ ap (λ (k : ℕ). cons_option o (occurrences_from atoms k (d - c))) (sym e)

  -- an occurrence of the list has a number
  listed_number : (n k j v p : ℕ) → At (occurrences_from atoms n k) j (v, p) → (m : ℕ) × OccursAt atoms m v p
  listed_number n zero j v p h = absurd (subst (λ (xs : List (ℕ × ℕ)). At xs j (v, p)) (from_none n 0 refl) h)
  listed_number n (suc k) j v p h = first (occurrence_of atoms n) refl j (subst (λ (xs : List (ℕ × ℕ)). At xs j (v, p)) (from_more n k) h) (λ i t. listed_number (n + 1) k i v p t)
    where
      first : (o : Option (ℕ × ℕ)) → occurrence_of atoms n ≡ o → (j : ℕ) → At (cons_option o (occurrences_from atoms (n + 1) k)) j (v, p) → ((i : ℕ) → At (occurrences_from atoms (n + 1) k) i (v, p) → (m : ℕ) × OccursAt atoms m v p) → (m : ℕ) × OccursAt atoms m v p
      first None e j t later = later j t
      first (Some o) e zero t later = (n, subst (λ (x : Option (ℕ × ℕ)). Is x v p) (sym e) (ap (λ (x : ℕ × ℕ). x.0) t, ap (λ (x : ℕ × ℕ). x.1) t))
      first (Some o) e (suc j) t later = later j t

  -- each number's occurrence is in the list
  number_listed : (n k m v p : ℕ) → n ≤ m → m < n + k → OccursAt atoms m v p → Holds (occurrences_from atoms n k) (v, p)
  number_listed n zero m v p l h t = absurd (omega arith)
  number_listed n (suc k) m v p l h t =
      subst (λ (xs : List (ℕ × ℕ)). Holds xs (v, p)) (sym (from_more n k))
      (⊎_elim (λ same. here (occurrence_of atoms n) (subst (λ i. OccursAt atoms i v p) same t)) (λ ne. later (occurrence_of atoms n) (number_listed (n + 1) k m v p (omega arith) (omega arith) t)) (cases_eq m n))
    where
      here : (o : Option (ℕ × ℕ)) → Is o v p → Holds (cons_option o (occurrences_from atoms (n + 1) k)) (v, p)
      here None s = absurd s
      here (Some o) (e, f) = (0, ap (λ (x : ℕ). (x, o.1)) e ∙ ap (λ (x : ℕ). (v, x)) f)

      later : (o : Option (ℕ × ℕ)) → Holds (occurrences_from atoms (n + 1) k) (v, p) → Holds (cons_option o (occurrences_from atoms (n + 1) k)) (v, p)
      later None s = s
      later (Some o) (j, s) = (suc j, s)

  -- they are where variables stand
  pub listed_stands : (j v p : ℕ) → At (occurrences_of atoms) j (v, p) → Stands atoms v p
  listed_stands j v p h = let (m, t) = listed_number 0 16 j v p h in number_stands atoms m v p t

  pub stands_listed : SmallSide atoms → (v p : ℕ) → Stands atoms v p → Holds (occurrences_of atoms) (v, p)
  stands_listed small v p s = let (m, l, t) = stands_number atoms v p small s in number_listed 0 16 m v p (omega arith) (omega arith) t

  -- those of one variable
  module _ (v : ℕ) where
    abbrev pub only : List (ℕ × ℕ) → List ℕ
    only os = map (λ (o : ℕ × ℕ). o.1) (filter (λ (o : ℕ × ℕ). eqb o.0 v) os)

    only_first : (o : Option (ℕ × ℕ)) (os : List (ℕ × ℕ)) → only (cons_option o os) ≡ position_if o v ++ only os
    only_first None os = refl
    only_first (Some o) os = go (eqb o.0 v) refl
      where
        go : (b : Bool) → eqb o.0 v ≡ b → only (o ∷ os) ≡ position_if (Some o) v ++ only os
        go true e = rw e refl
        go false e = rw e refl

    only_upto : (n k : ℕ) → positions_upto atoms v n ++ only (occurrences_from atoms n k) ≡ positions_upto atoms v (n + k)
    only_upto n zero =
        let same : n ≡ n + 0 = omega arith in
        ap (λ (os : List (ℕ × ℕ)). positions_upto atoms v n ++ only os) (from_none n 0 refl) ∙ append-nil (positions_upto atoms v n) ∙ ap (positions_upto atoms v) same
    only_upto n (suc k) =
        let next = only_upto (n + 1) k in
        let more : n + 1 + k ≡ n + suc k = omega arith in
        ap (λ (os : List (ℕ × ℕ)). positions_upto atoms v n ++ only os) (from_more n k)
        ∙ ap (λ (ps : List ℕ). positions_upto atoms v n ++ ps) (only_first (occurrence_of atoms n) (occurrences_from atoms (n + 1) k))
        ∙ sym (append_assoc (positions_upto atoms v n) (position_if (occurrence_of atoms n) v) (only (occurrences_from atoms (n + 1) k)))
        ∙ ap (λ (ps : List ℕ). ps ++ only (occurrences_from atoms (n + 1) k)) (sym (upto_next atoms v n))
        ∙ next ∙ ap (positions_upto atoms v) more

    pub only_positions : only (occurrences_of atoms) ≡ positions_of atoms v
    unfolding positions_upto
    only_positions = only_upto 0 16
