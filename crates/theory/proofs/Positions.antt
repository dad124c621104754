-- The positions of variables: they are below 128, and those of one variable as a list.
use Rattle.std.proofs.Common.{◌≡◌, ℕ, zero, suc, ◌+◌, ◌<◌, Bool, true, false, cond, eqb, ◌⊎◌, List, [], ◌∷◌, ◌++◌, length, get_or, Some, None, Option, refl, ap, ◌∙◌, subst, inl, inr, arith}
use Rattle.std.proofs.lemmas.Bool.{false≢true, cases_eq, eqb-true, eq-eqb}
use Rattle.lists.specs.Places.{At, Holds}
use Rattle.lists.proofs.Numbered.{at_below, get_at, at_left}
use Rattle.lists.proofs.Elements.{at_right, at_either}
use Rattle.theory.specs.Rules.{Atom, Stands, In, SmallSide}
use Rattle.theory.specs.Occurrences.{occurrence_of, Is, OccursAt, position_if, positions_upto, positions_of}
use Rattle.theory.proofs.Occurring.{stands_number, number_stands, in_stands, stands_in}

-- there are 128 positions
pub stands_small : (atoms : List Atom) (v p : ℕ) → SmallSide atoms → Stands atoms v p → p < 128
stands_small atoms v p small (k, c, a, here, there, e) = omega (arith, small.predicate k a here, small.columns k a here, at_below a.columns c v there)

-- one occurrence more
upto_suc : (atoms : List Atom) (v n : ℕ) → positions_upto atoms v (suc n) ≡ positions_upto atoms v n ++ position_if (occurrence_of atoms n) v
unfolding positions_upto
upto_suc atoms v n = refl

pub upto_next : (atoms : List Atom) (v n : ℕ) → positions_upto atoms v (n + 1) ≡ positions_upto atoms v n ++ position_if (occurrence_of atoms n) v
upto_next atoms v n = let up : n + 1 ≡ suc n = omega arith in ap (positions_upto atoms v) up ∙ upto_suc atoms v n

if_has : (o : Option (ℕ × ℕ)) (v p : ℕ) → Is o v p → At (position_if o v) 0 p
if_has None v p h = absurd h
if_has (Some (u, q)) v p (e, f) = go (eqb u v) (eq-eqb u v e)
  where
    go : (b : Bool) → b ≡ true → At (cond b (q ∷ []) []) 0 p
    go true t = f
    go false t = absurd (false≢true t)

if_only : (o : Option (ℕ × ℕ)) (v k p : ℕ) → At (position_if o v) k p → Is o v p
if_only None v k p h = absurd h
if_only (Some (u, q)) v k p h = go (eqb u v) refl k h
  where
    go : (b : Bool) → eqb u v ≡ b → (k : ℕ) → At (cond b (q ∷ []) []) k p → (u ≡ v) × (q ≡ p)
    go true e zero h' = (eqb-true u v e, h')
    go true e (suc k') h' = absurd h'
    go false e k' h' = absurd h'

module _ (atoms : List Atom) (v : ℕ) where
  upto_has : (n m p : ℕ) → m < n → OccursAt atoms m v p → Holds (positions_upto atoms v n) p
  unfolding positions_upto
  upto_has zero m p l h = absurd (omega arith)
  upto_has (suc n) m p l h = by_case (cases_eq m n) (λ k. upto_has n m p k h)
    where
      by_case : (m ≡ n) ⊎ (m ≡ n → ⊥) → (m < n → Holds (positions_upto atoms v n) p) → Holds (positions_upto atoms v n ++ position_if (occurrence_of atoms n) v) p
      by_case (inl e) later = at_right (positions_upto atoms v n) (position_if (occurrence_of atoms n) v) 0 p (if_has (occurrence_of atoms n) v p (subst (λ k. OccursAt atoms k v p) e h))
      by_case (inr ne) later = let (k, t) = later (omega arith) in (k, at_left (positions_upto atoms v n) (position_if (occurrence_of atoms n) v) k p t)

  upto_only : (n k p : ℕ) → At (positions_upto atoms v n) k p → (m : ℕ) × (m < n) × OccursAt atoms m v p
  unfolding positions_upto
  upto_only zero k p h = absurd h
  upto_only (suc n) k p h = by_case (at_either (positions_upto atoms v n) (position_if (occurrence_of atoms n) v) k p h) (λ j t. upto_only n j p t)
    where
      by_case : Holds (positions_upto atoms v n) p ⊎ Holds (position_if (occurrence_of atoms n) v) p → ((j : ℕ) → At (positions_upto atoms v n) j p → (m : ℕ) × (m < n) × OccursAt atoms m v p) → (m : ℕ) × (m < suc n) × OccursAt atoms m v p
      by_case (inl (j, t)) later = let (m, l, o) = later j t in (m, omega arith, o)
      by_case (inr (j, t)) later = (n, omega arith, if_only (occurrence_of atoms n) v j p t)

  -- the positions of v are where it stands
  pub positions_has : SmallSide atoms → (p : ℕ) → Stands atoms v p → Holds (positions_of atoms v) p
  positions_has small p s = let (m, l, t) = stands_number atoms v p small s in upto_has 16 m p l t

  pub positions_only : (k p : ℕ) → At (positions_of atoms v) k p → Stands atoms v p
  positions_only k p h = let (m, l, t) = upto_only 16 k p h in number_stands atoms m v p t

  pub positions_some : SmallSide atoms → In atoms v → 0 < length (positions_of atoms v)
  positions_some small h = let (p, s) = in_stands atoms v h in let (k, t) = positions_has small p s in omega (arith, at_below (positions_of atoms v) k p t)

  pub positions_none : (In atoms v → ⊥) → length (positions_of atoms v) ≡ 0
  positions_none absent = by_case (cases_eq (length (positions_of atoms v)) 0)
    where
      by_case : (length (positions_of atoms v) ≡ 0) ⊎ (length (positions_of atoms v) ≡ 0 → ⊥) → length (positions_of atoms v) ≡ 0
      by_case (inl e) = e
      by_case (inr ne) =
          let p = get_or (positions_of atoms v) 0 0 in
          absurd (absent (stands_in atoms v p (positions_only 0 p (get_at (positions_of atoms v) 0 0 (omega arith)))))
