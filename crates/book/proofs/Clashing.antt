-- Where names have one number of columns, no atom has wrong columns; and an atom that clashes is the first that has.
use Rattle.std.proofs.Common.{◌≡◌, ℕ, ◌<◌, ◌≤◌, ◌⊎◌, List, map, take, sym, refl, ap, ◌∙◌, subst, inl, inr, ⊎_elim, arith}
use Rattle.std.proofs.lemmas.Bool.{cases_lt}
use Rattle.lists.specs.Places.{At, Holds, First}
use Rattle.lists.proofs.Deciding.{Searched, search, same_text}
use Rattle.lists.proofs.Elements.{map_at, at_take, take_at}
use Rattle.lists.proofs.Numbered.{at_same}
use Rattle.lists.proofs.Mapped.{at_map}
use Rattle.lists.proofs.Joining.{joined_keeps, joined_has, joined_only}
use Rattle.patterns.specs.Patterns.{Written}
use Rattle.naming.specs.Meaning.{Predicate, predicate_of, Learned}
use Rattle.naming.specs.Numbering.{Distinct}
use Rattle.book.specs.Asking.{Known, Wanted, WrongColumns}
use Rattle.book.specs.Learning.{Clash}

known_or_not : (known : List Predicate) (name : List ℕ) → Known known name ⊎ (Known known name → ⊥)
known_or_not known name = found (search (λ p. p.name ≡ name) known (λ k p _. same_text p.name name))
  where
    found : Searched (λ p. p.name ≡ name) known → Known known name ⊎ (Known known name → ⊥)
    found (inl (k, p, f)) = inl (k, p, f.here, f.does)
    found (inr none) = inr (λ (i, p, at, e). none i p at e)

-- the first atom of a name, where there is one at j
abbrev Named : List ℕ → Written → Type 0
Named name b = b.predicate.text ≡ name

first_named : (atoms : List Written) (name : List ℕ) (j : ℕ) (b : Written) → At atoms j b → Named name b → (k : ℕ) × (a : Written) × First (Named name) atoms k a × (k ≤ j)
first_named atoms name j b at e = found (search (Named name) atoms (λ k x _. same_text x.predicate.text name))
  where
    found : Searched (Named name) atoms → (k : ℕ) × (a : Written) × First (Named name) atoms k a × (k ≤ j)
    found (inl (k, a, f)) = (k, a, f, ⊎_elim (λ l. absurd (f.earlier j b l at e)) (λ l. l) (cases_lt j k))
    found (inr none) = absurd (none j b at e)

-- the first k atoms are learned
module _ (known : List Predicate) (atoms : List Written) (k : ℕ) (seen : List Predicate) (joined : Learned known (take k atoms) seen) (apart : Distinct seen) where
  -- predicates of one name in what is seen are the same
  one : (p q : Predicate) → Holds seen p → Holds seen q → p.name ≡ q.name → p ≡ q
  one p q (i, a) (j, b) e = at_same seen j p q (subst (λ (n : ℕ). At seen n p) (apart i j p q a b e) a) b

  old : (i : ℕ) (p : Predicate) → At known i p → Holds seen p
  old i p at = (i, joined_keeps known (map predicate_of (take k atoms)) seen joined i p at)

  new : (j : ℕ) (b : Written) → j < k → At atoms j b → Holds seen (predicate_of b)
  new j b l at = joined_has known (map predicate_of (take k atoms)) seen joined (predicate_of b) (j, map_at predicate_of (take k atoms) j b (at_take atoms k j b l at))

  pub columns_right : (j : ℕ) (b : Written) → j < k → At atoms j b → WrongColumns known atoms b → ⊥
  columns_right j b l at (n, inl (i, p, here, e, f), ne) = ne (sym (ap (λ (x : Predicate). x.columns) (one p (predicate_of b) (old i p here) (new j b l at) e)) ∙ f)
  columns_right j b l at (n, inr (_, i, a, first, f), ne) =
      ⊎_elim
      (λ m. first.earlier j b m at refl)
      (λ m. ne (ap (λ (x : Predicate). x.columns) (one (predicate_of b) (predicate_of a) (new j b l at) (new i a (omega arith) first.here) (sym first.does)) ∙ f))
      (cases_lt j i)

  module _ (w : Written) (p : Predicate) (there : Holds seen p) (name : p.name ≡ w.predicate.text) where
    pub wanted_is : Wanted known atoms w.predicate.text p.columns
    wanted_is = cases (known_or_not known w.predicate.text) (joined_only known (map predicate_of (take k atoms)) seen joined p there)
      where
        cases : Known known w.predicate.text ⊎ (Known known w.predicate.text → ⊥) → Holds known p ⊎ Holds (map predicate_of (take k atoms)) p → Wanted known atoms w.predicate.text p.columns
        cases (inl (i, q, at, e)) from = inl (i, q, at, e, ap (λ (x : Predicate). x.columns) (one q p (old i q at) there (e ∙ sym name)))
        cases (inr none) (inl (i, at)) = absurd (none (i, p, at, name))
        cases (inr none) (inr (i, at)) =
            let (b, here, e) = at_map predicate_of (take k atoms) i p at in
            let (l, real) = take_at atoms k i b here in
            let (j, a, first, m) = first_named atoms w.predicate.text i b real (ap (λ (x : Predicate). x.name) e ∙ name) in
            let same = one (predicate_of a) p (new j a (omega arith) first.here) there (first.does ∙ sym name) in
            inr (none, j, a, first, ap (λ (x : Predicate). x.columns) same)

pub clash_first : (known : List Predicate) (atoms : List Written) (k : ℕ) (w : Written) → At atoms k w → Clash known (take k atoms) w → First (WrongColumns known atoms) atoms k w
clash_first known atoms k w at c = record {
  here = at;
  does = (c.other.columns, wanted_is known atoms k c.seen c.joined c.names w c.other c.there c.name, λ e. c.columns (sym e));
  earlier = λ j b l here wrong. columns_right known atoms k c.seen c.joined c.names j b l here wrong;
}
