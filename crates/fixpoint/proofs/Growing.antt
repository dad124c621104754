-- One round of a search: what holds when the steps below a number have been looked at.
use Rattle.std.proofs.Common.{◌≡◌, ℕ, ◌+◌, ◌<◌, ◌≤◌, Bool, true, false, ◌≢◌, ◌⊎◌, List, length, get_or, set, Decides, sym, refl, ap, ◌∙◌, subst, inl, inr, ⊎_elim, arith, length-set, get_or-set_other, get_or-set_same}
use Rattle.std.proofs.lemmas.Bool.{cases_eq, cases_lt, true≢false, false≢true}
use Rattle.fixpoint.specs.Least.{Held, Follows}
use Rattle.fixpoint.specs.Steps.{Numbered, Step, Ready}

pub undecided : {r : Bool} {P : Type 0} → Decides r P → r ≡ false → P → ⊥
undecided d left p = false≢true (sym left ∙ d.1 p)

-- a table that has a round written at one more place
at_set : (xs : List ℕ) (j v p : ℕ) → j < length xs → ((p ≡ j) × (get_or (set xs j v) p 0 ≡ v)) ⊎ ((p ≢ j) × (get_or (set xs j v) p 0 ≡ get_or xs p 0))
at_set xs j v p h =
    ⊎_elim (λ e. inl (e, ap (λ i. get_or (set xs j v) i 0) e ∙ get_or-set_same xs j v 0 h))
    (λ ne. inr (ne, get_or-set_other xs j p v 0 ne)) (cases_eq p j)

module _ (old new : List ℕ) (keeps : (i : ℕ) → 0 < get_or old i 0 → get_or new i 0 ≡ get_or old i 0) where
  -- what held of items that have a round still holds
  pub held_on : (q : ℕ) (ps : List ℕ) → Held old q ps → Held new q ps
  held_on q ps held k l = let e = keeps (get_or ps k 0) (held k l).0 in (omega (arith, held k l), omega (arith, held k l))

  -- and nothing else does in the rounds up to r
  pub held_back : (r q : ℕ) (ps : List ℕ) → ((i : ℕ) → get_or old i 0 ≡ 0 → (get_or new i 0 ≡ 0) ⊎ (get_or new i 0 ≡ r + 1)) → q ≤ r → Held new q ps → Held old q ps
  held_back r q ps fresh up held k l =
      let p = get_or ps k 0 in
      let (some, low) = held k l in
      ⊎_elim
      (λ pos. let e = keeps p pos in (pos, omega arith))
      (λ no. absurd (⊎_elim (λ e. omega arith) (λ e. omega arith) (fresh p (omega arith))))
      (cases_lt 0 (get_or old p 0))

-- The steps below s have been looked at in round r + 1, which makes `new` of `old`.
pub record Growing (n : ℕ) (steps : Numbered) (old new : List ℕ) (r s : ℕ) (grew : Bool) : Type 0 where
  pub long : length new ≡ 1024
  pub keeps : (i : ℕ) → 0 < get_or old i 0 → get_or new i 0 ≡ get_or old i 0
  pub fresh : (i : ℕ) → get_or old i 0 ≡ 0 → (get_or new i 0 ≡ 0) ⊎ ((i < n) × (get_or new i 0 ≡ r + 1) × Follows (Step steps) old r i)
  pub looked : (k : ℕ) → k < s → steps.leads k < n → Ready old r (steps.needs k) → 0 < get_or new (steps.leads k) 0
  pub some : grew ≡ true → (i : ℕ) × (get_or old i 0 ≡ 0) × (0 < get_or new i 0)
  pub none : grew ≡ false → new ≡ old

module _ {n : ℕ} {steps : Numbered} {old : List ℕ} {r : ℕ} {new : List ℕ} {s : ℕ} {grew : Bool} (g : Growing n steps old new r s grew) where
  two : (i : ℕ) → get_or old i 0 ≡ 0 → (get_or new i 0 ≡ 0) ⊎ (get_or new i 0 ≡ r + 1)
  two i e = ⊎_elim inl (λ f. inr f.1) (g.fresh i e)

  -- the step s adds nothing
  pub growing_skip : (steps.leads s < n → Ready new r (steps.needs s) → 0 < get_or new (steps.leads s) 0) → Growing n steps old new r (s + 1) grew
  growing_skip here = record {
    long = g.long;
    keeps = g.keeps;
    fresh = g.fresh;
    looked = λ k l inside ready. ⊎_elim
        (λ e. subst (λ x. steps.leads x < n → Ready new r (steps.needs x) → 0 < get_or new (steps.leads x) 0) (sym e) here inside (ready.0, held_on old new g.keeps r (steps.needs k) ready.1))
        (λ ne. g.looked k (omega arith) inside ready) (cases_eq k s);
    some = g.some;
    none = g.none;
  }

  -- the step s finds the item that it leads to
  pub growing_set : (j : ℕ) → j ≡ steps.leads s → s < steps.count → j < n → n ≤ 1024 → get_or new j 0 ≡ 0 → Ready new r (steps.needs s) → Growing n steps old (set new j (r + 1)) r (s + 1) true
  growing_set j e l inside few zero ready = record {
    long = length-set new j (r + 1) ∙ g.long;
    keeps = λ i pos. ⊎_elim (λ at. absurd (omega (arith, not_old, pos, ap (λ k. get_or old k 0) at.0))) (λ at. at.1 ∙ g.keeps i pos) (cases i);
    fresh = λ i none. ⊎_elim
        (λ at. inr (omega (arith, at.0), at.1, (steps.needs s, (s, l, refl, sym e ∙ sym at.0, ready.0), held_back old new g.keeps r r (steps.needs s) two (omega arith) ready.1)))
        (λ at. ⊎_elim (λ z. inl (at.1 ∙ z)) (λ f. inr (f.0, at.1 ∙ f.1, f.2)) (g.fresh i none)) (cases i);
    looked = λ k b there now. ⊎_elim
        (λ at. omega (arith, at.1))
        (λ at. omega (arith, at.1, g.looked k (let ne : k ≢ s = λ same. at.0 (ap steps.leads same ∙ sym e) in omega arith) there now)) (cases (steps.leads k));
    some = λ _. (j, not_old, ⊎_elim (λ at. omega (arith, at.1)) (λ at. absurd (at.0 refl)) (cases j));
    none = λ no. absurd (true≢false no);
  }
    where
      cases : (i : ℕ) → ((i ≡ j) × (get_or (set new j (r + 1)) i 0 ≡ r + 1)) ⊎ ((i ≢ j) × (get_or (set new j (r + 1)) i 0 ≡ get_or new i 0))
      cases i = at_set new j (r + 1) i (omega (arith, g.long))

      not_old : get_or old j 0 ≡ 0
      not_old = ⊎_elim (λ pos. absurd (omega (arith, g.keeps j pos))) (λ no. omega arith) (cases_lt 0 (get_or old j 0))
