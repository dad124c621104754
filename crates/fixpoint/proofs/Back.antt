-- A way grows by the item that its last one leads to, and where no step from one item leads back there are steps from several.
use Rattle.std.proofs.Common.{◌≡◌, ℕ, zero, suc, ◌+◌, ◌-◌, ◌<◌, ◌≤◌, ◌⊎◌, List, [], ◌∷◌, ◌++◌, length, get_or, take, drop, set, sym, refl, ap, ◌∙◌, subst, inl, inr, ⊎_elim, arith, length-append, drop-set-lt}
use Rattle.std.proofs.lemmas.Bool.{cases_lt}
use Rattle.std.proofs.lemmas.List.{length-take-le, drop-drop}
use Rattle.lists.specs.Places.{At, Once}
use Rattle.lists.proofs.Fronts.{front_set}
use Rattle.lists.proofs.Numbered.{at_below, at_same, at_next, at_snoc}
use Rattle.fixpoint.specs.Least.{FoundBy, Follows, Found}
use Rattle.fixpoint.specs.Steps.{Numbered, Step}
use Rattle.fixpoint.specs.Ways.{Way, Climbs, Several}
use Rattle.fixpoint.proofs.Items.{inside}

-- items in the order of their rounds, one of each, come once
pub climbs_once : (rounds way : List ℕ) → Climbs rounds way → Once way
climbs_once rounds way c i j x a b = let p = c i x a in let q = c j x b in omega arith

module _ {n : ℕ} {first : ℕ → Type 0} {steps : List ℕ → ℕ → Type 0} {rounds : List ℕ} (f : Found n first steps rounds) where
  -- a first item is a way
  pub way_first : (i : ℕ) → get_or rounds i 0 ≡ 1 → Way n first steps i (i ∷ []) × Climbs rounds (i ∷ [])
  way_first i e = (
    record {
      items = λ k j h. subst (λ x. x < n) (only k j h).1 (inside rounds n f.outside i (omega arith));
      from = λ j h. subst first h (f.one i e);
      along = λ k a b _ h. absurd h;
      to = refl;
      once = climbs_once rounds (i ∷ []) climbs;
    },
    climbs,
  )
    where
      only : (k j : ℕ) → At (i ∷ []) k j → (k ≡ 0) × (i ≡ j)
      only zero j h = (refl, h)
      only (suc k) j h = absurd h

      climbs : Climbs rounds (i ∷ [])
      climbs k j h = let (z, same) = only k j h in ap (λ x. get_or rounds x 0) (sym same) ∙ e ∙ ap suc (sym z)

  -- a way and one step more
  pub way_more : (a b : ℕ) (way : List ℕ) → Way n first steps a way → Climbs rounds way → steps (a ∷ []) b → get_or rounds b 0 ≡ suc (length way) → Way n first steps b (way ++ (b ∷ [])) × Climbs rounds (way ++ (b ∷ []))
  way_more a b way w c s e = (
    record {
      items = λ k i h. inside rounds n f.outside i (let g = climbs k i h in omega arith);
      from = λ i h. from_first (at_snoc way b 0 i h);
      along = λ k x y h g. step k x y (at_snoc way b k x h) (at_snoc way b (suc k) y g);
      to = subst (λ k. At (way ++ (b ∷ [])) k b) last (at_next way [] b);
      once = climbs_once rounds (way ++ (b ∷ [])) climbs;
    },
    climbs,
  )
    where
      some : length way - 1 < length way
      some = at_below way (length way - 1) a w.to

      last : length way ≡ length (way ++ (b ∷ [])) - 1
      last = omega (arith, length-append way (b ∷ []))

      climbs : Climbs rounds (way ++ (b ∷ []))
      climbs k i h = ⊎_elim (λ g. c k i g) (λ g. ap (λ x. get_or rounds x 0) (sym g.1) ∙ e ∙ ap suc (sym g.0)) (at_snoc way b k i h)

      from_first : {i : ℕ} → At way 0 i ⊎ ((0 ≡ length way) × (b ≡ i)) → first i
      from_first {i} (inl h) = w.from i h
      from_first {i} (inr h) = absurd (omega (arith, some))

      step : (k x y : ℕ) → At way k x ⊎ ((k ≡ length way) × (b ≡ x)) → At way (suc k) y ⊎ ((suc k ≡ length way) × (b ≡ y)) → steps (x ∷ []) y
      step k x y (inl h) (inl g) = w.along k x y h g
      step k x y (inl h) (inr (at, same)) =
          let k' : length way - 1 ≡ k = omega arith in
          subst (λ z. steps (x ∷ []) z) same (subst (λ z. steps (z ∷ []) b) (at_same way k a x (subst (λ i. At way i a) k' w.to) h) s)
      step k x y (inr (at, same)) (inl g) = let l = at_below way (suc k) y g in absurd (omega arith)
      step k x y (inr (at, same)) (inr (next, _)) = absurd (omega arith)

  -- the same, in the front of a table
  pub written_first : (goal r : ℕ) (out : List ℕ) → r ≡ get_or rounds goal 0 → 0 < r → r ≤ 1 → r ≤ length out
      → Way n first steps goal (take r (set out (r - 1) goal)) × Climbs rounds (take r (set out (r - 1) goal))
  written_first goal r out e p l room =
      let none : r - 1 ≡ 0 = omega arith in
      let front : take r (set out (r - 1) goal) ≡ (goal ∷ []) = front_set out r goal p room ∙ ap (λ (k : ℕ). take k out ++ (goal ∷ [])) none in
      subst (λ way. Way n first steps goal way × Climbs rounds way) (sym front) (way_first goal (omega arith))

  pub written_more : (a goal r m : ℕ) (out : List ℕ) → r ≡ get_or rounds goal 0 → 0 < r → r ≤ length out → m ≡ get_or rounds a 0 → get_or rounds a 0 ≡ r - 1 → steps (a ∷ []) goal
      → Way n first steps a (take m out) × Climbs rounds (take m out) → Way n first steps goal (take r (set out (r - 1) goal)) × Climbs rounds (take r (set out (r - 1) goal))
  written_more a goal r m out e p room is before s (w, c) =
      let same : m ≡ r - 1 = is ∙ before in
      let long : length (take m out) ≡ m = length-take-le m out (omega arith) in
      let front : take r (set out (r - 1) goal) ≡ take m out ++ (goal ∷ []) = front_set out r goal p room ∙ ap (λ (k : ℕ). take k out ++ (goal ∷ [])) (sym same) in
      subst (λ way. Way n first steps goal way × Climbs rounds way) (sym front) (way_more a goal (take m out) w c s (omega arith))

-- what stands behind the front stays
pub rest_first : (goal r : ℕ) (out : List ℕ) → 0 < r → drop r (set out (r - 1) goal) ≡ drop r out
rest_first goal r out p = drop-set-lt r out (r - 1) goal (omega arith)

pub rest_more : (goal r m : ℕ) (old new : List ℕ) → 0 < r → m ≡ r - 1 → drop m new ≡ drop m old → drop r (set new (r - 1) goal) ≡ drop r old
rest_more goal r m old new p same kept =
    let up : m + 1 ≡ r = omega arith in
    rest_first goal r new p ∙ ap (λ (k : ℕ). drop k new) (sym up) ∙ sym (drop-drop 1 m new) ∙ ap (λ (xs : List ℕ). drop 1 xs) kept ∙ drop-drop 1 m old ∙ ap (λ (k : ℕ). drop k old) up

one_item : (ps : List ℕ) → 0 < length ps → length ps ≤ 1 → ps ≡ (get_or ps 0 0 ∷ [])
one_item [] p l = absurd (omega arith)
one_item (a ∷ []) p l = refl
one_item (a ∷ b ∷ ps) p l = absurd (omega arith)

-- the item of a round above 1 follows from one item of the round before, or a step needs several
pub no_back : {n : ℕ} {first : ℕ → Type 0} {steps : Numbered} {rounds : List ℕ} → Found n first (Step steps) rounds
    → (k b : ℕ) → 0 < k → get_or rounds b 0 ≡ k + 1 → ((a : ℕ) → Step steps (a ∷ []) b → get_or rounds a 0 ≡ k → ⊥) → Several (Step steps)
no_back {n} {first} {steps} {rounds} f k b p e none = cases (cases_lt 1 (length ps))
  where
    follows : Follows (Step steps) rounds k b
    follows = f.later b k p e

    ps : List ℕ
    ps = follows.0

    a : ℕ
    a = get_or ps 0 0

    some : 0 < length ps
    some = follows.1.4

    by : FoundBy rounds k a
    by = follows.2 0 some

    alone : length ps ≤ 1 → ps ≡ (a ∷ [])
    alone = one_item ps some

    soon : length ps ≤ 1 → FoundBy rounds (get_or rounds a 0 + 1) b
    soon l = f.soonest b (get_or rounds a 0) (inside rounds n f.outside b (omega arith)) by.0 (ps, follows.1, λ j h. let z : 0 ≡ j = omega arith in subst (λ i. FoundBy rounds (get_or rounds a 0) (get_or ps i 0)) z (by.0, omega arith))

    cases : (1 < length ps) ⊎ (length ps ≤ 1) → Several (Step steps)
    cases (inl l) = (ps, b, follows.1, l)
    cases (inr l) = absurd (none a (subst (λ qs. Step steps qs b) (alone l) follows.1) (omega (arith, by.1, (soon l).1)))
