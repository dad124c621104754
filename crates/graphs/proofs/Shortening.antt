-- Walks can be made simple; what is cut out are loops, and a loop with a special edge leaves an infinite place behind it.
use Rattle.std.proofs.Common.{◌≡◌, ℕ, zero, suc, ◌+◌, ◌<◌, ◌≤◌, ◌⊎◌, List, [], ◌∷◌, ◌++◌, sym, refl, ◌∙◌, subst, inl, inr, arith}
use Rattle.std.proofs.lemmas.Bool.{cases_eq, cases_lt}
use Rattle.lists.specs.Places.{At, Holds}
use Rattle.lists.proofs.Elements.{held}
use Rattle.lists.proofs.Pigeons.{once_tail, once_cons}
use Rattle.graphs.specs.declared.step.Step.{Step}
use Rattle.graphs.specs.Walks.{Walk, Returns, Simple, Closed, Special, Infinite, froms, specials}
use Rattle.graphs.specs.Laws.{WalksSimple}
use Rattle.graphs.proofs.Walking.{joined, round}
use Rattle.graphs.proofs.Specials.{special_found}

module _ (P : Step → Type 0) where
  -- q is reached from a step that begins a loop with a special edge
  abbrev pub Looped : ℕ → Type 0
  Looped q = (t : Step) × (v : List Step) × (u : List Step) × Returns P (t ∷ v) × (1 ≤ specials (t ∷ v)) × Walk P t.from u q

  -- a walk from p to q that keeps the special edges of w, unless q is behind a loop with one
  abbrev Kept : List Step → ℕ → ℕ → Type 0
  Kept w p q = (u : List Step) × Simple P p u q × ((specials w ≤ specials u) ⊎ Looped q)

  -- a simple walk that comes through p: up to there, and from there
  parted : (w : List Step) (o p q k : ℕ) → Simple P o w q → At (froms w) k p → (a : List Step) × (b : List Step) × Walk P o a p × Simple P p b q × (specials w ≡ specials a + specials b)
  parted [] o p q k s here = absurd here
  parted (t ∷ w) o p q zero s here = ([], t ∷ w, sym s.walk.1 ∙ here, record { walk = (s.walk.0, here, s.walk.2); once = s.once; ends = s.ends }, omega arith)
  parted (t ∷ w) o p q (suc k) s here =
      let (a, b, v, simple, e) = parted w t.to p q k (record { walk = s.walk.2; once = once_tail t.from (froms w) s.once; ends = λ j. s.ends (suc j) }) here in
      (t ∷ a, b, (s.walk.0, s.walk.1, v), simple, omega arith)

  stays : (p q : ℕ) → p ≡ q → Simple P p [] q
  stays p q e = record { walk = e; once = λ i j x a b. absurd a; ends = λ k h. h }

  pub shorten : (w : List Step) (p q : ℕ) → Walk P p w q → Kept w p q
  shorten [] p q e = ([], stays p q e, inl (omega arith))
  shorten (t ∷ w) p q (step, e, walk) = ends_here (cases_eq p q) (shorten w t.to q walk)
    where
      -- without a loop t ∷ v, the rest u is left
      without : (v u x : List Step) → Walk P t.to v p → Walk P p u q → specials x ≡ specials v + specials u → (specials w ≤ specials x) ⊎ Looped q → (specials (t ∷ w) ≤ specials u) ⊎ Looped q
      without v u x back out f (inr l) = inr l
      without v u x back out f (inl h) = go (cases_lt 0 (specials (t ∷ v)))
        where
          go : (0 < specials (t ∷ v)) ⊎ (specials (t ∷ v) ≤ 0) → (specials (t ∷ w) ≤ specials u) ⊎ Looped q
          go (inl some) = inr (t, v, u, (step, subst (λ y. Walk P t.to v y) (sym e) back), omega arith, subst (λ y. Walk P y u q) (sym e) out)
          go (inr none) = inl (omega arith)

      longer : (x : List Step) → (specials w ≤ specials x) ⊎ Looped q → (specials (t ∷ w) ≤ specials (t ∷ x)) ⊎ Looped q
      longer x (inl h) = inl (omega arith)
      longer x (inr l) = inr l

      later : (x : List Step) → (p ≡ q → ⊥) → Simple P t.to x q → (k : ℕ) → At (froms (t ∷ x)) k q → ⊥
      later x differ s zero here = differ (sym e ∙ here)
      later x differ s (suc k) here = s.ends k here

      again : (x : List Step) → (p ≡ q → ⊥) → Simple P t.to x q → (specials w ≤ specials x) ⊎ Looped q → Holds (froms x) p ⊎ (Holds (froms x) p → ⊥) → Kept (t ∷ w) p q
      again x differ s kept (inl (k, here)) =
          let (v, u, back, simple, f) = parted x t.to p q k s here in
          (u, simple, without v u x back simple.walk f kept)
      again x differ s kept (inr new) =
          (t ∷ x, record { walk = (step, e, s.walk); once = once_cons t.from (froms x) (λ k here. new (k, subst (λ y. At (froms x) k y) e here)) s.once; ends = later x differ s }, longer x kept)

      ends_here : (p ≡ q) ⊎ (p ≡ q → ⊥) → Kept w t.to q → Kept (t ∷ w) p q
      ends_here (inl same) (x, s, kept) = ([], stays p q same, without x [] x (subst (λ y. Walk P t.to x y) (sym same) s.walk) same (omega arith) kept)
      ends_here (inr differ) (x, s, kept) = again x differ s kept (held p (froms x))

  closed_from : (s : Step) (u : List Step) → P s → Walk P s.to u s.from → (c : List Step) × Closed P (s ∷ c)
  closed_from s u step walk =
      let (c, simple, _) = shorten u s.to s.from walk in
      (c, ((step, simple.walk), once_cons s.from (froms c) simple.ends simple.once))

  closed_through : (w : List Step) (k : ℕ) (s : Step) → Returns P w → At w k s → (c : List Step) × Closed P (s ∷ c)
  closed_through w k s returns here = let (step, u, walk) = round P w k k s s returns here here in closed_from s u step walk

  infinite_from : (w u : List Step) (i j p : ℕ) (s t : Step) → Returns P w → At w i s → Special s → At w j t → Walk P t.from u p → Infinite P p
  infinite_from w u i j p s t returns a x b out =
      let (c, closed) = closed_through w i s returns a in
      let (step, v, walk) = round P w i j s t returns a b in
      record {
        cycle = s ∷ c;
        closed = closed;
        special = (0, s, refl, x);
        out = (0, s, s ∷ (v ++ u), refl, (step, refl, joined P v u s.to t.from p walk out));
      }

  infinite_reached : (p : ℕ) → Infinite P p → (s : Step) × (c : List Step) × (u : List Step) × Special s × Closed P (s ∷ c) × Simple P s.to u p
  infinite_reached p h =
      let (i, s, a, x) = h.special in
      let (j, t, w, b, out) = h.out in
      let (c, closed) = closed_through h.cycle i s h.closed.0 a in
      let (_, v, walk) = round P h.cycle i j s t h.closed.0 a b in
      let (u, simple, _) = shorten (v ++ w) s.to p (joined P v w s.to t.from p walk out) in
      (s, c, u, x, closed, simple)

  pub walks_simple : WalksSimple P
  walks_simple = record {
    walk = λ p q w h. let (u, simple, _) = shorten w p q h in (u, simple);
    closed = closed_through;
    infinite = infinite_from;
    reached = infinite_reached;
  }

  pub looped_infinite : (q : ℕ) → Looped q → Infinite P q
  looped_infinite q (t, v, u, returns, some, out) =
      let (k, s, here, x) = special_found (t ∷ v) some in
      infinite_from (t ∷ v) u k 0 q s t returns here x refl out
