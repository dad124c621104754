-- What numbers that are attained, and that cover or lift, say of ranks and infinite places.
use Rattle.std.proofs.Common.{◌≡◌, ℕ, suc, ◌+◌, ◌<◌, ◌≤◌, ◌⊎◌, List, [], ◌∷◌, ◌++◌, length, sym, refl, subst, inl, inr, arith}
use Rattle.graphs.specs.declared.step.Step.{Step}
use Rattle.graphs.specs.Walks.{Walk, Simple, Infinite, Rank, counts, specials}
use Rattle.graphs.specs.Potentials.{Attained, Covers, Lifts}
use Rattle.graphs.proofs.Walking.{joined}
use Rattle.graphs.proofs.Specials.{specials_joined}
use Rattle.graphs.proofs.Shortening.{Looped, shorten, looped_infinite}

module _ (P : Step → Type 0) where
  -- a walk one step longer has one more special edge at most
  pub attained_more : (b : ℕ → ℕ) (s : Step) → Attained P b → P s → (q : ℕ) × (w : List Step) × Walk P q w s.to × (specials w ≡ b s.from + counts s)
  attained_more b s attained step =
      let (q, w, walk, e) = attained s.from in
      (q, w ++ (s ∷ []), joined P w (s ∷ []) q s.from s.to walk (step, refl, refl), omega (arith, specials_joined w (s ∷ [])))

  -- a walk up to its last step
  last : (s : Step) (w : List Step) (p q : ℕ) → Walk P p (s ∷ w) q → (v : List Step) × (t : Step) × Walk P p v t.from × P t × (t.to ≡ q) × (length v ≡ length w) × (specials (s ∷ w) ≡ specials v + counts t)
  last s [] p q (step, e, end) = ([], s, sym e, step, end, refl, omega arith)
  last s (t ∷ w) p q (step, e, walk) =
      let (v, x, before, there, end, l, f) = last t w s.to q walk in
      (s ∷ v, x, (step, e, before), there, end, omega arith, omega arith)

  pub covers_none : (b : ℕ → ℕ) → Covers P 0 b
  covers_none b q p [] walk l = omega arith
  covers_none b q p (s ∷ w) walk l = absurd (omega arith)

  pub covers_more : (k : ℕ) (b c : ℕ → ℕ) → Covers P k b → ((s : Step) → P s → Lifts b c s) → Covers P (suc k) c
  covers_more k b c covers lifts q p [] walk l = omega arith
  covers_more k b c covers lifts q p (s ∷ w) walk l =
      let (v, t, before, step, end, e, f) = last s w q p walk in
      subst (λ x. specials (s ∷ w) ≤ c x) end (omega (arith, covers q t.from v before (omega arith), lifts t step))

  -- numbers that lift along each step before p count the special edges of each walk to p
  pub lifted : (b : ℕ → ℕ) (p : ℕ) → ((s : Step) (u : List Step) → P s → Walk P s.to u p → Lifts b b s) → (q : ℕ) (w : List Step) → Walk P q w p → b q + specials w ≤ b p
  lifted b p lifts q [] walk = subst (λ x. b q + 0 ≤ b x) walk (omega arith)
  lifted b p lifts q (s ∷ w) (step, e, walk) =
      let start : b q + counts s ≤ b s.to = subst (λ x. b x + counts s ≤ b s.to) e (lifts s w step walk) in
      omega (arith, lifted b p lifts s.to w walk)

  pub ranked_by : (b : ℕ → ℕ) (p : ℕ) → Attained P b → ((s : Step) (u : List Step) → P s → Walk P s.to u p → Lifts b b s) → Rank P p (b p)
  ranked_by b p attained lifts = record {
    some = attained p;
    most = λ q w walk. let h = lifted b p lifts q w walk in omega arith;
  }

  -- a step that does not lift numbers that cover all simple walks leads to an infinite place
  pub infinite_by : (k : ℕ) (b : ℕ → ℕ) (s : Step) → Attained P b → Covers P k b → ((q : ℕ) (w : List Step) → Simple P q w s.to → length w ≤ k) → P s → b s.to < b s.from + counts s → Infinite P s.to
  infinite_by k b s attained covers short step more =
      let (q, w, walk, e) = attained_more b s attained step in
      let (u, simple, kept) = shorten P w q s.to walk in
      go u (covers q s.to u simple.walk (short q u simple)) (subst (λ n. (n ≤ specials u) ⊎ Looped P s.to) e kept)
    where
      go : (u : List Step) → specials u ≤ b s.to → (b s.from + counts s ≤ specials u) ⊎ Looped P s.to → Infinite P s.to
      go u covered (inl h) = absurd (omega arith)
      go u covered (inr l) = looped_infinite P s.to l

  pub infinite_on : (p q : ℕ) (w : List Step) → Infinite P p → Walk P p w q → Infinite P q
  infinite_on p q w h walk =
      let (k, s, u, here, out) = h.out in
      record { cycle = h.cycle; closed = h.closed; special = h.special; out = (k, s, u ++ w, here, joined P u w s.from p q out walk) }
