-- Walks joined, taken apart at a step, and led round a walk that returns.
use Rattle.std.proofs.Common.{ℕ, zero, suc, List, [], ◌∷◌, ◌++◌, sym, refl, ap, ◌∙◌, subst}
use Rattle.lists.specs.Places.{At}
use Rattle.graphs.specs.declared.step.Step.{Step}
use Rattle.graphs.specs.Walks.{Walk, Returns}

module _ (P : Step → Type 0) where
  pub joined : (a b : List Step) (p q r : ℕ) → Walk P p a q → Walk P q b r → Walk P p (a ++ b) r
  joined [] b p q r e w = subst (λ x. Walk P x b r) (sym e) w
  joined (s ∷ a) b p q r (step, e, v) w = (step, e, joined a b s.to q r v w)

  -- a step on a walk: what comes before it, and what comes after
  apart : (w : List Step) (p q k : ℕ) (s : Step) → Walk P p w q → At w k s → (a : List Step) × (b : List Step) × Walk P p a s.from × P s × Walk P s.to b q
  apart [] p q k s walk here = absurd here
  apart (t ∷ w) p q zero s (step, e, walk) here = ([], w, sym e ∙ ap (λ x. x.from) here, subst P here step, subst (λ x. Walk P x.to w q) here walk)
  apart (t ∷ w) p q (suc k) s (step, e, walk) here = let (a, b, v, x, y) = apart w t.to q k s walk here in (t ∷ a, b, (step, e, v), x, y)

  -- round a walk that returns, from after one of its steps to another one
  pub round : (w : List Step) (i j : ℕ) (s t : Step) → Returns P w → At w i s → At w j t → P s × (u : List Step) × Walk P s.to u t.from
  round [] i j s t c a b = absurd c
  round (x ∷ w) i j s t (step, walk) a b =
      let (u, v, before, here, after) = apart (x ∷ w) x.from x.from i s (step, refl, walk) a in
      let (y, z, up, _, _) = apart (x ∷ w) x.from x.from j t (step, refl, walk) b in
      (here, v ++ y, joined v y s.to x.from t.from after up)
