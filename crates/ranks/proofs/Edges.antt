-- The steps of a table and its entries.
use Rattle.std.proofs.Common.{◌≡◌, ℕ, ◌<◌, ◌≤◌, cond, eqb, ◌⊎◌, List, Option, Some, refl, ap, inl, inr, arith}
use Rattle.std.proofs.lemmas.Bool.{cond_both}
use Rattle.graphs.specs.declared.step.Step.{Step}
use Rattle.graphs.specs.Walks.{counts}
use Rattle.ranks.specs.declared.edge.Edge.{Edge}
use Rattle.ranks.specs.declared.edge.Edge.TheVariants.{Normal, Special}
use Rattle.ranks.specs.Edges.{adds}
use Rattle.ranks.specs.Tables.{entry, TableStep}

module _ (table : List (Option Edge)) where
  -- a step adds what its edge says
  pub step_entry : (s : Step) → TableStep table s → (edge : Edge) × (entry table s.from s.to ≡ Some edge) × (counts s ≡ adds edge)
  step_entry s step = go step.edge
    where
      go : ((s.kind ≡ 4) × (entry table s.from s.to ≡ Some Normal)) ⊎ ((s.kind ≡ 5) × (entry table s.from s.to ≡ Some Special)) → (edge : Edge) × (entry table s.from s.to ≡ Some edge) × (counts s ≡ adds edge)
      go (inl (k, e)) = (Normal, e, ap {B = ℕ} (λ x. cond (eqb x 5) 1 0) k)
      go (inr (k, e)) = (Special, e, ap {B = ℕ} (λ x. cond (eqb x 5) 1 0) k)

  -- an edge is a step
  pub entry_step : (p q : ℕ) (edge : Edge) → p < 128 → q < 128 → entry table p q ≡ Some edge → (s : Step) × TableStep table s × (s.from ≡ p) × (s.to ≡ q) × (counts s ≡ adds edge)
  entry_step p q Normal l m e = (record { kind = 4; rule = 0; from = p; to = q }, record { from = l; to = m; edge = inl (refl, e); rule = refl }, refl, refl, refl)
  entry_step p q Special l m e = (record { kind = 5; rule = 0; from = p; to = q }, record { from = l; to = m; edge = inr (refl, e); rule = refl }, refl, refl, refl)

pub counts_few : (s : Step) → counts s ≤ 1
counts_few s = cond_both (eqb s.kind 5) 1 0 (λ n. n ≤ 1) (λ _. omega arith) (λ _. omega arith)
