-- The entries of a table as steps of the search.
use Rattle.std.proofs.Common.{◌≡◌, ℕ, ◌/◌, ◌<◌, List, [], ◌∷◌, length, get_or, Option, Some, None, refl, ap, arith}
use Rattle.ranks.specs.declared.edge.Edge.{Edge}
use Rattle.ranks.specs.Tables.{position_if, source}

module _ (table : List (Option Edge)) (k : ℕ) where
  pub source_edge : (edge : Edge) → get_or table k None ≡ Some edge → source table k ≡ ((k / 128) ∷ [])
  source_edge edge e = ap (position_if (k / 128)) e

  pub source_some : 0 < length (source table k) → (edge : Edge) × (get_or table k None ≡ Some edge)
  source_some h = go (get_or table k None) refl h
    where
      go : (o : Option Edge) → get_or table k None ≡ o → 0 < length (position_if (k / 128) o) → (edge : Edge) × (get_or table k None ≡ Some edge)
      go None e l = absurd (omega arith)
      go (Some edge) e l = (edge, e)
