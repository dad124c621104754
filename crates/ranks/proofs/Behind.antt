-- What the search finds is infinite; the others have their number as rank.
use Rattle.std.proofs.Common.{◌≡◌, ℕ, zero, suc, ◌+◌, ◌*◌, ◌/◌, ◌%◌, ◌<◌, ◌≤◌, ◌⊎◌, cond, eqb, List, [], ◌∷◌, length, get_or, Option, Some, None, sym, refl, ap, ◌∙◌, subst, inl, inr, arith}
use Rattle.std.proofs.lemmas.Bool.{cases_lt, cond_both, eqb-true, eqb-false}
use Rattle.graphs.specs.declared.step.Step.{Step}
use Rattle.graphs.specs.Walks.{Walk, Simple, counts}
use Rattle.graphs.specs.Walks as walks
use Rattle.graphs.specs.Potentials.{Attained, Covers, Lifts}
use Rattle.graphs.proofs.Specials.{ranks_single}
use Rattle.graphs.proofs.Shortness.{walks_short}
use Rattle.graphs.proofs.Relaxing.{ranked_by, infinite_by, infinite_on}
use Rattle.fixpoint.specs.Least.{Derived, by_first, by_step, Found}
use Rattle.fixpoint.specs.Steps as steps
use Rattle.ranks.specs.declared.edge.Edge.{Edge}
use Rattle.ranks.specs.Tables.{TableStep, source}
use Rattle.ranks.specs.Relaxing.{number, Tense}
use Rattle.ranks.specs.declared.rank.Rank.TheVariants.{Number, Infinite}
use Rattle.ranks.specs.Answers.{Ranked}
use Rattle.ranks.proofs.Edges.{step_entry, entry_step}
use Rattle.ranks.proofs.Sources.{source_edge, source_some}

module _ (table : List (Option Edge)) (best : List ℕ) where
  -- the search's least set
  abbrev Behind : ℕ → Type 0
  Behind = Derived 128 (Tense table best) (steps.Step (record { count = 16384; needs = source table; leads = λ k. k % 128 }))

  -- an entry with an edge is the step from its row to its column
  entry_at : (k : ℕ) (edge : Edge) → k < 16384 → get_or table k None ≡ Some edge → (s : Step) × TableStep table s × (s.from ≡ k / 128) × (s.to ≡ k % 128)
  entry_at k edge l e = let (s, step, f, g, _) = entry_step table (k / 128) (k % 128) edge (omega arith) (omega arith) (subst (λ i. get_or table i None ≡ Some edge) (omega arith) e) in (s, step, f, g)

  module _ (attained : Attained (TableStep table) (number best)) (covers : Covers (TableStep table) 127 (number best)) where
    tense_infinite : (i : ℕ) → Tense table best i → walks.Infinite (TableStep table) i
    tense_infinite i (s, step, e, more) =
        let short : (q : ℕ) (w : List Step) → Simple (TableStep table) q w s.to → length w ≤ 127 =
        λ q w simple. let l = (walks_short (TableStep table) 128 (λ t there. there.from)).simple q s.to w step.to simple in omega arith in
        subst (λ p. walks.Infinite (TableStep table) p) e
        (infinite_by (TableStep table) 127 (number best) s attained covers short step (subst (λ p. number best p < number best s.from + counts s) (sym e) more))

    behind_infinite : (i : ℕ) → Behind i → walks.Infinite (TableStep table) i
    behind_infinite i (by_first l f) = tense_infinite i f
    behind_infinite i (by_step ps l (k, m, e, f, some) all) =
        let (edge, is) = source_some table k (subst (λ x. 0 < length x) (sym e) some) in
        let one : ps ≡ ((k / 128) ∷ []) = sym e ∙ source_edge table k edge is in
        let before : walks.Infinite (TableStep table) (k / 128) = subst (λ p. walks.Infinite (TableStep table) p) (ap (λ x. get_or x 0 0) one) (behind_infinite (get_or ps 0 0) (all 0 some)) in
        let (s, step, a, b) = entry_at k edge m is in
        infinite_on (TableStep table) (k / 128) i (s ∷ []) before (step, a, b ∙ f)

  -- along an edge
  behind_more : (s : Step) → TableStep table s → Behind s.from → Behind s.to
  behind_more s step h =
      by_step (s.from ∷ []) step.to (
        128 * s.from + s.to,
        omega (arith, step.from, step.to),
        (let (edge, is, _) = step_entry table s step in source_edge table (128 * s.from + s.to) edge is) ∙ ap (λ x. x ∷ []) row,
        omega (arith, step.to),
        omega arith,
      )
      only
    where
      row : (128 * s.from + s.to) / 128 ≡ s.from
      row = omega (arith, step.to)

      only : (k : ℕ) → k < length (s.from ∷ []) → Behind (get_or (s.from ∷ []) k 0)
      only zero l = h
      only (suc k) l = absurd (omega arith)

  behind_on : (w : List Step) (p q : ℕ) → Walk (TableStep table) p w q → Behind p → Behind q
  behind_on [] p q walk h = subst Behind walk h
  behind_on (s ∷ w) p q (step, e, walk) h = behind_on w s.to q walk (behind_more s step (subst Behind (sym e) h))

  ranked_else : Attained (TableStep table) (number best) → (p : ℕ) → (Behind p → ⊥) → walks.Rank (TableStep table) p (number best p)
  ranked_else attained p never = ranked_by (TableStep table) (number best) p attained lifts
    where
      lifts : (s : Step) (u : List Step) → TableStep table s → Walk (TableStep table) s.to u p → Lifts (number best) (number best) s
      lifts s u step walk = go (cases_lt (number best s.to) (number best s.from + counts s))
        where
          go : (number best s.to < number best s.from + counts s) ⊎ (number best s.from + counts s ≤ number best s.to) → Lifts (number best) (number best) s
          go (inl more) = absurd (never (behind_on u s.to p walk (by_first step.to (s, step, refl, more))))
          go (inr l) = l

module _ (table : List (Option Edge)) (best rounds : List ℕ) (attained : Attained (TableStep table) (number best)) (covers : Covers (TableStep table) 127 (number best))
    (found : Found 128 (Tense table best) (steps.Step (record { count = 16384; needs = source table; leads = λ k. k % 128 })) rounds) where
  pub infinite_found : (p : ℕ) → (get_or rounds p 0 ≡ 0 → ⊥) → Ranked (TableStep table) p Infinite
  infinite_found p some = behind_infinite table best attained covers p (found.sound p (omega arith))

  pub ranked_unfound : (p : ℕ) → get_or rounds p 0 ≡ 0 → Ranked (TableStep table) p (Number (number best p))
  ranked_unfound p none =
      let rank = ranked_else table best attained p (λ h. let some = found.complete p h in omega arith) in
      (rank, λ h. (ranks_single (TableStep table)).apart p (number best p) h rank)

  pub told : (p : ℕ) → Ranked (TableStep table) p (cond (eqb (get_or rounds p 0) 0) (Number (number best p)) Infinite)
  told p = cond_both (eqb (get_or rounds p 0) 0) (Number (number best p)) Infinite (λ r. Ranked (TableStep table) p r) (λ e. ranked_unfound p (eqb-true (get_or rounds p 0) 0 e)) (λ e. infinite_found p (eqb-false (get_or rounds p 0) 0 e))
