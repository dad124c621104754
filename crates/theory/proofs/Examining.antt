-- The examples are as they are said to be.
use Rattle.std.proofs.Common.{List, [], ◌∷◌, refl, inl, inr}
use Rattle.theory.specs.Rules.{Rule}
use Rattle.theory.specs.Edges.{SpecialEdge, NormalStep, SpecialStep}
use Rattle.theory.specs.Examples.{enters, holder, seats, half_affected, Examples}
use Rattle.theory.proofs.Steps.{step}
use Rattle.theory.proofs.Tests.{occurs_not, once_at}
use Rattle.theory.proofs.Belonging.{is_weakly_guarded, is_weakly_acyclic, is_rank}
use Rattle.theory.proofs.Refuting.{from_cycle}

entry_special : SpecialEdge enters 0 5
entry_special = (0, 1, ((0, 0, (_, refl, refl)), (0, 0, (_, refl, refl))), (0, 0, _, refl, refl, refl), ((0, 1, (_, refl, refl)), occurs_not enters.body 1 refl), (0, 1, _, refl, refl, refl))

special : (rules : List Rule) → SpecialStep (enters ∷ rules) (step 5 0 0 5)
special rules = (refl, enters, refl, entry_special)

back : NormalStep (enters ∷ holder ∷ []) (step 4 1 5 0)
back = (refl, holder, refl, (1, (0, 1, _, refl, refl, refl), (0, 0, _, refl, refl, refl)))

pub examples : Examples
examples = record {
  no_frontier = is_weakly_acyclic [] (seats ∷ []) refl;
  one_of_several = is_weakly_guarded (4 ∷ []) half_affected refl;
  rank_one = is_rank (0 ∷ 0 ∷ 0 ∷ 0 ∷ 0 ∷ 1 ∷ []) (enters ∷ []) refl 5 1 0 (step 5 0 0 5 ∷ []) refl (inr (special []), refl, refl) refl;
  infinite = from_cycle (enters ∷ holder ∷ []) (step 5 0 0 5) (step 4 1 5 0 ∷ []) (step 4 1 5 0 ∷ []) 0 (special (holder ∷ []), ((inr (special (holder ∷ [])), (inl back, refl, refl)), once_at (0 ∷ 5 ∷ []) refl)) (inl back, refl, refl);
}
