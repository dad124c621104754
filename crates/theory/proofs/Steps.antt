-- Steps by their four numbers, and special steps between positions.
use Rattle.std.proofs.Common.{ℕ, List, inl, inr, arith}
use Rattle.graphs.specs.declared.step.Step.{Step}
use Rattle.graphs.specs.Walks.{Special}
use Rattle.theory.specs.Rules.{Rule}
use Rattle.theory.specs.Edges.{SpecialStep, PositionStep}

abbrev pub step : ℕ → ℕ → ℕ → ℕ → Step
step k i p q = record { kind = k; rule = i; from = p; to = q }

-- a step of kind 5 between positions is one along a special edge
pub special_step : (rules : List Rule) (s : Step) → Special s → PositionStep rules s → SpecialStep rules s
special_step rules s e (inl (f, _, _, _)) = absurd (omega arith)
special_step rules s e (inr special) = special
