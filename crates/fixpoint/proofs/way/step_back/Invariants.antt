use Rattle.std.proofs.Common.{◌≡◌, ℕ, ◌<◌, [], ◌∷◌, get_or}
use Rattle.fixpoint.proofs.way.step_back.Given as goal

abbrev pub invariant-loop-s : goal.invariant-loop-s
invariant-loop-s g l = let y = g.Y.System in (k a : ℕ) → k < l.s → (y.numbered l.system).leads k ≡ l.to → (y.numbered l.system).needs k ≡ (a ∷ []) → get_or l.rounds a 0 ≡ l.round → ⊥
