use Rattle.std.proofs.Common.{◌≡◌, ◌<◌, true, false, get_or, sym, ◌∙◌, arith}
use Rattle.std.proofs.lemmas.Bool.{eqb-true, eqb-false, ltb-true}
use Rattle.fixpoint.proofs.Growing.{undecided, growing_skip, growing_set}
use Rattle.fixpoint.proofs.grow.Goals as goal
use Rattle.fixpoint.proofs.grow.Goals.{then-to-n, else-to-n, then-fresh+then-ready, else-fresh, else-fresh-via-then-fresh+else-ready, else-fresh-via-else-fresh}

pub loop-s-preserved : goal.loop-s-preserved
loop-s-preserved g c =
    let to = c.target-to.result in
    let n = c.items-n.result in
    let inside : c.loop-s.s < (g.Y.System.numbered c.args.system.now).count = rw (← c.steps-s-end.ensures) c.loop-s-test.true in
    let leads = c.target-to.ensures inside in
    let fresh : c.if-to-n.fresh ≡ true → (to < n) × (get_or c.loop-s.rounds to 0 ≡ 0) = elim c.if-to-n.branch [
      | then-to-n w ↦ λ e. (w.if-to-n.true, eqb-true _ _ (sym w.fresh-is ∙ e))
      | else-to-n w ↦ λ e. let l = ltb-true _ _ (sym w.fresh-is ∙ e) in absurd (omega arith)
    ] in
    let stale : c.if-to-n.fresh ≡ false → to < n → get_or c.loop-s.rounds to 0 ≡ 0 → ⊥ = elim c.if-to-n.branch [
      | then-to-n w ↦ λ e _. eqb-false _ _ (sym w.fresh-is ∙ e)
      | else-to-n w ↦ λ _ l. absurd (omega arith)
    ] in
    elim c.if-fresh.branch [
      | then-fresh+then-ready w ↦
          let (l, zero) = fresh w.if-fresh.true in
          rw (w.rounds-is, w.grew-is) (growing_set c.loop-s.invariant to leads inside l c.items-n.ensures.few zero ((w.ready.ensures inside).0 w.if-ready.true))
      | else-fresh w ↦
          rw (w.rounds-is, w.grew-is) (
          growing_skip c.loop-s.invariant (
          elim w.else-fresh.branch [
            | else-fresh-via-then-fresh+else-ready v ↦ λ _ ok. absurd (undecided (v.ready.ensures inside) v.if-ready.false ok)
            | else-fresh-via-else-fresh v ↦ λ l _. rw (← leads) (let ne = stale v.if-fresh.false (omega arith) in omega arith)
          ]
          )
          )
    ]
