use Rattle.tokens.proofs.Checking.{held_first, held_passed, held_stray, held_step, held_last}
use Rattle.tokens.proofs.Unique.{determined}
use Rattle.tokens.proofs.bytes.first_stray.Goals as goal
use Rattle.tokens.proofs.bytes.first_stray.Goals.{then-due-i+in-Some, then-due-i+in-None, else-due-i}

pub loop-i-init : goal.loop-i-init
loop-i-init c = held_first _

pub loop-i-preserved : goal.loop-i-preserved
loop-i-preserved c =
    let s = c.args.line.now in
    let i = c.loop-i.i in
    let inv = c.loop-i.invariant in
    elim c.if-due-i.branch [
      | then-due-i+in-Some w ↦ simp (w.stray-is, w.due-is) (held_step s _ _ i _ inv w.if-due-i.true w.in-Some.ensures)
      | then-due-i+in-None w ↦ simp (w.stray-is, w.due-is, w.or-stray.ensures) (held_stray s _ _ i inv w.if-due-i.true w.in-None.ensures)
      | else-due-i w ↦ simp (w.stray-is, w.due-is) (held_passed s _ _ i inv w.if-due-i.false)
    ]

pub returns-clause-found : goal.returns-clause-found
returns-clause-found c = held_last _ _ _ _ c.loop-i.invariant c.loop-i-test.false

pub returns-clause-determined : goal.returns-clause-determined
returns-clause-determined c = determined _
