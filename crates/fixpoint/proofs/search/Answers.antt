use Rattle.std.proofs.Common.{rules}
use Rattle.fixpoint.proofs.Rounds.{doing_first, doing_next, doing_last}
use Rattle.fixpoint.proofs.Only.{determined}
use Rattle.fixpoint.proofs.Placing.{grounded}
use Rattle.fixpoint.proofs.search.Goals as goal

pub loop-before-init : goal.loop-before-init
loop-before-init g c = doing_first (search rules) c.begin-rounds.ensures

pub loop-before-preserved : goal.loop-before-preserved
loop-before-preserved g c = doing_next (λ ps i step. step.4) c.loop-before.invariant c.grow.array_long c.loop-before-test.ensures

pub returns-clause-found : goal.returns-clause-found
returns-clause-found g c = doing_last c.loop-before.invariant c.loop-before-test.ensures

pub returns-clause-determined : goal.returns-clause-determined
returns-clause-determined g c = determined _ _ _

pub returns-clause-grounded : goal.returns-clause-grounded
returns-clause-grounded g c = grounded (doing_last c.loop-before.invariant c.loop-before-test.ensures)
