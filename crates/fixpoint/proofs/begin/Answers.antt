use Rattle.fixpoint.proofs.Beginning.{begun_none}
use Rattle.fixpoint.proofs.begin.Goals as goal

pub loop-item-init : goal.loop-item-init
loop-item-init g c = begun_none
