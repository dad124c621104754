use Rattle.std.proofs.Common.{get_or}
use Rattle.fixpoint.proofs.way.+way_back.Given as goal

abbrev pub decreases-way_back : goal.decreases-way_back
decreases-way_back g l = get_or l.rounds.now l.goal 0
