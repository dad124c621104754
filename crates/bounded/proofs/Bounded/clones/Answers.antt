use Rattle.std.proofs.Common.{rules}
use Rattle.bounded.specs.Bounded.{items}
use Rattle.bounded.proofs.Cut.{zipped_cut}
use Rattle.bounded.proofs.Bounded.clones.Goals as goal

pub returns-clause-items : goal.returns-clause-items
unfolding items
returns-clause-items g c = zipped_cut g.T.Clone.is_clone _ _ _ _ (search rules) (c.in_ok-clone.ensures.cases).whole
