use Rattle.std.proofs.Math.Seq.{take-set-lt}
use Rattle.bounded.specs.Bounded.{items}
use Rattle.bounded.proofs.Bounded.set.Goals as goal

pub returns-then-at-self-clause-items : goal.returns-then-at-self-clause-items
unfolding items
returns-then-at-self-clause-items g c = take-set-lt c.args.self.now.len c.args.self.now.places c.args.at c.args.element c.if-at-self.true
