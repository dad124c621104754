use Rattle.std.proofs.Common.{◌==◌}
use Rattle.std.proofs.lemmas.Bool.{eqb-true, both_ways, eq-eqb}
use Rattle.lists.proofs.Leading.{leads}
use Rattle.tokens.proofs.lexer.skip_blanks.Goals as goal

pub returns-clause-blanks : goal.returns-clause-blanks
returns-clause-blanks c =
    let l = leads (λ b. b == 32) c.args.line.now 0 c.args.at _ c.requires c.blanks.ensures.count in
    record { from = l.from; within = l.within; all = λ k a h. eqb-true _ _ (l.passes k a h) }

pub returns-clause-all : goal.returns-clause-all
returns-clause-all c =
    let l = leads (λ b. b == 32) c.args.line.now 0 c.args.at _ c.requires c.blanks.ensures.count in
    λ h. both_ways _ (l.stops h.0) (eq-eqb _ _ h.1)
