use Rattle.std.proofs.Common.{◌∙◌, sym}
use Rattle.std.proofs.lemmas.Bool.{false≢true}
use Rattle.dependencies.specs.Views.{pair}
use Rattle.dependencies.proofs.Passing.{ready_through}
use Rattle.dependencies.proofs.affecting.is_ready.Goals as goal

pub returns-then-contains : goal.returns-then-contains
returns-then-contains c =
    let found = c.contains.ensures.0 c.if-contains.true in
    rw (← c.occurrence.ensures, c.in-Some.is)
    (ready_through c.args.rule.now c.args.reached.rounds.now c.args.reached.before (pair c.in-Some.o) c.all_reached.result
    ((λ t. (found, c.all_reached.ensures.0 t)), λ t. c.all_reached.ensures.1 t.1))

pub returns-else-contains : goal.returns-else-contains
returns-else-contains c =
    rw (← c.occurrence.ensures, c.in-Some.is)
    (ready_through c.args.rule.now c.args.reached.rounds.now c.args.reached.before (pair c.in-Some.o) c.contains.result
    ((λ t. absurd (false≢true (sym c.if-contains.false ∙ t))), λ t. c.contains.ensures.1 t.0))
