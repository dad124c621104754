use Rattle.std.proofs.Common.{◌≡◌, subst}
use Rattle.lists.specs.Places.{First}
use Rattle.lists.proofs.Numbered.{at_same}
use Rattle.naming.specs.Meaning.{Predicate}
use Rattle.naming.specs.Names.{predicates_of}
use Rattle.naming.proofs.Naming.{not_past}
use Rattle.naming.proofs.predicate.Predicates.named.Goals as goal

pub returns-in_err-predicate : goal.returns-in_err-predicate
returns-in_err-predicate c = rw c.from_residual-in_err-predicate.ensures (absurd (not_past _ c.in_ok-number.number _ c.in_ok-number.ensures.1.here c.in_err-predicate.ensures))

pub returns : goal.returns
returns c =
    let known = predicates_of c.args.self.now in
    let i = c.in_ok-number.number in
    let f = c.in_ok-number.ensures in
    subst (λ (x : Predicate). First (λ y. y.name ≡ c.args.name.now) known i x) (at_same known i f.0 _ f.1.here c.in_ok-predicate.ensures) f.1
