use Rattle.std.proofs.Common.{rules, ◌≡◌}
use Rattle.std.proofs.lemmas.Iterator.{IsFirst-from_position, YieldsList-from_slice}
use Rattle.bounded.specs.Bounded.{items}
use Rattle.rules.specs.Names.{text_of}
use Rattle.naming.specs.Names.{plain_predicate, predicates_of, Finds}
use borrow.Author.Tests.{tests}
use Rattle.naming.proofs.Finding.{finds}
use Rattle.naming.proofs.predicate.Predicates.find.Goals as goal

pub returns : goal.returns
returns c =
    let name = c.args.name.now in
    let known = items c.args.self.now.list in
    finds plain_predicate (λ x. x.name ≡ name) known (Finds (predicates_of c.args.self.now) name) (λ none. none) (λ i some. some) c.position.result
    (IsFirst-from_position _ _ c.position.result (λ x. text_of x.name ≡ name) (λ x. text_of x.name ≡ name → ⊥) c.position.ensures.ran (YieldsList-from_slice known cc) (λ x q k. search (rules, tests)) (λ x q k. search (rules, tests)))
