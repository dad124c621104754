use Rattle.std.proofs.Common.{rules, ◌≡◌, refl}
use Rattle.std.proofs.lemmas.Iterator.{IsFirst-from_position, YieldsList-from_slice}
use Rattle.bounded.specs.Bounded.{items}
use Rattle.lists.proofs.Joining.{first_at}
use Rattle.naming.specs.Names.{names_of, FindsWord}
use borrow.Author.Tests.{tests}
use Rattle.naming.proofs.Finding.{finds}
use Rattle.naming.proofs.variable.Variables.find.Goals as goal

pub returns : goal.returns
returns c =
    let text = c.args.text.now in
    let known = items c.args.self.now.texts in
    finds (λ t. t.now) (λ x. x ≡ text) known (FindsWord (names_of c.args.self.now) text) (λ none held. none held.0 text held.1 refl) (λ i some. first_at (names_of c.args.self.now) i some.0 text some.1) c.position.result
    (IsFirst-from_position _ _ c.position.result (λ x. x.now ≡ text) (λ x. x.now ≡ text → ⊥) c.position.ensures.ran (YieldsList-from_slice known cc) (λ x q k. search (rules, tests)) (λ x q k. search (rules, tests)))
