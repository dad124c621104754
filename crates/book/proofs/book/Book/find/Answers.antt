use Rattle.std.proofs.Common.{rules, ◌≡◌, List, map, subst}
use Rattle.std.proofs.lemmas.Iterator.{IsFirst-from_position, YieldsList-from_slice}
use borrow.Author.Tests.{tests}
use Rattle.rules.specs.Names.{text_of}
use Rattle.naming.proofs.Finding.{finds}
use Rattle.book.specs.Book as plain
use Rattle.book.specs.Views.{plain_entry, FindsLabel}
use Rattle.book.proofs.book.Book.find.Goals as goal

pub returns-clause-finds : goal.returns-clause-finds
returns-clause-finds c =
    let label = c.args.label.now in
    let standing = c.rules.result.now in
    let b = c.args.self.now in
    subst (λ (es : List plain.Entry). FindsLabel (record { entries = es; known = b.known }) label c.position.result) c.rules.ensures.entries
    (finds plain_entry (λ x. x.label ≡ label) standing (FindsLabel (record { entries = map plain_entry standing; known = b.known }) label) (λ none i e carries. none i e carries.here carries.does) (λ i some. some) c.position.result
    (IsFirst-from_position _ _ c.position.result (λ x. text_of x.label ≡ label) (λ x. text_of x.label ≡ label → ⊥) c.position.ensures.ran (YieldsList-from_slice standing cc) (λ x q k. search (rules, tests)) (λ x q k. search (rules, tests))))
