use Rattle.std.proofs.Common.{◌≤◌, ℕ, Option, vec_items, sym, subst, arith}
use Rattle.std.proofs.Math.ListN.{length-map}
use Rattle.lists.proofs.Numbered.{at_below}
use Rattle.book.specs.Book as plain
use Rattle.book.specs.Changing.{Withdraws}
use Rattle.book.specs.Views.{plain_entry, book_of, FindsLabel}
use Rattle.book.proofs.Parting.{determined}
use Rattle.book.proofs.Standing.{withdrawn, sound_less}
use Rattle.book.proofs.book.Book.withdraw.Goals as goal

pub returns-in_err-number-clause-determined : goal.returns-in_err-number-clause-determined
returns-in_err-number-clause-determined c = determined c.args.self.now

pub returns-clause-determined : goal.returns-clause-determined
returns-clause-determined c = determined c.args.self.now

pub returns-clause-withdrawn : goal.returns-clause-withdrawn
returns-clause-withdrawn c =
    let b = c.self.inside in
    let label = c.args.label.now in
    let found = subst (λ (x : plain.Book). FindsLabel x label c.find.result) (sym c.self.view_is) c.find.ensures.finds in
    subst (λ (x : plain.Book). Withdraws x label (book_of c.remove.new.self.items b.known)) c.self.view_is (withdrawn b.rules.items c.remove.new.self.items b.known label c.find.result c.in_ok-number.number found c.in_ok-number.ensures.ok_part c.remove.ensures.items)

pub invariant_of-self : goal.invariant_of-self
invariant_of-self c =
    let b = c.self.inside in
    let label = c.args.label.now in
    let found = subst (λ (x : plain.Book). FindsLabel x label c.find.result) (sym c.self.view_is) c.find.ensures.finds in
    let gone = withdrawn b.rules.items c.remove.new.self.items b.known label c.find.result c.in_ok-number.number found c.in_ok-number.ensures.ok_part c.remove.ensures.items in
    (subst (λ (n : ℕ). 64 ≤ n) (sym c.remove.ensures.capacity) c.self.invariant.0, sound_less (book_of b.rules.items b.known) _ label c.self.invariant.1 gone)

pub remove-requires : goal.remove-requires
remove-requires c =
    let b = c.self.inside in
    let label = c.args.label.now in
    let found = subst (λ (x : plain.Book). FindsLabel x label c.find.result) (sym c.self.view_is) c.find.ensures.finds in
    let (e, carries) = subst (λ (x : Option ℕ). FindsLabel (book_of b.rules.items b.known) label x) c.in_ok-number.ensures.ok_part found in
    omega (arith, at_below (book_of b.rules.items b.known).entries c.in_ok-number.number e carries.here, b.rules.ok.0, length-map (vec_items b.rules) plain_entry)

pub returns-clause-sound : goal.returns-clause-sound
returns-clause-sound c = (invariant_of-self c).1
