use Rattle.std.proofs.Common.{rules, Decides, MatchOption, ◌≡◌, ◌<◌, ◌/◌, ◌%◌, ℕ, Bool, false, Some, None, Option, sym, subst, ◌∙◌, arith}
use Rattle.std.proofs.Math.Dec.{ltb}
use Rattle.std.proofs.lemmas.Bool.{ltb-true, lt-ltb, false≢true}
use borrow.Author.Tests.{tests}
use Rattle.lists.proofs.Numbered.{at_same, at_below}
use Rattle.naming.specs.Meaning as plain
use Rattle.naming.specs.Names.{plain_predicate, Gets}
use Rattle.naming.specs.declared.predicate.Predicate.{Predicate}
use Rattle.book.specs.Book.{Book}
use Rattle.positions.specs.Positions.{KnownPosition}
use Rattle.positions.proofs.is_known.Goals as goal

-- the test is put to the predicate, if there is one
known_is : (b : Book) (p : ℕ) (o : Option Predicate) (r : Bool) (Post : Predicate → Type 0) → ((x : Predicate) → Post x → r ≡ ltb (p % 4) x.columns) → Gets b.known (p / 4) o → MatchOption o (r ≡ false) Post → Decides r (KnownPosition b p)
known_is b p None r Post post past none = (λ f. absurd (false≢true (sym none ∙ f)), λ (known, there, less). absurd (omega (arith, at_below b.known (p / 4) known there)))
known_is b p (Some q) r Post post here m =
    let same = post q m in (
      λ t. (plain_predicate q, here, ltb-true (p % 4) q.columns (sym same ∙ t)),
      λ (known, there, less). same ∙ lt-ltb (p % 4) q.columns (subst (λ (x : plain.Predicate). p % 4 < x.columns) (at_same b.known (p / 4) known (plain_predicate q) there here) less),
    )

pub returns : goal.returns
returns c = known_is c.args.book.now c.args.position c.predicate.result c.is_some_and.result _ (λ x k. search (rules, tests)) c.predicate.ensures.gets c.is_some_and.ensures
