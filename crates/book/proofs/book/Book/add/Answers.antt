use Rattle.std.proofs.Common.{ℕ, ◌≤◌, List, [], ◌∷◌, ◌++◌, sym, refl, ap, ◌∙◌, subst}
use Rattle.std.proofs.lemmas.Result.{err_from_is_err_and}
use Rattle.book.specs.Book as plain
use Rattle.book.specs.Changing.{Adds}
use Rattle.book.specs.Views.{plain_entry, book_of}
use Rattle.naming.specs.Names.{predicates_of}
use Rattle.rules.specs.declared.rule.Rule.{Rule}
use Rattle.book.proofs.Deciding.{decided}
use Rattle.book.proofs.Parting.{determined}
use Rattle.book.proofs.Preparing.{few_known}
use Rattle.book.proofs.Standing.{pushed_book, sound_more}
use Rattle.book.proofs.book.Book.add.Goals as goal

pub returns-in_err-rule-clause-determined : goal.returns-in_err-rule-clause-determined
returns-in_err-rule-clause-determined c = determined c.args.self.now

pub returns-in_err-rule-clause-decided : goal.returns-in_err-rule-clause-decided
returns-in_err-rule-clause-decided c = let b = c.args.self.now in decided b (few_known b (subst (λ (x : plain.Book). ∥ plain.Sound x ∥₁) c.self.view_is c.self.invariant.1)) c.args.line.now

pub returns-in_err-rule-clause-added : goal.returns-in_err-rule-clause-added
returns-in_err-rule-clause-added c =
    let p = err_from_is_err_and c.from_residual.result c.from_residual.ensures.1 in
    rw (p.1, p.2) (c.in_err-rule.ensures, refl)

pub invariant_of-self : goal.invariant_of-self
invariant_of-self c =
    let b = c.self.inside in
    let line = c.args.line.now in
    let (passes, adds) = c.in_ok-rule.ensures in
    let rule = c.in_ok-rule.rule in
    let known = c.in_ok-rule.known in
    let pushed = ap (λ (xs : List Rule). book_of xs known) c.push_reserved.ensures.items ∙ pushed_book b.rules.items rule known ∙ ap (λ (x : plain.Book). record { entries = x.entries ++ (plain_entry rule ∷ []); known = predicates_of known }) c.self.view_is in
    let sound = subst (λ (x : plain.Book). ∥ plain.Sound x ∥₁) c.self.view_is c.self.invariant.1 in
    (subst (λ (n : ℕ). 64 ≤ n) (sym c.push_reserved.ensures.capacity) c.self.invariant.0, sound_more c.args.self.now _ line sound passes (subst (λ (x : plain.Book). Adds c.args.self.now line x) (sym pushed) adds))

pub returns-clause-determined : goal.returns-clause-determined
returns-clause-determined c = determined c.args.self.now

pub returns-clause-sound : goal.returns-clause-sound
returns-clause-sound c = (invariant_of-self c).1
