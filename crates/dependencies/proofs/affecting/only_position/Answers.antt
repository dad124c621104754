use Rattle.std.proofs.Common.{ℕ, eqb, List, None, sym, ◌∙◌, subst, rules}
use borrow.Author.Tests.{tests}
use Rattle.std.proofs.lemmas.Iterator.{YieldsList-from_map}
use Rattle.std.proofs.lemmas.Iterator.Consumers.{YieldsList-from_first, YieldsList-from_filter, YieldsList-at}
use Rattle.rules.specs.Views.{plain_side}
use Rattle.fixpoint.specs.Steps.{Single}
use Rattle.dependencies.specs.Views.{pair}
use Rattle.dependencies.specs.Occurring.{occurrences_of, rest}
use Rattle.dependencies.proofs.Listing.{only, only_positions}
use Rattle.dependencies.proofs.Singling.{single_none, single_one, single_more}
use Rattle.dependencies.proofs.affecting.only_position.Goals as goal

pub returns-in_err-only : goal.returns-in_err-only
returns-in_err-only c =
    let v = c.args.variable in
    let atoms = plain_side c.args.side.now in
    rw c.from_residual.ensures
    (subst (λ (ps : List ℕ). Single ps None) (only_positions atoms v)
    (single_none c.map-positions.ensures.runs {t = c.next.new.self} (only atoms v (occurrences_of atoms)) c.in_err-only.ensures.steps
    (YieldsList-from_map _ (λ (o : ℕ × ℕ). o.1) (YieldsList-at c.map-positions.ensures.source (YieldsList-from_filter _ (λ (o : ℕ × ℕ). eqb o.0 v) (YieldsList-at c.filter.ensures.source (YieldsList-from_first pair rest {s = c.occurrences_in.result} (occurrences_of atoms) c.occurrences_in.ensures)) c.filter.ensures.closure (λ x b q k. search (rules, tests)))) c.map-positions.ensures.closure (λ x r q k. search rules))))

pub returns-in-Some : goal.returns-in-Some
returns-in-Some c =
    let v = c.args.variable in
    let atoms = plain_side c.args.side.now in
    subst (λ (ps : List ℕ). Single ps None) (only_positions atoms v)
    (single_more c.map-positions.ensures.runs {u = c.next-2.new.self} (only atoms v (occurrences_of atoms)) c.in_ok-only.only c.in-Some.field-0 c.in_ok-only.ensures.steps c.in-Some.ensures.steps
    (YieldsList-from_map _ (λ (o : ℕ × ℕ). o.1) (YieldsList-at c.map-positions.ensures.source (YieldsList-from_filter _ (λ (o : ℕ × ℕ). eqb o.0 v) (YieldsList-at c.filter.ensures.source (YieldsList-from_first pair rest {s = c.occurrences_in.result} (occurrences_of atoms) c.occurrences_in.ensures)) c.filter.ensures.closure (λ x b q k. search (rules, tests)))) c.map-positions.ensures.closure (λ x r q k. search rules)))

pub returns-in-None : goal.returns-in-None
returns-in-None c =
    let v = c.args.variable in
    let atoms = plain_side c.args.side.now in
    sym (only_positions atoms v)
    ∙ single_one c.map-positions.ensures.runs {u = c.next-2.new.self} (only atoms v (occurrences_of atoms)) c.in_ok-only.only c.in_ok-only.ensures.steps c.in-None.ensures.steps
    (YieldsList-from_map _ (λ (o : ℕ × ℕ). o.1) (YieldsList-at c.map-positions.ensures.source (YieldsList-from_filter _ (λ (o : ℕ × ℕ). eqb o.0 v) (YieldsList-at c.filter.ensures.source (YieldsList-from_first pair rest {s = c.occurrences_in.result} (occurrences_of atoms) c.occurrences_in.ensures)) c.filter.ensures.closure (λ x b q k. search (rules, tests)))) c.map-positions.ensures.closure (λ x r q k. search rules))
