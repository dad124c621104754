use Rattle.std.proofs.Common.{ℕ, eqb, List, Decides, subst, rules}
use borrow.Author.Tests.{tests}
use Rattle.std.specs.List.{filter}
use Rattle.std.proofs.lemmas.Iterator.{cases_from_all}
use Rattle.std.proofs.lemmas.Iterator.Consumers.{YieldsList-from_first, YieldsList-from_filter, YieldsList-at}
use Rattle.rules.specs.Views.{plain_side}
use Rattle.fixpoint.specs.Least.{FoundBy, Held}
use Rattle.dependencies.specs.Views.{pair}
use Rattle.dependencies.specs.Occurring.{occurrences_of, rest}
use Rattle.dependencies.proofs.Listing.{only_positions}
use Rattle.dependencies.proofs.Looking.{all_decides}
use Rattle.dependencies.proofs.Passing.{held_each}
use Rattle.dependencies.proofs.affecting.all_reached.Goals as goal

pub returns : goal.returns
returns c =
    let v = c.args.variable in
    let atoms = plain_side c.args.side.now in
    let rounds = c.args.reached.rounds.now in
    let before = c.args.reached.before in
    let found : ℕ × ℕ → Type 0 = λ o. FoundBy rounds before o.1 in
    let os = filter (λ (o : ℕ × ℕ). eqb o.0 v) (occurrences_of atoms) in
    subst (λ (ps : List ℕ). Decides c.all.result (Held rounds before ps)) (only_positions atoms v)
    (held_each rounds before os c.all.result
    (all_decides found (λ o. found o → ⊥) os (λ o no yes. no yes) c.all.result
    (cases_from_all c.all.new.self _ _ (λ (o : ℕ × ℕ). FoundBy rounds before o.1) (λ (o : ℕ × ℕ). FoundBy rounds before o.1 → ⊥) c.all.ensures.ran
    (YieldsList-from_filter _ (λ (o : ℕ × ℕ). eqb o.0 v) (YieldsList-at c.filter.ensures.source (YieldsList-from_first pair rest {s = c.occurrences_in.result} (occurrences_of atoms) c.occurrences_in.ensures)) c.filter.ensures.closure (λ x b q k. search (rules, tests)))
    (λ o q k. search (rules, tests)) (λ o q k. search (rules, tests)))))
