use Rattle.std.proofs.Common.{rules}
use borrow.Author.Tests.{tests}
use Rattle.std.specs.List.{Contains}
use Rattle.std.proofs.lemmas.Iterator.{cases_from_any, YieldsList-from_slice}
use Rattle.rules.specs.declared.rule.Atom.{Atom}
use Rattle.rules.specs.Views.{variables}
use Rattle.dependencies.proofs.Looking.{any_decides, in_some}
use Rattle.dependencies.proofs.reading.contains.Goals as goal

pub returns : goal.returns
returns c =
    let Has : Atom → Type 0 = λ a. Contains (variables a) c.args.variable in
    let found = cases_from_any _ _ _ (λ (a : Atom). Contains (variables a) c.args.variable) (λ (a : Atom). Contains (variables a) c.args.variable → ⊥) c.any.ensures.ran (YieldsList-from_slice c.atoms.result.now cc) (λ x q k. search (rules, tests)) (λ x q k. search (rules, tests)) in
    in_some c.args.side.now c.atoms.result.now c.args.variable c.any.result c.atoms.ensures (any_decides Has (λ a. Has a → ⊥) c.atoms.result.now (λ x no p. no p) c.any.result found)
