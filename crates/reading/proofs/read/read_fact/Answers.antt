use Rattle.std.proofs.lemmas.Result.{err_from_is_err_and}
use Rattle.std.proofs.Common.{◌≡◌, ◌<◌, List, [], ◌∷◌, length, get_or, sym, ap, ◌∙◌, arith, rules}
use Rattle.bounded.specs.Bounded.{items}
use Rattle.patterns.specs.declared.atom.Atom.{Atom}
use Rattle.patterns.specs.declared.state.Form.TheVariants as forms
use Rattle.patterns.proofs.Machines.{machine_exact}
use Rattle.patterns.proofs.Parting.{line_determined}
use Rattle.reading.proofs.Ordering.{fact_one, fact_written}
use Rattle.reading.proofs.read.read_fact.Goals as goal

pub returns-in_err-tables : goal.returns-in_err-tables
returns-in_err-tables c =
    let p = err_from_is_err_and c.from_residual.result c.from_residual.ensures.1 in
    record { read = rw (p.1, p.2) c.in_err-tables.ensures; determined = line_determined forms.Fact _; machine = machine_exact forms.Fact }

pub returns : goal.returns
returns c =
    let (passes, spells) = c.in_ok-tables.ensures in
    let (d, one) = fact_one _ _ spells in
    let atoms : c.atoms.result.now ≡ d ∷ [] = c.atoms.ensures.atoms ∙ one in
    let same : c.index-atoms-0.result ≡ d = search rules in
    let (part, writes) = fact_written _ _ _ ([], one ∙ ap (λ (x : Atom). x ∷ []) (sym same)) spells in
    record { read = (part, passes, writes); determined = line_determined forms.Fact _; machine = machine_exact forms.Fact }
