use Rattle.std.proofs.lemmas.Result.{err_from_is_err_and}
use Rattle.patterns.specs.declared.state.Form.TheVariants as forms
use Rattle.patterns.proofs.Machines.{machine_exact}
use Rattle.patterns.proofs.Parting.{line_determined}
use Rattle.reading.proofs.Ordering.{rule_written}
use Rattle.reading.proofs.read.read_rule.Goals as goal

pub returns-in_err-label : goal.returns-in_err-label
returns-in_err-label c =
    let p = err_from_is_err_and c.from_residual.result c.from_residual.ensures.1 in
    record { read = rw (p.1, p.2) c.in_err-label.ensures; determined = line_determined forms.Rule _; machine = machine_exact forms.Rule }

pub returns : goal.returns
returns c =
    let (passes, spells) = c.in_ok-label.ensures in
    let (part, writes) = rule_written _ _ spells in
    record { read = (part, passes, writes); determined = line_determined forms.Rule _; machine = machine_exact forms.Rule }
