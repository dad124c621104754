use Rattle.std.proofs.Common.{List, length, sym, ap, ◌∙◌}
use Rattle.std.proofs.Math.ListN.{length-map}
use Rattle.bounded.specs.Bounded.{items}
use Rattle.tokens.specs.declared.token.Word.{Word}
use Rattle.patterns.specs.Tables.{written, word_of}
use Rattle.naming.proofs.Naming.{named}
use Rattle.naming.proofs.numbering.predicate_number.Goals as goal

pub returns : goal.returns
returns c =
    let a = c.args.atom.now in
    let long = ap (λ (k : List Word). length k) c.words.ensures.words ∙ sym (length-map (items a.words) word_of) in
    rw c.then_some.ensures (named _ (written a) c.predicate.result.text.now c.in_ok-number.number _ c.in_ok-number.ensures (ap (λ (w : Word). w.text.now) c.predicate.ensures) _ long)
