use Rattle.std.proofs.Common.{ℕ, ◌<◌, ◌≤◌, List, map, length, ap, subst, arith, rules}
use Rattle.std.proofs.Math.ListN.{length-map}
use Rattle.bounded.specs.Bounded.{items}
use Rattle.lists.proofs.Numbered.{at_below}
use Rattle.tokens.specs.declared.token.Word.{Word}
use Rattle.patterns.specs.Tables.{written, word_of}
use Rattle.naming.specs.Names.{plain_predicate, predicates_of, names_of}
use Rattle.rules.specs.Views.{AtomMade}
use Rattle.naming.specs.Numbering.{WordsNumbered}
use Rattle.naming.proofs.Ends.{ok_value}
use Rattle.naming.proofs.Sides.{atom_numbered}
use Rattle.naming.proofs.numbering.number_atom.Goals as goal

pub overflow_cast-predicate : goal.overflow_cast-predicate
overflow_cast-predicate c =
    let t = c.args.known.now in
    let below = at_below (predicates_of t) c.in_ok-predicate.predicate _ c.in_ok-predicate.ensures.0 in
    let long = length-map (items t.list) plain_predicate in
    let few = t.few in
    let small : c.in_ok-predicate.predicate < 256 = omega arith in
    search rules

pub returns : goal.returns
returns c =
    let w = written c.args.atom.now in
    let before = names_of c.args.variables.now in
    let after = names_of c.number_words.new.variables in
    let numbers = items c.in_ok-numbers.numbers in
    let numbered = ok_value _ _ c.number_words.result c.in_ok-numbers.numbers c.in_ok-numbers.ensures.value c.number_words.ensures in
    let few : length w.words ≤ 4 = omega (arith, length-map (items c.args.atom.now.words) word_of, ap (λ (k : List Word). length k) c.words.ensures.words, c.words.ensures.few) in
    atom_numbered (predicates_of c.args.known.now) w before after numbers c.in_ok-predicate.predicate c.new.result c.in_ok-predicate.ensures
    (subst (λ (k : List Word). WordsNumbered (map word_of k) before after numbers) c.words.ensures.words numbered) few
    (subst (λ (k : List ℕ). AtomMade c.in_ok-predicate.predicate k c.new.result) c.as_slice.ensures.items c.new.ensures)
