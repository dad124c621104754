use Rattle.std.proofs.Common.{◌++◌, length, List, map, take, subst, arith, rules}
use Rattle.std.proofs.lemmas.Result.{err_from_is_err_and}
use Rattle.std.proofs.lemmas.Iterator.{YieldsList-from_slice}
use Rattle.std.proofs.lemmas.Iterator.Consumers.{YieldsList-from_chain, YieldsList-turn}
use Rattle.std.proofs.lemmas.List.{length_push}
use Rattle.bounded.specs.Bounded.{items}
use Rattle.patterns.specs.Patterns.{Written}
use Rattle.patterns.specs.Tables.{written}
use Rattle.naming.specs.Names.{predicates_of}
use Rattle.book.specs.Learning.{Learnt}
use Rattle.book.proofs.Linewise.{short_at, one_more, line_stuck}
use Rattle.book.proofs.learning.Learning.learn.Goals as goal

pub learn_atom-requires-clause-short : goal.learn_atom-requires-clause-short
learn_atom-requires-clause-short c =
    let body = items c.args.rule.now.body.atoms in
    let head = items c.args.rule.now.head.atoms in
    let t = YieldsList-turn (YieldsList-from_chain (YieldsList-from_slice body (cc)) (YieldsList-from_slice head (cc)) (cc) (cc)) c.loop-atom.yielded _ c.loop-atom.yielded_by _ _ c.in-Some.atom c.in-Some.is c.next.ensures.steps in
    short_at body head (length c.loop-atom.yielded) c.in-Some.atom.now t c.requires.short

pub loop-atom-preserved : goal.loop-atom-preserved
loop-atom-preserved c =
    let known = predicates_of c.args.known.now in
    let body = items c.args.rule.now.body.atoms in
    let head = items c.args.rule.now.head.atoms in
    let k = length c.loop-atom.yielded in
    let a = c.in-Some.atom.now in
    let long = length_push c.loop-atom.yielded c.in-Some.atom in
    let t = YieldsList-turn (YieldsList-from_chain (YieldsList-from_slice body (cc)) (YieldsList-from_slice head (cc)) (cc) (cc)) c.loop-atom.yielded _ c.loop-atom.yielded_by _ _ c.in-Some.atom c.in-Some.is c.next.ensures.steps in
    let more = c.in_ok-learn_atom.ensures.learned known (map written (take k (body ++ head))) c.loop-atom.invariant.learnt in
    record {
      can_next = search rules;
      is_finite = search rules;
      count = omega (arith, c.learn_atom.ensures.count, c.loop-atom.invariant.count);
      learnt = rw long (subst (λ (xs : List Written). Learnt known xs c.learn_atom.new.self) (one_more body head k a t) more);
    }

pub returns-in_err-learn_atom : goal.returns-in_err-learn_atom
returns-in_err-learn_atom c =
    let body = items c.args.rule.now.body.atoms in
    let head = items c.args.rule.now.head.atoms in
    let t = YieldsList-turn (YieldsList-from_chain (YieldsList-from_slice body (cc)) (YieldsList-from_slice head (cc)) (cc) (cc)) c.loop-atom.yielded _ c.loop-atom.yielded_by _ _ c.in-Some.atom c.in-Some.is c.next.ensures.steps in
    let p = err_from_is_err_and c.from_residual.result c.from_residual.ensures.1 in
    rw (p.1, p.2)
    (line_stuck body head (length c.loop-atom.yielded) c.in-Some.atom.now t (predicates_of c.args.known.now) c.loop-atom.learning c.learn_atom.new.self c.in_err-learn_atom.field-0.0 c.loop-atom.invariant.learnt c.in_err-learn_atom.ensures.learned)
