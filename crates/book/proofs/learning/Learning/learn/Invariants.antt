use Rattle.std.proofs.Common.{◌+◌, ◌≤◌, ◌++◌, length, map, take}
use Rattle.bounded.specs.Bounded.{items}
use Rattle.patterns.specs.Tables.{written}
use Rattle.naming.specs.Names.{predicates_of}
use Rattle.book.specs.Learning.{Learnt}
use Rattle.book.proofs.learning.Learning.learn.Given as goal

abbrev pub invariant-loop-atom : goal.invariant-loop-atom
invariant-loop-atom l = record {
  can_next : (goal.iterator-loop-atom).can_next l.atom-iterator;
  is_finite : (goal.iterator-loop-atom).is_finite l.atom-iterator;
  count : length (predicates_of l.learning.known) ≤ length (predicates_of l.known) + length l.yielded;
  learnt : Learnt (predicates_of l.known) (map written (take (length l.yielded) (items l.rule.body.atoms ++ items l.rule.head.atoms))) l.learning;
}
