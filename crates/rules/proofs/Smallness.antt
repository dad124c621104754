-- The sides of rules in memory are small.
use Rattle.std.proofs.Common.{ℕ, ◌<◌, ◌≤◌, List, map, length, subst}
use Rattle.std.proofs.Math.ListN.{length-map}
use Rattle.lists.specs.Places.{At}
use Rattle.lists.proofs.Mapped.{at_map}
use Rattle.theory.specs.Rules.{SmallSide}
use Rattle.theory.specs.Rules as plain
use Rattle.rules.specs.declared.rule.Atom.{Atom}
use Rattle.rules.specs.declared.rule.Side.{Side}
use Rattle.rules.specs.declared.rule.Rule.{Rule}
use Rattle.rules.specs.Views.{atoms_of, plain_atom, plain_side, plain_rule}

pub side_small : (d : Side) → SmallSide (plain_side d)
side_small d = record {
  some = rw length-map d.some;
  few = rw length-map d.few;
  predicate = λ k a here. each (λ b. b.predicate < 32) (λ x. x.known) k a here;
  column = λ k a here. each (λ b. 0 < length b.columns) (λ x. x.some) k a here;
  columns = λ k a here. each (λ b. length b.columns ≤ 4) (λ x. x.few) k a here;
}
  where
    each : (P : plain.Atom → Type 0) → ((x : Atom) → P (plain_atom x)) → (k : ℕ) (a : plain.Atom) → At (plain_side d) k a → P a
    each P h k a here = let (x, there, e) = at_map plain_atom (atoms_of d) k a here in subst P e (h x)

pub rule_small : (rules : List Rule) (i : ℕ) (r : plain.Rule) → At (map plain_rule rules) i r → SmallSide r.body × SmallSide r.head
rule_small rules i r here =
    let (x, _, e) = at_map plain_rule rules i r here in
    subst (λ (y : plain.Rule). SmallSide y.body × SmallSide y.head) e (side_small x.body, side_small x.head)
