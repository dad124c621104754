use Rattle.std.proofs.Common.{ℕ, ◌≡◌, ◌<◌, ◌≤◌, List, map, length, sym, subst, Some, None, Option, MatchOption, Bor, arith}
use Rattle.std.proofs.Math.ListN.{length-map}
use Rattle.std.specs.List.{HoldsAt}
use Rattle.std.specs.Option.{option_copied}
use Rattle.lists.specs.Places.{At}
use Rattle.lists.proofs.Mapped.{at_map_get}
use Rattle.naming.specs.Names.{plain_predicate, Gets}
use Rattle.naming.specs.declared.predicate.Predicate.{Predicate}
use Rattle.naming.proofs.predicate.Predicates.get.Goals as goal

gets : (known : List Predicate) (i : ℕ) (r : Option (Bor Predicate)) → MatchOption r (length known ≤ i) (λ x. (i < length known) × HoldsAt (λ y. x.now ≡ y) known i) → Gets (map plain_predicate known) i (option_copied r)
gets known i None past = omega (arith, past, length-map known plain_predicate)
gets known i (Some x) m = subst (λ (p : Predicate). At (map plain_predicate known) i (plain_predicate p)) (sym (m.1 x.now)) (at_map_get plain_predicate known i x.now m.0)

pub returns : goal.returns
returns c = rw (c.copied.ensures, ← c.as_slice.ensures.items) (gets c.as_slice.result.now c.args.number c.get.result c.get.ensures.lookup.3)
