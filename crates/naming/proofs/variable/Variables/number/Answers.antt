use Rattle.std.proofs.Common.{ℕ, List, Bor, ◌≡◌, ◌<◌, [], ◌∷◌, ◌++◌, map, ap, ◌∙◌, inr, arith, rules}
use Rattle.std.proofs.Math.ListN.{length-map}
use Rattle.bounded.specs.Bounded.{items}
use Rattle.lists.proofs.Numbered.{at_below}
use Rattle.lists.proofs.Mapped.{map_snoc}
use Rattle.lists.proofs.Joining.{new_first}
use Rattle.naming.specs.Names.{names_of}
use Rattle.naming.proofs.variable.Variables.number.Goals as goal

pub overflow_cast-result : goal.overflow_cast-result
overflow_cast-result c =
    let t = c.args.self.now in
    let below = at_below (names_of t) c.in-Some.number _ c.in-Some.ensures.0 in
    let long = length-map (items t.texts) (λ t. t.now) in
    let few = t.few in
    let small : c.in-Some.number < 256 = omega arith in
    search rules

pub returns : goal.returns
returns c =
    let names = names_of c.args.self.now in
    let text = c.args.text.now in
    let more : map (λ (t : Bor (List ℕ)). t.now) (items c.push.new.self) ≡ names ++ (text ∷ []) = ap (map (λ t. t.now)) c.in_ok-push.ensures.items ∙ map_snoc (λ t. t.now) _ _ in
    (inr (c.in_default.ensures, more), rw more (new_first names text c.len-number.result (search (rules, length-map)) c.in_default.ensures))
