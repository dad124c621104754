use Rattle.std.proofs.Common.{◌≡◌, length, map, get_or, None, ◌∙◌, arith, rules}
use Rattle.std.proofs.lemmas.List.{ext_get_or, get_or-map, length-map}
use Rattle.lists.proofs.FromFn.{from_fn_each}
use Rattle.ranks.specs.Edges.{edge_of}
use Rattle.ranks.proofs.table.TableEdges.bytes.Goals as goal

pub returns : goal.returns
returns c =
    let entries = c.args.self.now in
    let bytes = c.from_fn.result in
    let long : length entries ≡ 16384 = search rules in
    let made = c.from_fn.ensures.items.long in
    let same = length-map bytes edge_of in
    ext_get_or None (map edge_of bytes) entries (omega (arith, long, made, same))
    (λ k l. get_or-map edge_of bytes k 0 None (omega (arith, l, same)) ∙ from_fn_each _ (λ x b. edge_of b ≡ get_or entries x None) _ _ (λ x y q called. search rules) 16384 c.from_fn.ensures.items k 0 (omega (arith, l, made, same)))
