use Rattle.std.proofs.Common.{◌∙◌, ap, refl, sym, subst, arith, rules}
use Rattle.std.proofs.lemmas.Iterator.{YieldsList-from_range, YieldsList-from_map}
use Rattle.std.proofs.lemmas.Iterator.Adapters.{option_map_id}
use Rattle.std.proofs.lemmas.Iterator.Consumers.{max_from_yields_List}
use Rattle.std.specs.Option.{unwrap_or}
use Rattle.ranks.specs.Relaxing.{Relaxes, offered_or_zero}
use Rattle.ranks.proofs.Relaxed.{relaxes_greatest}
use Rattle.ranks.specs.Edges.{edges_of}
use Rattle.ranks.proofs.best.relax.Goals as goal

pub returns : goal.returns
returns c =
    let table = edges_of c.args.table.now in
    let best = c.args.best.now in
    let most = sym (option_map_id c.max.result) ∙ max_from_yields_List _ c.max.result c.max.ensures.ran (YieldsList-from_map _ (offered_or_zero table best c.args.to) (YieldsList-from_range 0 128 128 (cc) refl) c.map.ensures.closure (λ x r q k. search rules)) in
    subst (λ r. Relaxes table best 128 c.args.to r) (ap (λ o. unwrap_or o 0) (sym most) ∙ sym c.unwrap_or.ensures) (relaxes_greatest table best c.args.to 128 (omega arith) c.requires)
