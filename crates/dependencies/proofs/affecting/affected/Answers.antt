use Rattle.std.proofs.Common.{◌≡◌, ◌<◌, Bool, false, get_or, nat_lt, Decides, subst, sym, rules}
use Rattle.std.proofs.lemmas.Bool.Decides.{Decides-ltb}
use Rattle.lists.proofs.FromFn.{from_fn_each}
use Rattle.dependencies.proofs.Deriving.{affections}
use Rattle.dependencies.proofs.affecting.affected.Goals as goal

pub returns : goal.returns
returns c =
    let rounds = c.search-rounds.result in
    affections c.args.rules.now rounds _ c.search-rounds.ensures.found c.from_fn.ensures.items.long
    (λ p l. from_fn_each _ (λ x b. Decides b (0 < get_or rounds x 0)) _ _
    (λ x y q k.
    let is : y ≡ nat_lt 0 (get_or rounds x 0) = search rules in
    (search rules, subst (λ (b : Bool). Decides b (0 < get_or rounds x 0)) (sym is) (Decides-ltb 0 (get_or rounds x 0))))
    128 c.from_fn.ensures.items p false l)
