use Rattle.std.proofs.Common.{◌≡◌, ◌<◌, List, map, length, get_or, sym, subst, arith, rules}
use Rattle.lists.proofs.Numbered.{at_get, get_at}
use Rattle.theory.specs.Rules as plain
use Rattle.theory.specs.Edges.{PositionStep}
use Rattle.ranks.specs.Answers.{Ranked}
use Rattle.ranks.specs.declared.rank.Rank.{Rank}
use Rattle.ranks.specs.declared.rank.Rank.TheVariants.{Infinite}
use Rattle.positions.proofs.Tabling.{ranked_so, rules_are, known_below}
use Rattle.positions.proofs.rank.Goals as goal

pub bounds-told-position : goal.bounds-told-position
bounds-told-position c = let b = c.args.book.now in known_below b c.rules.ensures.sound c.args.position (c.is_known.ensures.0 c.if-not-is_known.false)

pub offset_bounds-told-position : goal.offset_bounds-told-position
offset_bounds-told-position c =
    let b = c.args.book.now in
    let p : c.args.position < 128 = known_below b c.rules.ensures.sound c.args.position (c.is_known.ensures.0 c.if-not-is_known.false) in
    search rules

pub returns : goal.returns
returns c =
    let b = c.args.book.now in
    let p = c.args.position in
    let known = c.is_known.ensures.0 c.if-not-is_known.false in
    let below = known_below b c.rules.ensures.sound p known in
    let told = c.ranks-told.result in
    let long : length told ≡ 128 = search rules in
    let ranked = ranked_so _ c.edges-table.result c.edges-table.ensures p (get_or told p Infinite) (c.ranks-told.ensures.each p below) in
    let same = rules_are c.rules.result.now b.entries c.rules.ensures.entries in
    let here = get_at told p Infinite (omega arith) in (
      known,
      subst (λ (r : Rank). Ranked (PositionStep (map (λ e. e.rule) b.entries)) p r) (sym (at_get told p (get_or told p Infinite) _ here))
          (subst (λ (rs : List plain.Rule). Ranked (PositionStep rs) p (get_or told p Infinite)) same ranked),
    )
