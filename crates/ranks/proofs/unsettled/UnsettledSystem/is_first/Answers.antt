use Rattle.std.proofs.lemmas.Bool.{ltb-true, lt-ltb}
use Rattle.ranks.specs.Edges.{edges_of}
use Rattle.ranks.proofs.Relaxed.{tense_less, less_tense}
use Rattle.ranks.proofs.unsettled.UnsettledSystem.is_first.Goals as goal

pub returns-then-i-lt-POSITIONS : goal.returns-then-i-lt-POSITIONS
returns-then-i-lt-POSITIONS c =
    let s = c.args.self.now in
    let i = c.args.i in
    let table = edges_of s.table.now in λ l. (
      λ e. tense_less table s.best.now s.next.now i l (s.round i l) (ltb-true _ _ e),
      λ tense. lt-ltb _ _ (less_tense table s.best.now s.next.now i s.round tense).1,
    )
