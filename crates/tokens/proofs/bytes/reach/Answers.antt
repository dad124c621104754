use Rattle.std.proofs.Common.{refl}
use Rattle.tokens.proofs.Reaching.{reach_single, reach_arrow, reach_bars}
use Rattle.tokens.proofs.bytes.reach.Goals as goal

pub returns-then-is_single : goal.returns-then-is_single
returns-then-is_single c = reach_single _ _ c.requires (c.if-is_single.ensures.0 refl)

pub returns-then-is_arrow : goal.returns-then-is_arrow
returns-then-is_arrow c = reach_arrow _ _ (c.if-is_arrow.ensures.0 refl)

pub returns-then-is_bars : goal.returns-then-is_bars
returns-then-is_bars c = reach_bars _ _ (c.if-is_bars.ensures.0 refl)
