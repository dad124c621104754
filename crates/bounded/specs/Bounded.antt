-- What a bounded list is to a reader of contracts: its elements, and what lies in its places.
use Rattle.std.specs.Prelude.{List, ℕ, take}
use Rattle.bounded.specs.declared.Bounded.{Bounded}

-- the elements, in their order
unfoldable pub items : {T : Type 0} {N : ℕ} → Bounded T N → List T
items b = take b.len b.places

-- the elements, and behind them what lies in the unused places: only clauses on clones, which may fail at these too, and laws speak of it
unfoldable pub places : {T : Type 0} {N : ℕ} → Bounded T N → List T
places b = b.places
