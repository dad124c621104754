-- The word that begins at a place of a line.
use Rattle.std.specs.Prelude.{◌≡◌, ℕ, ◌-◌, ◌<◌, true, false, List, length, slice_index}
use Rattle.std.specs.Borrow.{Bor}
use Rattle.lists.specs.Parts.{Part}
use Rattle.tokens.specs.Tokens.{word_byte, Run}

-- a word begins at the place i: a word byte is there, and none right before it
pub record Begins (s : List ℕ) (i : ℕ) : Type 0 where
  pub within : i < length s
  pub here : word_byte (slice_index s i) ≡ true
  pub before : 0 < i → word_byte (slice_index s (i - 1)) ≡ false

-- the word that begins at the place i, as a part of the line; or, if none begins there, the empty part at the line's end
pub record WordAt (line part : Bor (List ℕ)) (i : ℕ) : Type 0 where
  pub there : Begins line.now i → (e : ℕ) × Run line.now i e × Part line part i (e - i)
  pub none : (Begins line.now i → ⊥) → Part line part (length line.now) 0
