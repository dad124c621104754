-- What the byte at a place, with the two after it, says of that place: how the byte check judges it.
use Rattle.std.specs.Prelude.{◌≡◌, ℕ, ◌+◌, ◌<◌, ◌≤◌, true, false, ◌⊎◌, List, length, Some, None, Option, slice_index}
use Rattle.tokens.specs.Tokens.{word_byte, Byte, Kind, Lies, NothingAt}

-- a byte that is passed alone: one of a word, a blank, a bracket, a comma or a full stop
abbrev pub Single : ℕ → Type 0
Single b = (word_byte b ≡ true) ⊎ ((b ≡ 32) ⊎ ((b ≡ 40) ⊎ ((b ≡ 41) ⊎ ((b ≡ 44) ⊎ (b ≡ 46)))))

-- a blank or a token lies from i up to and without e
pub data Passes (s : List ℕ) (i e : ℕ) : Type 0 where
  blank : Byte s i 32 → e ≡ i + 1 → Passes s i e
  token : (k : Kind) → Lies s i e k → Passes s i e

-- n bytes from i on are a blank or a mark, or one byte of a word
pub record Reach (s : List ℕ) (i n : ℕ) : Type 0 where
  pub some : 0 < n
  pub within : i + n ≤ length s
  pub letter : word_byte (slice_index s i) ≡ true → n ≡ 1
  pub mark : word_byte (slice_index s i) ≡ false → Passes s i (i + n)

-- so many bytes from i on are passed at once; or the byte there belongs to no token
abbrev pub Reaches : List ℕ → ℕ → Option ℕ → Type 0
Reaches s i None = (word_byte (slice_index s i) ≡ false) × NothingAt s i
Reaches s i (Some n) = Reach s i n
