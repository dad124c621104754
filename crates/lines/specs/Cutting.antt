-- An input cut into lines, and what handing out one of them promises.
use Rattle.std.specs.Prelude.{◌≡◌, ℕ, ◌+◌, ◌<◌, ◌≤◌, List, [], ◌∷◌, ◌++◌, length, drop, Some, None, Option, ◌≢◌, slice_index}
use Rattle.std.specs.Borrow.{Bor}
use Rattle.lists.specs.Parts.{Part}
use Rattle.lists.specs.Places.{At}
use Rattle.lines.specs.declared.line.NumberedLine.{NumberedLine}

-- no byte is a newline
abbrev pub NoNewline : List ℕ → Type 0
NoNewline l = (i : ℕ) → At l i 10 → ⊥

-- the input s is these lines, in order
pub data Cut : List ℕ → List (List ℕ) → Type 0 where
  empty : {s : List ℕ} → s ≡ [] → Cut s []
  last : {s : List ℕ} → 0 < length s → NoNewline s → Cut s (s ∷ [])
  line : {s : List ℕ} {ls : List (List ℕ)} (l rest : List ℕ) → NoNewline l → s ≡ l ++ (10 ∷ rest) → Cut rest ls → Cut s (l ∷ ls)

-- an input has one list of lines
pub record CutDetermined (s : List ℕ) : Type 0 where
  pub some : (ls : List (List ℕ)) × Cut s ls
  pub one : (xs ys : List (List ℕ)) → Cut s xs → Cut s ys → xs ≡ ys

-- the first newline is at e, or there is none and e is the input's end
pub record Ends (s : List ℕ) (e : ℕ) : Type 0 where
  pub within : e ≤ length s
  pub before : (k : ℕ) → k < e → slice_index s k ≢ 10
  pub stops : e < length s → slice_index s e ≡ 10

-- line is the text's own memory from the place at on; it, followed by the lines from next on, are the lines from at on
pub record Handed (text line : Bor (List ℕ)) (at next : ℕ) : Type 0 where
  pub memory : Part text line at (length line.now)
  pub behind : at + length line.now ≤ next
  pub onwards : at < next
  pub within : next ≤ length text.now
  pub lines : (rest : List (List ℕ)) → Cut (drop next text.now) rest → Cut (drop at text.now) (line.now ∷ rest)

-- n lines were handed out and the text is cut up to the place at; r comes next; then m were, and it is cut up to next
abbrev pub Next : Bor (List ℕ) → ℕ → ℕ → ℕ → ℕ → Option NumberedLine → Type 0
Next text at n next m None = Cut (drop at text.now) [] × (next ≡ at) × (m ≡ n)
Next text at n next m (Some x) = (x.number ≡ n + 1) × (m ≡ n + 1) × Handed text x.text at next
