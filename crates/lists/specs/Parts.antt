-- A part of a slice by its place in memory.
use Rattle.std.specs.Prelude.{◌≡◌, ℕ, ◌+◌, List, length, take, drop}
use Rattle.std.specs.Borrow.{Bor}

-- part is the memory of whole itself, from the place at on, n bytes long
pub record Part (whole part : Bor (List ℕ)) (at n : ℕ) : Type 0 where
  pub block : part.ref_ptr.0 ≡ whole.ref_ptr.0
  pub offset : part.ref_ptr.1 ≡ whole.ref_ptr.1 + at
  pub long : length part.now ≡ n
  pub holds : part.now ≡ take n (drop at whole.now)
