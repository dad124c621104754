-- The first items are found one after the other.
use Rattle.std.proofs.Common.{◌≡◌, ℕ, zero, suc, ◌<◌, ◌≤◌, List, length, get_or, replicate, refl, arith}
use Rattle.std.proofs.Math.ListN.{length-replicate}

get_or_zeros : (n i : ℕ) → get_or {A = ℕ} (replicate n 0) i 0 ≡ 0
get_or_zeros zero i = refl
get_or_zeros (suc n) zero = refl
get_or_zeros (suc n) (suc i) = get_or_zeros n i

-- The first items below j have round 1, and there is nothing else.
pub record Beginning (n : ℕ) (first : ℕ → Type 0) (xs : List ℕ) (j : ℕ) : Type 0 where
  pub long : length xs ≡ 1024
  pub low : (i : ℕ) → get_or xs i 0 ≤ 1
  pub one : (i : ℕ) → get_or xs i 0 ≡ 1 → first i
  pub one_all : (i : ℕ) → i < j → first i → get_or xs i 0 ≡ 1
  pub outside : (i : ℕ) → n ≤ i → get_or xs i 0 ≡ 0

module _ {n : ℕ} {first : ℕ → Type 0} where
  pub begun_none : Beginning n first (replicate 1024 0) 0
  begun_none = record {
    long = length_zeros;
    low = λ i. omega (arith, get_or_zeros 1024 i);
    one = λ i e. absurd (omega (arith, get_or_zeros 1024 i));
    one_all = λ i l. absurd (omega arith);
    outside = λ i _. get_or_zeros 1024 i;
  }
    where
      length_zeros : length (replicate {A = ℕ} 1024 0) ≡ 1024
      length_zeros = length-replicate {A = ℕ} 1024 0
