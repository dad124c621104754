-- The front of a table, one element longer.
use Rattle.std.proofs.Common.{◌≡◌, ℕ, ◌+◌, ◌-◌, ◌<◌, ◌≤◌, List, [], ◌∷◌, ◌++◌, length, take, set, sym, ap, ◌∙◌, arith}
use Rattle.std.proofs.lemmas.List.{take_more_set}

pub front_set : {A : Type 0} (xs : List A) (n : ℕ) (y : A) → 0 < n → n ≤ length xs → take n (set xs (n - 1) y) ≡ take (n - 1) xs ++ (y ∷ [])
front_set xs n y h l =
    let up : (n - 1) + 1 ≡ n = omega arith in
    ap (λ (k : ℕ). take k (set xs (n - 1) y)) (sym up) ∙ take_more_set xs (n - 1) y (omega arith)
