-- What the number of elements that pass a test, from a place on, says of each of them and of the next.
use Rattle.std.proofs.Common.{◌≡◌, ℕ, ◌+◌, ◌-◌, ◌<◌, ◌≤◌, Bool, true, false, List, length, get_or, take, drop, sym, ap, ◌∙◌, arith, length-drop}
use Rattle.std.proofs.lemmas.List.{get_or-drop, take_all}
use Rattle.std.proofs.lemmas.List.Sums.{prefix_len-le-length, prefix_len_passes, prefix_len_stops}
use Rattle.std.specs.List.{prefix_len}

-- the elements from the place at up to and without e pass, and no further one at e
pub record Leads {A : Type 0} (p : A → Bool) (xs : List A) (d : A) (at e : ℕ) : Type 0 where
  pub from : at ≤ e
  pub within : e ≤ length xs
  pub passes : (k : ℕ) → at ≤ k → k < e → p (get_or xs k d) ≡ true
  pub stops : e < length xs → p (get_or xs e d) ≡ false

pub leads : {A : Type 0} (p : A → Bool) (xs : List A) (d : A) (at n : ℕ) → at ≤ length xs → n ≡ prefix_len p (take (length xs - at) (drop at xs)) → Leads p xs d at (at + n)
leads p xs d at n h q =
    let ys = drop at xs in
    let long = length-drop at xs in
    let e : n ≡ prefix_len p ys = q ∙ ap (prefix_len p) (take_all (length xs - at) ys (omega arith)) in
    let most = prefix_len-le-length p ys in
    record {
      from = omega arith;
      within = omega arith;
      passes = λ k a l.
          let back : at + (k - at) ≡ k = omega arith in
          ap (λ (i : ℕ). p (get_or xs i d)) (sym back) ∙ ap p (sym (get_or-drop at xs (k - at) d)) ∙ prefix_len_passes p ys (k - at) d (omega arith);
      stops = λ l. ap (λ (i : ℕ). p (get_or xs (at + i) d)) e ∙ ap p (sym (get_or-drop at xs (prefix_len p ys) d)) ∙ prefix_len_stops p ys d (omega arith);
    }
