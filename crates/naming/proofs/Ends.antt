-- What holds of a result that was turned into an option.
use Rattle.std.proofs.Common.{◌≡◌, true, Ok, Err, Some, Result, OnOk, MatchResult, rules}
use Rattle.std.specs.Result.{result_ok, is_ok}

module _ {T E : Type 0} where
  pub ok_value : (P : T → Type 0) (Q : E → Type 0) (r : Result T E) (x : T) → Some x ≡ result_ok r → MatchResult r P Q → P x
  ok_value P Q (Ok y) x e m = search (rules, e, m)
  ok_value P Q (Err z) x e m = absurd (cc)

  pub ok_after : (P : Type 0) (r : Result T E) → true ≡ is_ok r → OnOk r P → P
  ok_after P (Ok y) e h = h
  ok_after P (Err z) e h = absurd (cc)
