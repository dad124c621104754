-- The one position that two calls of an iterator tell.
use Rattle.std.proofs.Common.{◌≡◌, ℕ, List, [], ◌∷◌, length, Some, None, Option, sym, ap, arith}
use Rattle.std.specs.Iterator.Runs.{Run, EachRunFrom}
use Rattle.std.proofs.lemmas.Iterator.{YieldsList}
use Rattle.fixpoint.specs.Steps.{Single}

-- `from` shows which calls are meant
module _ {S : Type 0} {steps : S → Option ℕ → S → Type 0} {s : S} {P : Run steps → Type 0} (from : EachRunFrom steps s P) where
  -- there is none
  pub single_none : {t : S} (ps : List ℕ) → steps s None t → YieldsList steps (λ p. p) s ps → Single ps None
  single_none [] first y a e = let l = ap (λ (qs : List ℕ). length qs) e in omega arith
  single_none {t} (p ∷ ps) first y a e = absurd (y.runs.0 t first)

  -- there is one
  pub single_one : {t u : S} (ps : List ℕ) (p : ℕ) → steps s (Some p) t → steps t None u → YieldsList steps (λ p. p) s ps → ps ≡ p ∷ []
  single_one {t} {u} [] p first second y = absurd (y.runs p t first)
  single_one {t} {u} (q ∷ []) p first second y = ap {B = List ℕ} (λ (x : ℕ). x ∷ []) (sym (y.runs.1 p t first).0)
  single_one {t} {u} (q ∷ (r ∷ ps)) p first second y = absurd ((y.runs.1 p t first).1.0 u second)

  -- there are two or more
  pub single_more : {t u : S} (ps : List ℕ) (p q : ℕ) → steps s (Some p) t → steps t (Some q) u → YieldsList steps (λ p. p) s ps → Single ps None
  single_more {t} {u} [] p q first second y a e = absurd (y.runs p t first)
  single_more {t} {u} (r ∷ []) p q first second y a e = absurd ((y.runs.1 p t first).1 q u second)
  single_more {t} {u} (r ∷ (o ∷ ps)) p q first second y a e = let l = ap (λ (qs : List ℕ). length qs) e in omega arith
