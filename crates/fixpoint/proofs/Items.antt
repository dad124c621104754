-- An item with a round has a place in the table, is one of the system's items, and makes a step from it alone ready.
use Rattle.std.proofs.Common.{◌≡◌, ℕ, zero, suc, ◌<◌, ◌≤◌, Bool, List, [], ◌∷◌, length, get_or, Decides, ⊎_elim, arith}
use Rattle.std.proofs.lemmas.Bool.{cases_lt}
use Rattle.fixpoint.specs.Least.{FoundBy}
use Rattle.fixpoint.specs.Steps.{Ready}

pub placed : (xs : List ℕ) (i : ℕ) → 0 < get_or xs i 0 → i < length xs
placed [] i p = absurd (omega arith)
placed (x ∷ xs) zero p = omega arith
placed (x ∷ xs) (suc i) p = let l = placed xs i p in omega arith

pub inside : (xs : List ℕ) (n : ℕ) → ((i : ℕ) → n ≤ i → get_or xs i 0 ≡ 0) → (i : ℕ) → 0 < get_or xs i 0 → i < n
inside xs n outside i p = ⊎_elim (λ l. l) (λ m. absurd (omega (arith, outside i m))) (cases_lt i n)

pub ready_one : (xs : List ℕ) (r a : ℕ) (t : Bool) → Decides t (FoundBy xs r a) → Decides t (Ready xs r (a ∷ []))
ready_one xs r a t d = (λ e. (omega arith, elim [ zero ↦ λ _. d.0 e | suc k ↦ λ l. absurd (omega arith) ]), λ h. d.1 (h.1 0 (omega arith)))
