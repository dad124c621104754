-- What the byte check finds at a place.
use Rattle.std.proofs.Common.{◌≡◌, ℕ, ◌+◌, ◌<◌, ◌≤◌, false, List, length, get_or, refl, ap, ◌∙◌, inl, inr, arith}
use Rattle.std.proofs.lemmas.Bool.{both_ways}
use Rattle.tokens.specs.Tokens.{word_byte, Lies}
use Rattle.tokens.specs.Tokens.Kind.{bars, arrow, opens, closes, comma, stop}
use Rattle.tokens.specs.Reach.{Single, Passes, Reach}
use Rattle.tokens.specs.Reach.Passes.{blank, token}
use Rattle.tokens.proofs.Unique.{lies_within}

passes_within : (s : List ℕ) (i e : ℕ) → Passes s i e → e ≤ length s
passes_within s i e (blank (h, _) q) = omega arith
passes_within s i e (token k l) = lies_within s i e k l

reach_passes : (s : List ℕ) (i n b : ℕ) → get_or s i 0 ≡ b → word_byte b ≡ false → 0 < n → Passes s i (i + n) → Reach s i n
reach_passes s i n b q w h p = record { some = h; within = passes_within s i (i + n) p; letter = λ t. absurd (both_ways _ (ap word_byte q ∙ w) t); mark = λ _. p }

pub reach_arrow : (s : List ℕ) (i : ℕ) → Lies s i (i + 2) arrow → Reach s i 2
unfolding word_byte
reach_arrow s i l = reach_passes s i 2 45 l.0.1 refl (omega arith) (token arrow l)

pub reach_bars : (s : List ℕ) (i : ℕ) → Lies s i (i + 3) bars → Reach s i 3
unfolding word_byte
reach_bars s i l = reach_passes s i 3 124 l.0.1 refl (omega arith) (token bars l)

pub reach_single : (s : List ℕ) (i : ℕ) → i < length s → Single (get_or s i 0) → Reach s i 1
unfolding word_byte
reach_single s i h (inl w) = record { some = omega arith; within = omega arith; letter = λ _. refl; mark = λ f. absurd (both_ways _ f w) }
reach_single s i h (inr (inl q)) = reach_passes s i 1 32 q refl (omega arith) (blank (h, q) refl)
reach_single s i h (inr (inr (inl q))) = reach_passes s i 1 40 q refl (omega arith) (token opens ((h, q), refl))
reach_single s i h (inr (inr (inr (inl q)))) = reach_passes s i 1 41 q refl (omega arith) (token closes ((h, q), refl))
reach_single s i h (inr (inr (inr (inr (inl q))))) = reach_passes s i 1 44 q refl (omega arith) (token comma ((h, q), refl))
reach_single s i h (inr (inr (inr (inr (inr q))))) = reach_passes s i 1 46 q refl (omega arith) (token stop ((h, q), refl))
