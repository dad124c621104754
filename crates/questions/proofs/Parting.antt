-- Where each question answers one thing, so do all: at most one turns away, at one place, and none if all answer yes.
use Rattle.std.proofs.Common.{◌≡◌, ℕ, List, [], ◌∷◌, sym, ◌∙◌, inl, inr}
use Rattle.questions.specs.Asking.{AllYes, FirstNo}
use Rattle.questions.specs.declared.question.Question.{Question}

module _ {X : Type 0} (Yes : X → Type 0) (No : X → ℕ → Type 0) (question_of : X → Question) (apart : (x : X) (p : ℕ) → Yes x → No x p → ⊥) where
  pub first_no_single : ((x : X) (p q : ℕ) → No x p → No x q → p ≡ q) → (xs : List X) (q r : Question) (p t : ℕ) → FirstNo Yes No question_of xs q p → FirstNo Yes No question_of xs r t → (q ≡ r) × (p ≡ t)
  first_no_single single [] q r p t a b = absurd a
  first_no_single single (x ∷ xs) q r p t (inl (m, e)) (inl (n, f)) = (sym e ∙ f, single x p t m n)
  first_no_single single (x ∷ xs) q r p t (inl (m, e)) (inr (y, b)) = absurd (apart x p y m)
  first_no_single single (x ∷ xs) q r p t (inr (y, a)) (inl (n, f)) = absurd (apart x t y n)
  first_no_single single (x ∷ xs) q r p t (inr (_, a)) (inr (_, b)) = first_no_single single xs q r p t a b

  pub all_or_first : (xs : List X) (q : Question) (p : ℕ) → AllYes Yes xs → FirstNo Yes No question_of xs q p → ⊥
  all_or_first [] q p a b = b
  all_or_first (x ∷ xs) q p (y, a) (inl (n, _)) = apart x p y n
  all_or_first (x ∷ xs) q p (_, a) (inr (_, b)) = all_or_first xs q p a b
