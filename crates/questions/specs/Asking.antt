-- Questions put one after another: all answer yes, or the first no turns away.
use Rattle.std.specs.Prelude.{◌≡◌, List, [], ◌∷◌, ◌⊎◌, ℕ}
use Rattle.questions.specs.declared.question.Question.{Question}

-- all of these questions answer yes
abbrev pub AllYes : {X : Type 0} → (X → Type 0) → List X → Type 0
AllYes Yes [] = Unit {0}
AllYes Yes (x ∷ xs) = Yes x × AllYes Yes xs

-- of these questions, q is the first that answers no, at the place p
abbrev pub FirstNo : {X : Type 0} → (X → Type 0) → (X → ℕ → Type 0) → (X → Question) → List X → Question → ℕ → Type 0
FirstNo Yes No question_of [] q p = ⊥
FirstNo Yes No question_of (x ∷ xs) q p = (No x p × (question_of x ≡ q)) ⊎ (Yes x × FirstNo Yes No question_of xs q p)
