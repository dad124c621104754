-- Learning the predicates of a line atom by atom: what is learned, and where an atom clashes.
use Rattle.std.specs.Prelude.{◌≡◌, ℕ, ◌≤◌, List, [], ◌∷◌, ◌++◌, length, Some, None, Ok, Err, Option, Result, ◌≢◌}
use Rattle.lists.specs.Places.{At, Holds, First}
use Rattle.questions.specs.declared.question.Question.TheVariants.{Columns}
use Rattle.questions.specs.declared.question.Refusal.{Refusal}
use Rattle.patterns.specs.Patterns.{Written}
use Rattle.naming.specs.Meaning.{Predicate, Learned}
use Rattle.naming.specs.Names.{predicates_of}
use Rattle.naming.specs.Numbering.{Distinct}
use Rattle.book.specs.Asking.{WrongColumns, OneMore}
use Rattle.book.specs.declared.learning.Learning.{Learning}

-- the predicate's word has at most 8 bytes
abbrev pub Short : Written → Type 0
Short w = length w.predicate.text ≤ 8

abbrev pub AllShort : List Written → Type 0
AllShort ws = (k : ℕ) (w : Written) → At ws k w → Short w

-- at most 32 would be known; or the predicate at this place would be the 33rd
abbrev pub Extra : List Predicate → List Written → List Predicate → Option ℕ → Type 0
Extra known atoms seen None = length seen ≤ 32
Extra known atoms seen (Some p) = (k : ℕ) × (a : Written) × OneMore known atoms k a × (p ≡ a.predicate.place)

-- the predicates of the atoms are learned, each name with one number of columns
pub record Learnt (known : List Predicate) (atoms : List Written) (l : Learning) : Type 0 where
  pub joined : Learned known atoms (predicates_of l.known)
  pub names : Distinct (predicates_of l.known)
  pub extra : Extra known atoms (predicates_of l.known) l.extra

-- behind these atoms, a known predicate or that of one of them has the name of w and other columns
pub record Clash (known : List Predicate) (atoms : List Written) (w : Written) : Type 0 where
  pub seen : List Predicate
  pub joined : Learned known atoms seen
  pub names : Distinct seen
  pub other : Predicate
  pub there : Holds seen other
  pub name : other.name ≡ w.predicate.text
  pub columns : other.columns ≡ length w.words → ⊥

-- one predicate more; if 32 were known, this place is that of one too many
pub record NewLearned (name : List ℕ) (columns place : ℕ) (l m : Learning) : Type 0 where
  pub known : predicates_of m.known ≡ predicates_of l.known ++ (record { name = name; columns = columns } ∷ [])
  pub full : length (predicates_of l.known) ≡ 32 → m.extra ≡ Some place
  pub spare : (length (predicates_of l.known) ≢ 32) → m.extra ≡ l.extra

-- one atom more is learned, whatever was before; or it clashes
abbrev pub AtomLearned : Written → Learning → Learning → Result (Unit {0}) Refusal → Type 0
AtomLearned w l m (Ok u) = (known : List Predicate) (atoms : List Written) → Learnt known atoms l → Learnt known (atoms ++ (w ∷ [])) m
AtomLearned w l m (Err e) = ((known : List Predicate) (atoms : List Written) → Learnt known atoms l → Clash known atoms w) × (e.question ≡ Columns) × (e.place ≡ w.predicate.place)

-- the predicates of the whole line are learned; or this is its first atom with wrong columns
abbrev pub LineLearned : List Predicate → List Written → List Written → Result Learning Refusal → Type 0
LineLearned known body head (Ok l) = Learnt known (body ++ head) l
LineLearned known body head (Err e) = (k : ℕ) × (w : Written) × First (WrongColumns known (body ++ head)) (body ++ head) k w × (e.question ≡ Columns) × (e.place ≡ w.predicate.place)
