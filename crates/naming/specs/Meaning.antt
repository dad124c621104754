-- The predicates and variables that written atoms name, and the rule that they mean.
use Rattle.std.specs.Prelude.{ℕ, List, [], ◌∷◌, ◌++◌, map, length}
use Rattle.lists.specs.Places.{FirstAt, Pairwise}
use Rattle.lists.specs.Joins.{Joined}
use Rattle.patterns.specs.Patterns.{Written}
use Rattle.theory.specs.Rules.{Atom, Rule}

-- a predicate: its name and how many columns it has
pub record Predicate : Type 0 where
  pub name : List ℕ
  pub columns : ℕ

-- the predicate of a written atom
abbrev pub predicate_of : Written → Predicate
predicate_of a = record { name = a.predicate.text; columns = length a.words }

-- the known predicates after those of the atoms became known, each by first occurrence
abbrev pub Learned : List Predicate → List Written → List Predicate → Type 0
Learned known atoms after = Joined known (map predicate_of atoms) after

-- the words in the brackets of the atoms, as they are written
abbrev pub words_of : List Written → List (List ℕ)
words_of [] = []
words_of (a ∷ more) = map (λ w. w.text) a.words ++ words_of more

-- the written atom means the atom: its predicate and its variables have these numbers
abbrev pub AtomMeans : List Predicate → List (List ℕ) → Written → Atom → Type 0
AtomMeans known names w a = FirstAt known a.predicate (predicate_of w) × Pairwise (λ t v. FirstAt names v t.text) w.words a.columns

-- the two written sides mean the rule: variables are numbered by first occurrence, the body first
pub record RuleMeans (known : List Predicate) (body head : List Written) (rule : Rule) : Type 0 where
  pub names : List (List ℕ)
  pub numbered : Joined [] (words_of (body ++ head)) names
  pub the_body : Pairwise (AtomMeans known names) body rule.body
  pub the_head : Pairwise (AtomMeans known names) head rule.head
