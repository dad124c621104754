-- What numbering the predicates and variables of a line gives, and when it can.
use Rattle.std.specs.Prelude.{◌≡◌, ℕ, ◌<◌, ◌≤◌, List, map, length, take, Some, None, Option}
use Rattle.lists.specs.Places.{At, Holds, FirstAt, Pairwise}
use Rattle.lists.specs.Joins.{Joined}
use Rattle.tokens.specs.Tokens.{Token}
use Rattle.patterns.specs.Patterns.{Written}
use Rattle.rules.specs.Names.{text_of}
use Rattle.rules.specs.Views.{plain_atom, plain_side, plain_rule}
use Rattle.rules.specs.declared.rule.Atom.{Atom}
use Rattle.rules.specs.declared.rule.Side.{Side}
use Rattle.rules.specs.declared.rule.Rule.{Rule}
use Rattle.naming.specs.Meaning.{Predicate, predicate_of, words_of, AtomMeans, RuleMeans}

-- no two predicates have one name
abbrev pub Distinct : List Predicate → Type 0
Distinct known = (i j : ℕ) (p q : Predicate) → At known i p → At known j q → p.name ≡ q.name → i ≡ j

-- the atom has a word or more, and its predicate is known with its columns
abbrev pub Nameable : List Predicate → Written → Type 0
Nameable known w = (0 < length w.words) × Holds known (predicate_of w)

-- one atom or more, and each can be numbered
abbrev pub AllNameable : List Predicate → List Written → Type 0
AllNameable known atoms = (0 < length atoms) × ((k : ℕ) (w : Written) → At atoms k w → Nameable known w)

-- at most 32 predicates, of different names
abbrev pub Numberable : List Predicate → Type 0
Numberable known = (length known ≤ 32) × Distinct known

abbrev pub PredicateNumber : List Predicate → Written → Option ℕ → Type 0
PredicateNumber known w None = Distinct known → Holds known (predicate_of w) → ⊥
PredicateNumber known w (Some i) = FirstAt known i (predicate_of w)

-- the words have these numbers among the names, which are joined to those before
pub record WordsNumbered (words : List Token) (before after : List (List ℕ)) (numbers : List ℕ) : Type 0 where
  pub pairs : Pairwise (λ t v. FirstAt after v t.text) words numbers
  pub joined : Joined before (map (λ t. t.text) words) after

-- an atom of at most four words is numbered; or it cannot be, or there were more than 28 names
abbrev pub AtomNumbered : List Predicate → Written → List (List ℕ) → List (List ℕ) → Option Atom → Type 0
AtomNumbered known w before after None = Numberable known → Nameable known w → 28 < length before
AtomNumbered known w before after (Some a) = AtomMeans known after w (plain_atom a) × Joined before (map (λ t. t.text) w.words) after × (length w.words ≤ 4)

-- a side of at most 16 words is numbered; or it cannot be, or there were more than 16 names
abbrev pub SideNumbered : List Predicate → List Written → List (List ℕ) → List (List ℕ) → Option Side → Type 0
SideNumbered known atoms before after None = Numberable known → AllNameable known atoms → 16 < length before
SideNumbered known atoms before after (Some d) = Pairwise (AtomMeans known after) atoms (plain_side d) × Joined before (words_of atoms) after × (length (words_of atoms) ≤ 16)

-- the rule that the sides mean, under the label's first eight bytes; there is one whenever each atom can be numbered
abbrev pub RuleNumbered : List Predicate → List ℕ → List Written → List Written → Option Rule → Type 0
RuleNumbered known label body head None = Numberable known → AllNameable known body → AllNameable known head → ⊥
RuleNumbered known label body head (Some r) = RuleMeans known body head (plain_rule r) × (text_of r.label ≡ take 8 label)
