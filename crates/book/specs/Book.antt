-- A book: its standing rules under their labels, and the predicates that it knows.
use Rattle.std.specs.Prelude.{◌≡◌, ℕ, ◌<◌, ◌≤◌, List, [], map, length}
use Rattle.lists.specs.Places.{At, First}
use Rattle.theory.specs.Rules.{Atom, Rule, Small}
use Rattle.naming.specs.Meaning.{Predicate}
use Rattle.naming.specs.Numbering.{Distinct}

-- a standing rule under its label
pub record Entry : Type 0 where
  pub label : List ℕ
  pub rule : Rule

pub record Book : Type 0 where
  -- the standing rules, in the order of adding
  pub entries : List Entry
  -- the known predicates, by number
  pub known : List Predicate

abbrev pub empty : Book
empty = record { entries = []; known = [] }

abbrev pub rules : Book → List Rule
rules b = map (λ e. e.rule) b.entries

-- the standing rule number i carries the label
abbrev pub Carries : Book → List ℕ → ℕ → Entry → Type 0
Carries b label i e = First (λ x. x.label ≡ label) b.entries i e

-- the atom's predicate is known, with as many columns as the atom has
abbrev pub KnownAtom : List Predicate → Atom → Type 0
KnownAtom known a = (p : Predicate) × At known a.predicate p × (p.columns ≡ length a.columns)

-- what holds of every book that exists
pub record Sound (b : Book) : Type 0 where
  -- at most 64 rules, of one to four atoms a side and one to four variables an atom, numbered by first occurrence
  pub small : Small (rules b)
  -- at most 32 predicates, of different names, with one to four columns
  pub few : length b.known ≤ 32
  pub names : Distinct b.known
  pub columns : (i : ℕ) (p : Predicate) → At b.known i p → (0 < p.columns) × (p.columns ≤ 4)
  -- no label stands twice
  pub labels : (i j : ℕ) (e f : Entry) → At b.entries i e → At b.entries j f → e.label ≡ f.label → i ≡ j
  -- each atom has a known predicate and its columns
  pub body : (i k : ℕ) (e : Entry) (a : Atom) → At b.entries i e → At e.rule.body k a → KnownAtom b.known a
  pub head : (i k : ℕ) (e : Entry) (a : Atom) → At b.entries i e → At e.rule.head k a → KnownAtom b.known a
