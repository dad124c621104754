-- Rules, the variables in them, and the positions where these stand.
use Rattle.std.specs.Prelude.{◌≡◌, ℕ, ◌+◌, ◌*◌, ◌<◌, ◌≤◌, List, [], ◌∷◌, ◌++◌, length, ◌≢◌}
use Rattle.lists.specs.Places.{At}

-- an atom: the number of its predicate, and the number of the variable in each column
pub record Atom : Type 0 where
  pub predicate : ℕ
  pub columns : List ℕ

-- a rule: whenever the body holds, so does the head, for some values of the variables that only the head has
pub record Rule : Type 0 where
  pub body : List Atom
  pub head : List Atom

-- the atom contains the variable v
abbrev pub Has : Atom → ℕ → Type 0
Has a v = (c : ℕ) × At a.columns c v

-- the variable v stands in column c, counted from 0, of atom number k
abbrev pub Occurs : List Atom → ℕ → ℕ → ℕ → Type 0
Occurs atoms k c v = (a : Atom) × At atoms k a × At a.columns c v

-- the variable v occurs in the atoms
abbrev pub In : List Atom → ℕ → Type 0
In atoms v = (k : ℕ) × (c : ℕ) × Occurs atoms k c v

-- a body variable occurs in the body
abbrev pub BodyVariable : Rule → ℕ → Type 0
BodyVariable r v = In r.body v

-- a frontier variable occurs in body and head
abbrev pub Frontier : Rule → ℕ → Type 0
Frontier r v = In r.body v × In r.head v

-- an existential variable occurs in the head only
abbrev pub Existential : Rule → ℕ → Type 0
Existential r v = In r.head v × (In r.body v → ⊥)

-- the variable v occurs twice or more in the body
abbrev pub Repeated : Rule → ℕ → Type 0
Repeated r v = (k : ℕ) × (c : ℕ) × (l : ℕ) × (d : ℕ) × Occurs r.body k c v × Occurs r.body l d v × (k ≡ l → c ≢ d)

-- the number of the position in column c, counted from 0, of an atom's predicate
abbrev pub position : Atom → ℕ → ℕ
position a c = 4 * a.predicate + c

-- the variable v stands at position p in the atoms
abbrev pub Stands : List Atom → ℕ → ℕ → Type 0
Stands atoms v p = (k : ℕ) × (c : ℕ) × (a : Atom) × At atoms k a × At a.columns c v × (position a c ≡ p)

-- p is a body position, a head position of the variable v
abbrev pub BodyPosition : Rule → ℕ → ℕ → Type 0
BodyPosition r v p = Stands r.body v p

abbrev pub HeadPosition : Rule → ℕ → ℕ → Type 0
HeadPosition r v p = Stands r.head v p

-- the variables of the atoms as they are written
abbrev pub written : List Atom → List ℕ
written [] = []
written (a ∷ atoms) = a.columns ++ written atoms

-- variables are numbered by first occurrence, the body first: each lower number occurs before
abbrev pub Numbered : Rule → Type 0
Numbered r = (i u v : ℕ) → At (written (r.body ++ r.head)) i v → u < v → (j : ℕ) × (j < i) × At (written (r.body ++ r.head)) j u

-- one to four atoms, each of a predicate below 32 with one to four columns
pub record SmallSide (atoms : List Atom) : Type 0 where
  pub some : 0 < length atoms
  pub few : length atoms ≤ 4
  pub predicate : (k : ℕ) (a : Atom) → At atoms k a → a.predicate < 32
  pub column : (k : ℕ) (a : Atom) → At atoms k a → 0 < length a.columns
  pub columns : (k : ℕ) (a : Atom) → At atoms k a → length a.columns ≤ 4

-- at most 64 rules of such sides, numbered by first occurrence
pub record Small (rules : List Rule) : Type 0 where
  pub few : length rules ≤ 64
  pub body : (i : ℕ) (r : Rule) → At rules i r → SmallSide r.body
  pub head : (i : ℕ) (r : Rule) → At rules i r → SmallSide r.head
  pub numbered : (i : ℕ) (r : Rule) → At rules i r → Numbered r
