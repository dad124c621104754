-- What the atoms and sides of a line that is read spell.
use Rattle.std.specs.Prelude.{◌≡◌, ℕ, ◌<◌, ◌≤◌, ◌⊎◌, List, [], ◌∷◌, ◌++◌, map, length, Some, None, Ok, Err, Option, Result}
use Rattle.std.specs.Borrow.{Bor}
use Rattle.bounded.specs.Bounded.{items}
use Rattle.bounded.specs.declared.Full.{Full}
use Rattle.lists.specs.Parts.{Part}
use Rattle.lists.specs.Places.{At}
use Rattle.tokens.specs.Tokens.{Token}
use Rattle.tokens.specs.Tokens.Kind.{word}
use Rattle.tokens.specs.declared.token.Word.{Word}
use Rattle.patterns.specs.Patterns.{Written}
use Rattle.patterns.specs.declared.atom.Atom.{Atom}
use Rattle.patterns.specs.declared.atom.Side.{Side}

-- a word as the definitions have it, and what an atom and a side of such words spell
abbrev pub word_of : Word → Token
word_of w = record { kind = word; place = w.place; text = w.text.now }

abbrev pub written : Atom → Written
written a = record { predicate = word_of a.predicate; words = map word_of (items a.words) }

abbrev pub side_of : Side → List Written
side_of d = map written (items d.atoms)

-- the word's text is the line's own memory at its place
abbrev pub PartOf : Bor (List ℕ) → Word → Type 0
PartOf line w = Part line w.text w.place (length w.text.now)

-- so are all words of the atom, and of the side
pub record AtomPartOf (line : Bor (List ℕ)) (a : Atom) : Type 0 where
  pub predicate : PartOf line a.predicate
  pub words : (j : ℕ) (w : Word) → At (items a.words) j w → PartOf line w

abbrev pub SidePartOf : Bor (List ℕ) → Side → Type 0
SidePartOf line d = (k : ℕ) (a : Atom) → At (items d.atoms) k a → AtomPartOf line a

-- no more than four atoms, of no more than four words
pub record FewIn (d : Side) : Type 0 where
  pub atoms : length (items d.atoms) ≤ 4
  pub words : (k : ℕ) (a : Atom) → At (items d.atoms) k a → length (items a.words) ≤ 4

-- the last atom; or there is none
abbrev pub Last : Side → Option Atom → Type 0
Last d None = items d.atoms ≡ []
Last d (Some a) = (before : List Atom) × (items d.atoms ≡ before ++ (a ∷ []))

-- one word more; or, if there were four, none
abbrev pub Pushed : Atom → Word → Atom → Result (Unit {0}) Full → Type 0
Pushed a w b (Ok u) = (b.predicate ≡ a.predicate) × (items b.words ≡ items a.words ++ (w ∷ [])) × (length (items a.words) < 4)
Pushed a w b (Err e) = (b ≡ a) × (4 ≤ length (items a.words))

-- one atom more; or, if there were four, none
abbrev pub Begun : Side → Word → Side → Result (Unit {0}) Full → Type 0
Begun d p e (Ok u) = (a : Atom) × (items e.atoms ≡ items d.atoms ++ (a ∷ [])) × (a.predicate ≡ p) × (items a.words ≡ []) × (length (items d.atoms) < 4)
Begun d p e (Err x) = (e ≡ d) × (4 ≤ length (items d.atoms))

-- the word is pushed to the last atom
pub record AddedLast (d : Side) (w : Word) (e : Side) (r : Result (Unit {0}) Full) : Type 0 where
  pub before : List Atom
  pub old : Atom
  pub new : Atom
  pub was : items d.atoms ≡ before ++ (old ∷ [])
  pub is : items e.atoms ≡ before ++ (new ∷ [])
  pub pushed : Pushed old w new r

-- the word is pushed to the last atom, if there is one
abbrev pub Added : Side → Word → Side → Result (Unit {0}) Full → Type 0
Added d w e r = ((items d.atoms ≡ []) × (e ≡ d) × (r ≡ Ok tt)) ⊎ AddedLast d w e r
