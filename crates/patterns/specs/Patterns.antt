-- The patterns of rule lines and fact lines, and what a line of tokens writes.
use Rattle.std.specs.Prelude.{◌≡◌, ℕ, suc, ◌≤◌, ◌⊎◌, List, [], ◌∷◌, ◌++◌, length, take}
use Rattle.lists.specs.Places.{At}
use Rattle.tokens.specs.Tokens.{Kind, Token, Tokens}
use Rattle.tokens.specs.Tokens.Kind.{word, bars, arrow, opens, closes, comma, stop}
use Rattle.patterns.specs.declared.state.Form.{Form}
use Rattle.patterns.specs.declared.state.Form.TheVariants as forms

-- an atom as it is written: a predicate and the words in its brackets
pub record Written : Type 0 where
  pub predicate : Token
  pub words : List Token

-- what a line writes: label||| body -> head.   or one atom and a full stop
pub data Line : Type 0 where
  rule_line : (label : Token) (body head : List Written) → Line
  fact_line : (atom : Written) → Line

abbrev pub Is : Kind → Token → Type 0
Is k t = t.kind ≡ k

-- the tokens begin with the words, parted by commas, and a closing bracket; `rest` is left
abbrev pub Bracketed : List Token → List Token → List Token → Type 0
Bracketed [] ts rest = ⊥
Bracketed (w ∷ []) ts rest = (z : Token) × Is word w × Is closes z × (ts ≡ w ∷ z ∷ rest)
Bracketed (w ∷ v ∷ ws) ts rest = (z : Token) × (more : List Token) × Is word w × Is comma z × (ts ≡ w ∷ z ∷ more) × Bracketed (v ∷ ws) more rest

-- the tokens begin with the atom: its predicate, an opening bracket, and the words
abbrev pub OneAtom : Written → List Token → List Token → Type 0
OneAtom a ts rest = (z : Token) × (more : List Token) × Is word a.predicate × Is opens z × (ts ≡ a.predicate ∷ z ∷ more) × Bracketed a.words more rest

-- the tokens begin with the atoms, parted by commas
abbrev pub Atoms : List Written → List Token → List Token → Type 0
Atoms [] ts rest = ⊥
Atoms (a ∷ []) ts rest = OneAtom a ts rest
Atoms (a ∷ b ∷ bs) ts rest = (z : Token) × (more : List Token) × Is comma z × OneAtom a ts (z ∷ more) × Atoms (b ∷ bs) more rest

-- the tokens begin with the label and three bars
abbrev pub Label : Token → List Token → List Token → Type 0
Label label ts rest = (z : Token) × Is word label × Is bars z × (ts ≡ label ∷ z ∷ rest)

-- the tokens follow the pattern of the form, and write the line
abbrev pub Follow : Form → List Token → Line → Type 0
Follow forms.Rule ts (rule_line label body head) =
    (xs : List Token) × (y : Token) × (ys : List Token) × (z : Token) × Label label ts xs × Atoms body xs (y ∷ ys) × Is arrow y × Atoms head ys (z ∷ []) × Is stop z
Follow forms.Rule ts (fact_line atom) = ⊥
Follow forms.Fact ts (rule_line label body head) = ⊥
Follow forms.Fact ts (fact_line atom) = (z : Token) × OneAtom atom ts (z ∷ []) × Is stop z

-- the line of bytes has this form and writes l
abbrev pub Writes : Form → List ℕ → Line → Type 0
Writes form s l = (ts : List Token) × Tokens s ts × Follow form ts l

-- some tokens behind these complete the pattern
abbrev pub Completes : Form → List Token → Type 0
Completes form ts = (more : List Token) × (l : Line) × Follow form (ts ++ more) l

-- the token at p is the first that cannot stand there: what is before it can be completed, and with it no more
pub record Misplaced (form : Form) (ts : List Token) (p : ℕ) : Type 0 where
  pub number : ℕ
  pub token : Token
  pub here : At ts number token
  pub place : p ≡ token.place
  pub before : Completes form (take number ts)
  pub stuck : Completes form (take (suc number) ts) → ⊥

-- all the tokens can be completed but are not complete, and p is the line's length
pub record Early (form : Form) (s : List ℕ) (ts : List Token) (p : ℕ) : Type 0 where
  pub going : Completes form ts
  pub short : (l : Line) → Follow form ts l → ⊥
  pub place : p ≡ length s

-- the tokens break the pattern at p
abbrev pub Breaks : Form → List ℕ → List Token → ℕ → Type 0
Breaks form s ts p = Misplaced form ts p ⊎ Early form s ts p

-- the sides of a line
abbrev pub sides : Line → List (List Written)
sides (rule_line label body head) = body ∷ head ∷ []
sides (fact_line atom) = (atom ∷ []) ∷ []

-- w is one too many in the atom at number k of a side: the predicate of a fifth atom or a later one, or a fifth word in brackets or a later one
abbrev pub Over : ℕ → Written → Token → Type 0
Over k a w = ((4 ≤ k) × (a.predicate ≡ w)) ⊎ ((j : ℕ) × At a.words j w × (4 ≤ j))

abbrev pub Extra : List (List Written) → Token → Type 0
Extra xss w = (n : ℕ) × (side : List Written) × (k : ℕ) × (a : Written) × At xss n side × At side k a × Over k a w

-- a word too many of a line
abbrev pub TooMany : Line → Token → Type 0
TooMany l w = Extra (sides l) w
