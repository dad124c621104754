-- How the reader's state and tables stand for a draft of the pattern machine.
use Rattle.std.specs.Prelude.{◌≡◌, ℕ, ◌≤◌, ◌⊎◌, List, [], ◌∷◌, ◌++◌, Some, None, Ok, Err, Option, Result, MatchOption, MatchResult, ◌≢◌}
use Rattle.std.specs.Borrow.{Bor}
use Rattle.questions.specs.declared.question.Refusal.{Refusal}
use Rattle.questions.specs.declared.question.Question.TheVariants.{Pattern, Counts}
use Rattle.tokens.specs.Tokens as plain
use Rattle.tokens.specs.Tokens.{Kind, token_at}
use Rattle.tokens.specs.Lexing.{kind_of, place_of, Is}
use Rattle.tokens.specs.declared.token.Token.{Token}
use Rattle.patterns.specs.Patterns.{Written, Line, Extra}
use Rattle.patterns.specs.Patterns.Line.{rule_line, fact_line}
use Rattle.patterns.specs.Machine as machine
use Rattle.patterns.specs.Machine.{Context, Draft, by_kind, atom_of, step}
use Rattle.patterns.specs.Machine.Side.{body, head}
use Rattle.patterns.specs.Machine.Context.{in_side, in_fact}
use Rattle.patterns.specs.Machine.Draft.{at_label, at_bars, at_name, at_open, at_word, at_more, after, after_fact, done}
use Rattle.patterns.specs.declared.state.Section.{Section}
use Rattle.patterns.specs.declared.state.Section.TheVariants.{Body, Head, Fact}
use Rattle.patterns.specs.declared.state.State.{State}
use Rattle.patterns.specs.declared.state.State.TheVariants as state
use Rattle.tokens.specs.declared.token.Word.{Word}
use Rattle.bounded.specs.declared.Full.{Full}
use Rattle.patterns.specs.declared.reader.Tables.{Tables}
use Rattle.patterns.specs.declared.reader.Reader.{Reader}
use Rattle.patterns.specs.Tables.{word_of, side_of, PartOf, SidePartOf, FewIn}

-- the state after a token of kind k; the columns are word, bars, arrow, opens, closes, comma, stop
abbrev pub go : State → Kind → Option State
go state.Label k = by_kind k (Some state.Bars) None None None None None None
go state.Bars k = by_kind k None (Some (state.Name Body)) None None None None None
go (state.Name p) k = by_kind k (Some (state.Open p)) None None None None None None
go (state.Open p) k = by_kind k None None None (Some (state.Word p)) None None None
go (state.Word p) k = by_kind k (Some (state.More p)) None None None None None None
go (state.More p) k = by_kind k None None None None (Some (state.After p)) (Some (state.Word p)) None
go (state.After Body) k = by_kind k None None (Some (state.Name Head)) None None (Some (state.Name Body)) None
go (state.After Head) k = by_kind k None None None None None (Some (state.Name Head)) (Some state.Done)
go (state.After Fact) k = by_kind k None None None None None None (Some state.Done)
go state.Done k = None

-- the state of a draft
abbrev pub section_of_side : machine.Side → Section
section_of_side (body l) = Body
section_of_side (head l b) = Head

abbrev pub section_of : Context → Section
section_of (in_side s before) = section_of_side s
section_of in_fact = Fact

abbrev pub state_of : Draft → State
state_of at_label = state.Label
state_of (at_bars l) = state.Bars
state_of (at_name c) = state.Name (section_of c)
state_of (at_open c p) = state.Open (section_of c)
state_of (at_word c p ws) = state.Word (section_of c)
state_of (at_more c p ws) = state.More (section_of c)
state_of (after s as_read) = state.After (section_of_side s)
state_of (after_fact a) = state.After Fact
state_of (done l) = state.Done

-- the words that a draft has: its label, and two lists of atoms, the last of which may be unfinished
pub record Parts : Type 0 where
  pub label : List plain.Token
  pub first : List Written
  pub second : List Written

abbrev pub side_parts : machine.Side → List Written → Parts
side_parts (body l) as_read = record { label = l ∷ []; first = as_read; second = [] }
side_parts (head l b) as_read = record { label = l ∷ []; first = b; second = as_read }

abbrev pub no_parts : Parts
no_parts = record { label = []; first = []; second = [] }

abbrev pub one_atom : Written → Parts
one_atom a = record { label = []; first = a ∷ []; second = [] }

abbrev pub before_atom : Context → Parts
before_atom (in_side s before) = side_parts s before
before_atom in_fact = no_parts

abbrev pub with_atom : Context → Written → Parts
with_atom (in_side s before) a = side_parts s (before ++ (a ∷ []))
with_atom in_fact a = one_atom a

abbrev pub line_parts : Line → Parts
line_parts (rule_line l b h) = record { label = l ∷ []; first = b; second = h }
line_parts (fact_line a) = one_atom a

abbrev pub parts : Draft → Parts
parts at_label = no_parts
parts (at_bars l) = record { label = l ∷ []; first = []; second = [] }
parts (at_name c) = before_atom c
parts (at_open c p) = with_atom c (atom_of p [])
parts (at_word c p ws) = with_atom c (atom_of p ws)
parts (at_more c p ws) = with_atom c (atom_of p ws)
parts (after s as_read) = side_parts s as_read
parts (after_fact a) = one_atom a
parts (done l) = line_parts l

-- one word more in the last atom
abbrev pub push_word : List Written → plain.Token → List Written
push_word [] t = []
push_word (a ∷ []) t = atom_of a.predicate (a.words ++ (t ∷ [])) ∷ []
push_word (a ∷ b ∷ more) t = a ∷ push_word (b ∷ more) t

-- what a word makes of the parts, by the state in which it comes
abbrev pub set_first : Parts → List Written → Parts
set_first x as_read = record { label = x.label; first = as_read; second = x.second }

abbrev pub set_second : Parts → List Written → Parts
set_second x as_read = record { label = x.label; first = x.first; second = as_read }

abbrev pub grown : State → Parts → plain.Token → Parts
grown state.Label x t = record { label = t ∷ []; first = x.first; second = x.second }
grown state.Bars x t = x
grown (state.Name Body) x t = set_first x (x.first ++ (atom_of t [] ∷ []))
grown (state.Name Head) x t = set_second x (x.second ++ (atom_of t [] ∷ []))
grown (state.Name Fact) x t = set_first x (x.first ++ (atom_of t [] ∷ []))
grown (state.Open p) x t = x
grown (state.Word Body) x t = set_first x (push_word x.first t)
grown (state.Word Head) x t = set_second x (push_word x.second t)
grown (state.Word Fact) x t = set_first x (push_word x.first t)
grown (state.More p) x t = x
grown (state.After p) x t = x
grown state.Done x t = x

-- the tables hold the parts, in words that are the line's own memory
abbrev pub Labelled : Bor (List ℕ) → List plain.Token → Word → Type 0
Labelled line [] w = Unit {0}
Labelled line (l ∷ more) w = (word_of w ≡ l) × PartOf line w

pub record Keeps (line : Bor (List ℕ)) (tables : Tables) (x : Parts) : Type 0 where
  pub label : Labelled line x.label tables.label
  pub first : side_of tables.body ≡ x.first
  pub second : side_of tables.head ≡ x.second
  pub body_few : FewIn tables.body
  pub head_few : FewIn tables.head
  pub body_part : SidePartOf line tables.body
  pub head_part : SidePartOf line tables.head

-- a word too many among the parts
abbrev pub both : Parts → List (List Written)
both x = x.first ∷ x.second ∷ []

abbrev pub ExtraIn : Parts → plain.Token → Type 0
ExtraIn x w = Extra (both x) w

-- p is the first place of a word too many, and lies at or before the place at
pub record FirstExtra (x : Parts) (at p : ℕ) : Type 0 where
  pub word : plain.Token
  pub extra : ExtraIn x word
  pub place : p ≡ word.place
  pub least : (v : plain.Token) → ExtraIn x v → p ≤ v.place
  pub reached : p ≤ at

-- the tables hold the parts, or a word is too many
abbrev pub Held : Bor (List ℕ) → Tables → Option ℕ → Parts → ℕ → Type 0
Held line tables extra x at = MatchOption extra (Keeps line tables x) (λ p. FirstExtra x at p)

-- the reader stands for the draft of what lies before the place at
pub record Shows (line : Bor (List ℕ)) (r : Reader) (d : Draft) (at : ℕ) : Type 0 where
  pub state : r.state ≡ state_of d
  pub held : Held line r.tables r.extra (parts d) at

-- a word of the line is kept; or it is one too many
abbrev pub Kept : State → Word → Tables → Tables → Result (Unit {0}) Full → Type 0
Kept st w old new r = (line : Bor (List ℕ)) (x : Parts) → PartOf line w → Keeps line old x
    → MatchResult r (λ _. Keeps line new (grown st x (word_of w))) (λ _. ExtraIn (grown st x (word_of w)) (word_of w))

-- what a word of the line makes of what is held
abbrev pub Noted : State → Word → Reader → Reader → Type 0
Noted st w old new = (line : Bor (List ℕ)) (x : Parts) (at : ℕ) → PartOf line w → Held line old.tables old.extra x at → at ≤ w.place
    → Held line new.tables new.extra (grown st x (word_of w)) w.place

-- nothing changes but the state
pub record Same (old new : Reader) : Type 0 where
  pub tables : new.tables ≡ old.tables
  pub extra : new.extra ≡ old.extra

-- the state goes on, or the token cannot stand there
abbrev pub Advanced : Reader → Token → Reader → Result (Unit {0}) Refusal → Type 0
Advanced old t new (Ok u) = go old.state (kind_of t) ≡ Some new.state
Advanced old t new (Err x) = (go old.state (kind_of t) ≡ None) × (x.question ≡ Pattern) × (x.place ≡ place_of t)

-- the token is taken, and the draft goes on; or it cannot stand there
abbrev pub Fed : Reader → Token → Reader → Result (Unit {0}) Refusal → Type 0
Fed old t new (Ok u) = (line : Bor (List ℕ)) (d : Draft) (at a e : ℕ) → Shows line old d at → at ≤ a → Is line a e t
    → (f : Draft) × (step d (token_at line.now a e (kind_of t)) ≡ Some f) × Shows line new f e
Fed old t new (Err x) = (line : Bor (List ℕ)) (d : Draft) (at a e : ℕ) → Shows line old d at → at ≤ a → Is line a e t
    → (step d (token_at line.now a e (kind_of t)) ≡ None) × (x.question ≡ Pattern) × (x.place ≡ a)

-- the reader is done and hands out its tables; or the line of this length ended early, or a word is too many
abbrev pub Finished : Reader → ℕ → Result Tables Refusal → Type 0
Finished r len (Ok t) = (r.state ≡ state.Done) × (r.extra ≡ None) × (t ≡ r.tables)
Finished r len (Err e) =
    ((r.state ≢ state.Done) × (e.question ≡ Pattern) × (e.place ≡ len))
    ⊎ ((r.state ≡ state.Done) × (r.extra ≡ Some e.place) × (e.question ≡ Counts))
