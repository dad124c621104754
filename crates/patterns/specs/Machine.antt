-- The pattern as a state machine that keeps what it has read, and that it accepts exactly the pattern.
use Rattle.std.specs.Prelude.{◌≡◌, ◌↔◌, List, [], ◌∷◌, ◌++◌, Some, None, Option}
use Rattle.tokens.specs.Tokens.{Kind, Token}
use Rattle.tokens.specs.Tokens.Kind.{word, bars, arrow, opens, closes, comma, stop}
use Rattle.patterns.specs.Patterns.{Written, Line, Follow, Completes}
use Rattle.patterns.specs.declared.state.Form.{Form}
use Rattle.patterns.specs.Patterns.Line.{rule_line, fact_line}
use Rattle.patterns.specs.declared.state.Form.TheVariants as forms

-- the side of a rule that is being read, and what came before it
pub data Side : Type 0 where
  body : (label : Token) → Side
  head : (label : Token) (the_body : List Written) → Side

-- where an atom is being read: behind the atoms of a side, or as the one of a fact line
pub data Context : Type 0 where
  in_side : (s : Side) (before : List Written) → Context
  in_fact : Context

-- what has been read so far, named by what may come next
pub data Draft : Type 0 where
  at_label : Draft
  at_bars : (label : Token) → Draft
  at_name : (c : Context) → Draft
  at_open : (c : Context) (predicate : Token) → Draft
  at_word : (c : Context) (predicate : Token) (words : List Token) → Draft
  at_more : (c : Context) (predicate : Token) (words : List Token) → Draft
  after : (s : Side) (atoms : List Written) → Draft
  after_fact : (atom : Written) → Draft
  done : (l : Line) → Draft

abbrev pub start : Form → Draft
start forms.Rule = at_label
start forms.Fact = at_name in_fact

abbrev pub atom_of : Token → List Token → Written
atom_of p ws = record { predicate = p; words = ws }

-- the atom is complete
abbrev pub closed : Context → Written → Draft
closed (in_side s before) a = after s (before ++ (a ∷ []))
closed in_fact a = after_fact a

-- one of seven, by the kind of a token
abbrev pub by_kind : {A : Type 0} → Kind → A → A → A → A → A → A → A → A
by_kind word w b a o c m s = w
by_kind bars w b a o c m s = b
by_kind arrow w b a o c m s = a
by_kind opens w b a o c m s = o
by_kind closes w b a o c m s = c
by_kind comma w b a o c m s = m
by_kind stop w b a o c m s = s

-- what follows a draft on a token of kind k; the columns are word, bars, arrow, opens, closes, comma, stop
abbrev pub move : Draft → Token → Kind → Option Draft
move at_label t k = by_kind k (Some (at_bars t)) None None None None None None
move (at_bars l) t k = by_kind k None (Some (at_name (in_side (body l) []))) None None None None None
move (at_name c) t k = by_kind k (Some (at_open c t)) None None None None None None
move (at_open c p) t k = by_kind k None None None (Some (at_word c p [])) None None None
move (at_word c p ws) t k = by_kind k (Some (at_more c p (ws ++ (t ∷ [])))) None None None None None None
move (at_more c p ws) t k = by_kind k None None None None (Some (closed c (atom_of p ws))) (Some (at_word c p ws)) None
move (after (body l) as_read) t k = by_kind k None None (Some (at_name (in_side (head l as_read) []))) None None (Some (at_name (in_side (body l) as_read))) None
move (after (head l b) as_read) t k = by_kind k None None None None None (Some (at_name (in_side (head l b) as_read))) (Some (done (rule_line l b as_read)))
move (after_fact a) t k = by_kind k None None None None None None (Some (done (fact_line a)))
move (done l) t k = None

abbrev pub step : Draft → Token → Option Draft
step d t = move d t t.kind

abbrev pub and_then : {A B : Type 0} → Option A → (A → Option B) → Option B
and_then None f = None
and_then (Some x) f = f x

abbrev pub run : Draft → List Token → Option Draft
run d [] = Some d
run d (t ∷ ts) = and_then (step d t) (λ e. run e ts)

-- the machine accepts exactly what follows the pattern, with what that writes; and it goes on exactly as long as the tokens can be completed
pub record MachineExact (form : Form) : Type 0 where
  pub accepts : (ts : List Token) (l : Line) → (run (start form) ts ≡ Some (done l)) ↔ Follow form ts l
  pub goes_on : (ts : List Token) → ((d : Draft) × (run (start form) ts ≡ Some d)) ↔ Completes form ts
