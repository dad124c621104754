-- What the predicates and variables that are kept spell, and what the calls on them do.
use Rattle.std.specs.Prelude.{◌≡◌, ℕ, ◌≤◌, List, [], ◌∷◌, ◌++◌, map, length, Some, None, Ok, Err, Option, Result, ◌≢◌}
use Rattle.bounded.specs.Bounded.{items}
use Rattle.bounded.specs.declared.Full.{Full}
use Rattle.lists.specs.Places.{At, Holds, First, FirstAt}
use Rattle.lists.specs.Joins.{Joined}
use Rattle.rules.specs.Names.{text_of}
use Rattle.naming.specs.Meaning as plain
use Rattle.naming.specs.declared.predicate.Predicate.{Predicate}
use Rattle.naming.specs.declared.predicate.Predicates.{Predicates}
use Rattle.naming.specs.declared.variable.Variables.{Variables}

abbrev pub plain_predicate : Predicate → plain.Predicate
plain_predicate p = record { name = text_of p.name; columns = p.columns }

abbrev pub predicates_of : Predicates → List plain.Predicate
predicates_of t = map plain_predicate (items t.list)

-- the predicate of this number; or there is none
abbrev pub Gets : List plain.Predicate → ℕ → Option Predicate → Type 0
Gets known i None = length known ≤ i
Gets known i (Some p) = At known i (plain_predicate p)

-- the number of the first predicate of this name; or there is none
abbrev pub Finds : List plain.Predicate → List ℕ → Option ℕ → Type 0
Finds known name None = (i : ℕ) (p : plain.Predicate) → At known i p → p.name ≢ name
Finds known name (Some i) = (p : plain.Predicate) × First (λ x. x.name ≡ name) known i p

-- the first predicate of this name, with its number; or there is none
abbrev pub Named : List plain.Predicate → List ℕ → Option (ℕ × Predicate) → Type 0
Named known name None = (i : ℕ) (p : plain.Predicate) → At known i p → p.name ≢ name
Named known name (Some r) = First (λ x. x.name ≡ name) known r.0 (plain_predicate r.1)

-- one predicate more; or, if there were 40, none
abbrev pub Grows : Predicates → Predicate → Predicates → Result (Unit {0}) Full → Type 0
Grows t p u (Ok x) = predicates_of u ≡ predicates_of t ++ (plain_predicate p ∷ [])
Grows t p u (Err e) = (u ≡ t) × (40 ≤ length (predicates_of t))

-- the texts of the variables that are numbered
abbrev pub names_of : Variables → List (List ℕ)
names_of v = map (λ t. t.now) (items v.texts)

-- the number of the first name that is this text; or there is none
abbrev pub FindsWord : List (List ℕ) → List ℕ → Option ℕ → Type 0
FindsWord names text None = Holds names text → ⊥
FindsWord names text (Some i) = FirstAt names i text

-- the text has this number among the names, to which it is joined; or there were 32, and nothing changes
abbrev pub Numbered : List (List ℕ) → List ℕ → List (List ℕ) → Result ℕ Full → Type 0
Numbered before text after (Ok n) = Joined before (text ∷ []) after × FirstAt after n text
Numbered before text after (Err e) = (32 ≤ length before) × (after ≡ before)
