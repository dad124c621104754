-- The affected positions as a system of numbered steps: step 16 × i + m leads to the position of head occurrence m of rule i, from all body positions of its variable.
use Rattle.std.specs.Prelude.{◌≡◌, ℕ, ◌/◌, ◌%◌, ◌<◌, Bool, false, List, [], length, Some, None, Decides, Option, slice_index_or}
use Rattle.std.specs.List.{slice_get}
use Rattle.theory.specs.Rules.{Rule, Existential, HeadPosition}
use Rattle.theory.specs.Marks.{FirstAffected, Affected}
use Rattle.theory.specs.Occurrences.{occurrence_of, positions_of}

-- p is a head position of an existential variable of some rule
abbrev pub FirstOf : List Rule → ℕ → Type 0
FirstOf rules p = (i : ℕ) × FirstAffected rules i p

-- what the step of a head occurrence of the rule waits for; nothing, and so it never comes, if there is no such occurrence or its variable is existential
abbrev pub needs_through : Rule → Option (ℕ × ℕ) → List ℕ
needs_through r None = []
needs_through r (Some o) = positions_of r.body o.0

-- the same for head occurrence m of the rule that was looked up
abbrev pub needs_in : ℕ → Option Rule → List ℕ
needs_in m None = []
needs_in m (Some r) = needs_through r (occurrence_of r.head m)

-- what step s waits for
abbrev pub needs_of : List Rule → ℕ → List ℕ
needs_of rules s = needs_in (s % 16) (slice_get rules (s / 16))

-- where the step of a head occurrence leads; past the 128 positions if there is no such occurrence
abbrev pub leads_through : Option (ℕ × ℕ) → ℕ
leads_through None = 128
leads_through (Some o) = o.1

-- the same for head occurrence m of the rule that was looked up
abbrev pub leads_in : ℕ → Option Rule → ℕ
leads_in m None = 128
leads_in m (Some r) = leads_through (occurrence_of r.head m)

-- where step s leads
abbrev pub leads_of : List Rule → ℕ → ℕ
leads_of rules s = leads_in (s % 16) (slice_get rules (s / 16))

-- p is a head position of an existential variable of the rule
abbrev pub FirstIn : Rule → ℕ → Type 0
FirstIn r p = (e : ℕ) × Existential r e × HeadPosition r e p

-- the table says of each of the 128 positions whether it is affected; no other is
pub record Affections (rules : List Rule) (table : List Bool) : Type 0 where
  pub long : length table ≡ 128
  pub exact : (p : ℕ) → p < 128 → Decides (slice_index_or table p false) (Affected rules p)
  pub within : (p : ℕ) → Affected rules p → p < 128
