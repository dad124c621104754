-- Example sets of rules, and what the definitions say of them.
use Rattle.std.specs.Prelude.{ℕ, List, [], ◌∷◌}
use Rattle.theory.specs.declared.class.Class.TheVariants.{WeaklyGuarded, WeaklyAcyclic}
use Rattle.theory.specs.Rules.{Atom, Rule}
use Rattle.theory.specs.Edges.{Infinite, Rank}
use Rattle.theory.specs.Classes.{Belongs}

abbrev pub atom : ℕ → List ℕ → Atom
atom p vs = record { predicate = p; columns = vs }

abbrev pub rule : List Atom → List Atom → Rule
rule body head = record { body = body; head = head }

-- card(p) -> entry(p,h)
abbrev pub enters : Rule
enters = rule (atom 0 (0 ∷ []) ∷ []) (atom 1 (0 ∷ 1 ∷ []) ∷ [])

-- entry(p,h) -> card(h)
abbrev pub holder : Rule
holder = rule (atom 1 (0 ∷ 1 ∷ []) ∷ []) (atom 0 (1 ∷ []) ∷ [])

-- seat(x) -> seat(y)
abbrev pub seats : Rule
seats = rule (atom 0 (0 ∷ []) ∷ []) (atom 0 (1 ∷ []) ∷ [])

-- s(x) -> t(y)   t(y),u(y) -> v(y)   v(a),v(b) -> v(a)
abbrev pub half_affected : List Rule
half_affected = rule (atom 0 (0 ∷ []) ∷ []) (atom 1 (1 ∷ []) ∷ []) ∷ rule (atom 1 (0 ∷ []) ∷ atom 2 (0 ∷ []) ∷ []) (atom 3 (0 ∷ []) ∷ []) ∷ rule (atom 3 (0 ∷ []) ∷ atom 3 (1 ∷ []) ∷ []) (atom 3 (0 ∷ []) ∷ []) ∷ []

pub record Examples : Type 0 where
  -- no special edge leads from a variable that the head lacks
  pub no_frontier : Belongs WeaklyAcyclic (seats ∷ [])
  -- no position is affected through a variable with one affected body position of several
  pub one_of_several : Belongs WeaklyGuarded half_affected
  -- the special edge from card[1] to entry[2] is the most on a walk to entry[2]
  pub rank_one : Rank (enters ∷ []) 5 1
  -- card[1] lies on a closed walk with that edge
  pub infinite : Infinite (enters ∷ holder ∷ []) 0
