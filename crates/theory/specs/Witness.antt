-- Witnesses: the lists of steps that show that a set of rules does not belong to a class.
use Rattle.std.specs.Prelude.{◌≡◌, ℕ, ◌+◌, ◌*◌, ◌<◌, ◌≤◌, ◌⊎◌, List, [], ◌∷◌, ◌++◌, length}
use Rattle.lists.specs.Places.{At, Once}
use Rattle.graphs.specs.declared.step.Step.{Step}
use Rattle.graphs.specs.Walks.{Walk, Simple, Closed, tos}
use Rattle.theory.specs.declared.class.Class.{Class}
use Rattle.theory.specs.declared.class.Class.TheVariants.{Linear, Guarded, WeaklyGuarded, Acyclic, WeaklyAcyclic, Sticky, WeaklySticky}
use Rattle.theory.specs.Rules.{Atom, Rule, Has, BodyVariable, BodyPosition, Repeated}
use Rattle.theory.specs.Edges.{PredicateStep, SpecialStep, PositionStep}
use Rattle.theory.specs.Marks.{FirstMark, MarkPasses, FirstAffected, Carries, Carried}

-- kind 1: the rule has two body atoms or more
pub record TwoAtoms (rules : List Rule) (s : Step) : Type 0 where
  pub kind : s.kind ≡ 1
  pub many : (r : Rule) × At rules s.rule r × (2 ≤ length r.body)
  pub unnamed : (s.from ≡ 0) × (s.to ≡ 0)

-- kind 2: body atom k, named by `from`, of rule i lacks the body variable `to`
pub record Lacks (i : ℕ) (r : Rule) (k : ℕ) (s : Step) : Type 0 where
  pub kind : s.kind ≡ 2
  pub rule : s.rule ≡ i
  pub from : s.from ≡ k
  pub variable : BodyVariable r s.to
  pub lacks : (a : Atom) → At r.body k a → Has a s.to → ⊥

-- m is the number of the mark on variable v of rule i
abbrev pub MarkNumber : ℕ → ℕ → ℕ → Type 0
MarkNumber m i v = (v < 16) × (m ≡ 16 * i + v)

-- kind 6: `to` is a first mark
pub record BeginsMark (rules : List Rule) (s : Step) : Type 0 where
  pub kind : s.kind ≡ 6
  pub unnamed : s.from ≡ 0
  pub marks : (v : ℕ) × MarkNumber s.to s.rule v × FirstMark rules s.rule v

-- kind 7: the mark passes from `from` to `to`
pub record PassesMark (rules : List Rule) (s : Step) : Type 0 where
  pub kind : s.kind ≡ 7
  pub marks : (j : ℕ) × (u : ℕ) × (v : ℕ) × MarkNumber s.from j u × MarkNumber s.to s.rule v × MarkPasses rules j u s.rule v

-- kind 8: `to` is a first affected position
pub record BeginsAffected (rules : List Rule) (s : Step) : Type 0 where
  pub kind : s.kind ≡ 8
  pub unnamed : s.from ≡ 0
  pub affects : FirstAffected rules s.rule s.to

-- kind 9: the position `to` is affected through the variable `from`, all of whose body positions satisfy `before`
pub record PassesAffected (rules : List Rule) (before : ℕ → Type 0) (s : Step) : Type 0 where
  pub kind : s.kind ≡ 9
  pub carries : Carries rules s.rule s.from s.to
  pub after : (q : ℕ) → Carried rules s.rule s.from q → before q

-- a step of kind 2 for each body atom of one rule, in order, each with a variable that satisfies W
pub record NoGuard (W : Rule → ℕ → Type 0) (rules : List Rule) (w : List Step) : Type 0 where
  pub number : ℕ
  pub rule : Rule
  pub stands : At rules number rule
  pub each : length w ≡ length rule.body
  pub lacks : (k : ℕ) (s : Step) → At w k s → Lacks number rule k s × W rule s.to

-- the position q is the `to` of one of the first n steps
abbrev pub Listed : List Step → ℕ → ℕ → Type 0
Listed w n q = (k : ℕ) × (s : Step) × (k < n) × At w k s × (s.to ≡ q)

-- steps of kinds 8 and 9, no `to` twice, each 9 after all body positions of its variable
pub record ListsAffected (rules : List Rule) (w : List Step) : Type 0 where
  pub each : (k : ℕ) (s : Step) → At w k s → BeginsAffected rules s ⊎ PassesAffected rules (Listed w k) s
  pub once : Once (tos w)

-- a closed walk between positions, a special edge first
abbrev pub SpecialCycle : List Rule → List Step → Type 0
SpecialCycle rules [] = ⊥
SpecialCycle rules (s ∷ w) = SpecialStep rules s × Closed (PositionStep rules) (s ∷ w)

-- a step of kind 6 and then those of kind 7, each from the mark before it, no mark twice, up to the mark on variable v of rule i
abbrev pub MarksUpTo : List Rule → ℕ → ℕ → List Step → Type 0
MarksUpTo rules i v [] = ⊥
MarksUpTo rules i v (s ∷ w) = BeginsMark rules s × (m : ℕ) × MarkNumber m i v × Walk (PassesMark rules) s.to w m × Once (tos (s ∷ w))

-- such a list up to the mark on a variable v that occurs twice or more in the body of its rule r
pub record MarksRepeated (rules : List Rule) (w : List Step) (r : Rule) (v : ℕ) : Type 0 where
  pub number : ℕ
  pub stands : At rules number r
  pub repeated : Repeated r v
  pub marked : MarksUpTo rules number v w

-- for each of the positions in turn: a special cycle, and a simple walk from its first step's `to` to the position
abbrev pub ReachesAll : List Rule → List ℕ → List Step → Type 0
ReachesAll rules [] w = w ≡ []
ReachesAll rules (p ∷ ps) w =
    (s : Step) × (c : List Step) × (u : List Step) × (rest : List Step) × (w ≡ (s ∷ c) ++ (u ++ rest)) × SpecialCycle rules (s ∷ c)
    × Simple (PositionStep rules) s.to u p × ReachesAll rules ps rest

-- the numbers that satisfy P, in rising order
pub record Rising (P : ℕ → Type 0) (ps : List ℕ) : Type 0 where
  pub rising : (i j p q : ℕ) → i < j → At ps i p → At ps j q → p < q
  pub only : (i p : ℕ) → At ps i p → P p
  pub all : (p : ℕ) → P p → (i : ℕ) × At ps i p

-- the list of steps fits the class: it shows that the rules do not belong to it
abbrev pub Fits : Class → List Rule → List Step → Type 0
Fits Linear rules w = (s : Step) × (w ≡ s ∷ []) × TwoAtoms rules s
Fits Guarded rules w = NoGuard (λ r v. Unit {0}) rules w
Fits WeaklyGuarded rules w =
    (a : List Step) × (b : List Step) × (w ≡ a ++ b) × ListsAffected rules a × NoGuard (λ r v. (q : ℕ) → BodyPosition r v q → Listed a (length a) q) rules b
Fits Acyclic rules w = Closed (PredicateStep rules) w
Fits WeaklyAcyclic rules w = SpecialCycle rules w
Fits Sticky rules w = (r : Rule) × (v : ℕ) × MarksRepeated rules w r v
Fits WeaklySticky rules w =
    (r : Rule) × (v : ℕ) × (a : List Step) × (b : List Step) × (ps : List ℕ) × (w ≡ a ++ b) × MarksRepeated rules a r v × Rising (BodyPosition r v) ps × ReachesAll rules ps b
