-- A witness that fits a class refutes it.
use Rattle.std.proofs.Common.{◌≡◌, ℕ, zero, suc, List, [], ◌∷◌, length, sym, refl, subst, inr, ⊎_elim, arith}
use Rattle.theory.specs.declared.class.Class.{Class}
use Rattle.theory.specs.declared.class.Class.TheVariants.{Linear, Guarded, WeaklyGuarded, Acyclic, WeaklyAcyclic, Sticky, WeaklySticky}
use Rattle.graphs.specs.declared.step.Step.{Step}
use Rattle.lists.specs.Places.{At}
use Rattle.lists.proofs.Numbered.{at_below}
use Rattle.lists.proofs.Elements.{at_some}
use Rattle.graphs.specs.Walks.{Walk}
use Rattle.theory.specs.Rules.{Rule}
use Rattle.theory.specs.Edges.{PositionStep, Infinite}
use Rattle.theory.specs.Marks.{Marked, first_mark, mark_passed, Affected, first_affected, affected_through}
use Rattle.theory.specs.Classes.{GuardedFor}
use Rattle.theory.specs.Witness.{MarkNumber, PassesMark, NoGuard, Listed, ListsAffected, SpecialCycle, MarksUpTo, ReachesAll}
use Rattle.theory.specs.Laws.{Refutes}

-- no atom guards what the steps name
no_guard : (V W : Rule → ℕ → Type 0) (rules : List Rule) (w : List Step) → ((r : Rule) (v : ℕ) → W r v → V r v) → NoGuard W rules w → GuardedFor V rules → ⊥
no_guard V W rules w only n g =
    let (k, a, here, all) = g n.number n.rule n.stands in
    let (s, there) = at_some w k (omega (arith, at_below n.rule.body k a here, n.each)) in
    let l = n.lacks k s there in
    l.0.lacks a here (all s.to l.0.variable (only n.rule s.to l.1))

-- what is listed is affected
pub listed_affected : (rules : List Rule) (w : List Step) → ListsAffected rules w → (n q : ℕ) → Listed w n q → Affected rules q
listed_affected rules w l zero q (k, s, h, here, e) = absurd (omega arith)
listed_affected rules w l (suc n) q (k, s, h, here, e) =
    let before : (p : ℕ) → Listed w n p → Affected rules p = λ p t. listed_affected rules w l n p t in
    subst (Affected rules) e
    (⊎_elim
    (λ b. first_affected s.rule b.affects)
    (λ p. affected_through s.rule s.from p.carries (λ p' c. let t = p.after p' c in before p' (t.0, t.1, omega (arith, t.2), t.3, t.4)))
    (l.each k s here))

-- a mark's number tells its rule and variable
pub same_mark : (rules : List Rule) (m i v j u : ℕ) → MarkNumber m i v → MarkNumber m j u → Marked rules i v → Marked rules j u
same_mark rules m i v j u a b h =
    let e : i ≡ j = omega arith in
    let f : v ≡ u = omega arith in
    subst (λ y. Marked rules j y) f (subst (λ x. Marked rules x v) e h)

-- what a walk of marks comes to is marked
marks_on : (rules : List Rule) (w : List Step) (p q i v j u : ℕ) → MarkNumber p i v → Marked rules i v → Walk (PassesMark rules) p w q → MarkNumber q j u → Marked rules j u
marks_on rules [] p q i v j u a h e b = same_mark rules q i v j u (subst (λ m. MarkNumber m i v) e a) b h
marks_on rules (s ∷ w) p q i v j u a h (pass, e, walk) b =
    let (k, x, y, c, d, step) = pass.marks in
    let here = same_mark rules s.from i v k x (subst (λ m. MarkNumber m i v) (sym e) a) c h in
    marks_on rules w s.to q s.rule y j u d (mark_passed k x here step) walk b

pub marks_up : (rules : List Rule) (w : List Step) (i v : ℕ) → MarksUpTo rules i v w → Marked rules i v
marks_up rules [] i v h = absurd h
marks_up rules (s ∷ w) i v (begin, m, a, walk, _) =
    let (x, b, f) = begin.marks in
    marks_on rules w s.to m s.rule x i v b (first_mark f) walk a

-- a walk from a special cycle ends at an infinite position
pub from_cycle : (rules : List Rule) (s : Step) (c u : List Step) (p : ℕ) → SpecialCycle rules (s ∷ c) → Walk (PositionStep rules) s.to u p → Infinite rules p
from_cycle rules s c u p h walk = record {
  cycle = s ∷ c;
  closed = h.1;
  special = (0, s, refl, h.0.0);
  out = (0, s, s ∷ u, refl, (inr h.0, refl, walk));
}

pub reached_infinite : (rules : List Rule) (ps : List ℕ) (w : List Step) → ReachesAll rules ps w → (i p : ℕ) → At ps i p → Infinite rules p
reached_infinite rules [] w h i p here = absurd here
reached_infinite rules (q ∷ ps) w (s, c, u, rest, e, cycle, simple, more) zero p here = subst (Infinite rules) here (from_cycle rules s c u q cycle simple.walk)
reached_infinite rules (q ∷ ps) w (s, c, u, rest, e, cycle, simple, more) (suc i) p here = reached_infinite rules ps rest more i p here

pub cycle_infinite : (rules : List Rule) (w : List Step) → SpecialCycle rules w → (p : ℕ) × Infinite rules p
cycle_infinite rules [] h = absurd h
cycle_infinite rules (s ∷ c) h = (s.to, from_cycle rules s c [] s.to h refl)

pub refutes : (class : Class) → Refutes class
refutes Linear rules w (s, e, two) b = let (r, here, many) = two.many in omega (arith, b s.rule r here, many)
refutes Guarded rules w n b = no_guard _ _ rules w (λ r v h. h) n b
refutes WeaklyGuarded rules w (x, y, e, l, n) b = no_guard _ _ rules y (λ r v only p here. listed_affected rules x l (length x) p (only p here)) n b
refutes Acyclic rules w c b = b w c
refutes WeaklyAcyclic rules w c b = let (p, i) = cycle_infinite rules w c in b p i
refutes Sticky rules w (r, v, m) b = b m.number v r m.stands (marks_up rules w m.number v m.marked) m.repeated
refutes WeaklySticky rules w (r, v, x, y, ps, e, m, rise, reach) b =
    let (p, here, finite) = b m.number v r m.stands (marks_up rules x m.number v m.marked) m.repeated in
    let (i, there) = rise.all p here in
    finite (reached_infinite rules ps y reach i p there)
