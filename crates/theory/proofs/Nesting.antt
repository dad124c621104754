-- Which class lies in which.
use Rattle.std.proofs.Common.{◌≡◌, ℕ, ◌/◌, List, [], ◌∷◌, map, refl, ap, subst, inl, inr, arith}
use Rattle.theory.specs.declared.class.Class.TheVariants.{Linear, Guarded, Acyclic, WeaklyAcyclic, Sticky, WeaklySticky}
use Rattle.graphs.specs.declared.step.Step.{Step}
use Rattle.lists.specs.Places.{At}
use Rattle.lists.proofs.Numbered.{at_same, at_below}
use Rattle.lists.proofs.Elements.{at_some}
use Rattle.graphs.specs.Walks.{Walk, Returns}
use Rattle.graphs.proofs.Shortening.{walks_simple}
use Rattle.theory.specs.Rules.{Atom, Rule, Stands, SmallSide, Small, position}
use Rattle.theory.specs.Edges.{PredicateStep, PositionStep}
use Rattle.theory.specs.Classes.{Belongs}
use Rattle.theory.specs.Laws.{ClassesNest, AcyclicReturns}

linear_guarded : (rules : List Rule) → Small rules → Belongs Linear rules → Belongs Guarded rules
linear_guarded rules small b i r here =
    let (a, at_a) = at_some r.body 0 (small.body i r here).some in (
      0,
      a,
      at_a,
      λ v t _.
          let (k, c, (x, at_x, at_v)) = t in
          let zero_k : k ≡ 0 = omega (arith, at_below r.body k x at_x, b i r here) in
          (c, subst (λ y. At y.columns c v) (at_same r.body 0 x a (subst (λ j. At r.body j x) zero_k at_x) at_a) at_v),
    )

pub acyclic_returns : AcyclicReturns
acyclic_returns rules b [] r = r
acyclic_returns rules b (s ∷ w) r = let (c, closed) = (walks_simple (PredicateStep rules)).closed (s ∷ w) 0 s r refl in b (s ∷ c) closed

-- either makes a set weakly sticky
sticky_weakly : (rules : List Rule) → Belongs Sticky rules → Belongs WeaklySticky rules
sticky_weakly rules b i v r here m twice = absurd (b i v r here m twice)

acyclic_sticky : (rules : List Rule) → Belongs WeaklyAcyclic rules → Belongs WeaklySticky rules
acyclic_sticky rules b i v r here m (k, c, l, d, (a, at_a, at_v), _, _) = (position a c, (k, c, a, at_a, at_v, refl), b (position a c))

-- an edge between positions is one between their predicates
abbrev lowered : Step → Step
lowered s = record { kind = 3; rule = s.rule; from = s.from / 4; to = s.to / 4 }

predicate_of : (atoms : List Atom) (v p : ℕ) → SmallSide atoms → Stands atoms v p → (k : ℕ) × (a : Atom) × At atoms k a × (a.predicate ≡ p / 4)
predicate_of atoms v p small (k, c, a, here, there, e) = (k, a, here, omega (arith, at_below a.columns c v there, small.columns k a here))

module _ (rules : List Rule) (small : Small rules) where
  lower_edge : (s : Step) (r : Rule) (v u : ℕ) → At rules s.rule r → Stands r.body v s.from → Stands r.head u s.to → PredicateStep rules (lowered s)
  lower_edge s r v u here a b =
      let (k, x, at_x, e) = predicate_of r.body v s.from (small.body s.rule r here) a in
      let (l, y, at_y, f) = predicate_of r.head u s.to (small.head s.rule r here) b in
      (refl, r, here, (k, l, x, y, at_x, at_y, e, f))

  lower : (s : Step) → PositionStep rules s → PredicateStep rules (lowered s)
  lower s (inl (_, r, here, (v, a, b))) = lower_edge s r v v here a b
  lower s (inr (_, r, here, (v, e, f, a, x, b))) = lower_edge s r v e here a b

  lower_walk : (w : List Step) (p q : ℕ) → Walk (PositionStep rules) p w q → Walk (PredicateStep rules) (p / 4) (map lowered w) (q / 4)
  lower_walk [] p q e = ap (λ (x : ℕ). x / 4) e
  lower_walk (s ∷ w) p q (step, e, walk) = (lower s step, ap (λ (x : ℕ). x / 4) e, lower_walk w s.to q walk)

  lower_returns : (w : List Step) → Returns (PositionStep rules) w → Returns (PredicateStep rules) (map lowered w)
  lower_returns [] c = c
  lower_returns (s ∷ w) (step, walk) = (lower s step, lower_walk w s.to s.from walk)

  acyclic_weakly : Belongs Acyclic rules → Belongs WeaklyAcyclic rules
  acyclic_weakly b p i = acyclic_returns rules b (map lowered i.cycle) (lower_returns i.cycle i.closed.0)

pub classes_nest : ClassesNest
classes_nest rules small = record {
  linear_guarded = linear_guarded rules small;
  guarded_weakly = λ b i r here. let (k, a, there, all) = b i r here in (k, a, there, λ v t _. all v t tt);
  acyclic_weakly = acyclic_weakly rules small;
  sticky_weakly = sticky_weakly rules;
  weakly_acyclic_sticky = acyclic_sticky rules;
}
