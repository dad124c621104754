-- What fits a class is short.
use Rattle.std.proofs.Common.{◌≡◌, ℕ, zero, suc, ◌+◌, ◌*◌, ◌<◌, ◌≤◌, List, [], ◌∷◌, ◌++◌, length, refl, ap, subst, inl, inr, ⊎_elim, arith, length-append}
use Rattle.std.proofs.Math.ListN.{length-map}
use Rattle.std.proofs.lemmas.Bool.{cases_order}
use Rattle.theory.specs.declared.class.Class.{Class}
use Rattle.theory.specs.declared.class.Class.TheVariants.{Linear, Guarded, WeaklyGuarded, Acyclic, WeaklyAcyclic, Sticky, WeaklySticky}
use Rattle.graphs.specs.declared.step.Step.{Step}
use Rattle.lists.specs.Places.{At, Once}
use Rattle.lists.proofs.Numbered.{at_same, at_below}
use Rattle.lists.proofs.Mapped.{at_map}
use Rattle.lists.proofs.Pigeons.{few}
use Rattle.graphs.specs.Walks.{Walk, tos}
use Rattle.graphs.proofs.Shortness.{walks_short}
use Rattle.theory.specs.Rules.{Atom, Rule, Stands, BodyPosition, SmallSide, Small}
use Rattle.theory.specs.Edges.{PredicateStep, PositionStep}
use Rattle.theory.specs.Witness.{NoGuard, ListsAffected, BeginsMark, PassesMark, MarksUpTo, SpecialCycle, ReachesAll, Rising}
use Rattle.theory.specs.Laws.{Short}
use Rattle.theory.proofs.Positions.{stands_small}

module _ (rules : List Rule) (small : Small rules) where
  position_from : (s : Step) → PositionStep rules s → s.from < 128
  position_from s (inl (_, r, here, (v, a, b))) = stands_small r.body v s.from (small.body s.rule r here) a
  position_from s (inr (_, r, here, (v, e, f, a, x, b))) = stands_small r.body v s.from (small.body s.rule r here) a

  predicate_from : (s : Step) → PredicateStep rules s → s.from < 32
  predicate_from s (_, r, here, (k, l, a, b, at_a, at_b, e, f)) = omega (arith, (small.body s.rule r here).predicate k a at_a)

  passes_to : (s : Step) → PassesMark rules s → s.to < 1024
  passes_to s p =
      let (j, u, v, m, n, (r, _, _, _, _, _, here, _, _, _, _, _, _)) = p.marks in
      omega (arith, small.few, at_below rules s.rule r here, n.0, n.1)

  begins_to : (s : Step) → BeginsMark rules s → s.to < 1024
  begins_to s p =
      let (v, n, (r, _, _, here, _, _, _)) = p.marks in
      omega (arith, small.few, at_below rules s.rule r here, n.0, n.1)

-- the numbers on a walk are as small as those of its steps
walk_tos : (P : Step → Type 0) (n : ℕ) → ((s : Step) → P s → s.to < n) → (w : List Step) (p q : ℕ) → Walk P p w q → (i x : ℕ) → At (tos w) i x → x < n
walk_tos P n h [] p q walk i x here = absurd here
walk_tos P n h (s ∷ w) p q (step, e, walk) zero x here = subst (λ y. y < n) here (h s step)
walk_tos P n h (s ∷ w) p q (step, e, walk) (suc i) x here = walk_tos P n h w s.to q walk i x here

guard_few : (W : Rule → ℕ → Type 0) (rules : List Rule) → Small rules → (w : List Step) → NoGuard W rules w → length w ≤ 4
guard_few W rules small w n = omega (arith, n.each, (small.body n.number n.rule n.stands).few)

affected_few : (rules : List Rule) → Small rules → (w : List Step) → ListsAffected rules w → length w ≤ 128
affected_few rules small w l = omega (arith, few 128 (tos w) below l.once, length-map w (λ (x : Step). x.to))
  where
    here_small : (s : Step) (k : ℕ) → At w k s → s.to < 128
    here_small s k here =
        ⊎_elim
        (λ b. let (r, e, there, x, t) = b.affects in stands_small r.head e s.to (small.head s.rule r there) t)
        (λ p. let (r, there, f, t) = p.carries in stands_small r.head s.from s.to (small.head s.rule r there) t)
        (l.each k s here)

    below : (i x : ℕ) → At (tos w) i x → x < 128
    below i x here = let (s, there, e) = at_map (λ (s : Step). s.to) w i x here in subst (λ y. y < 128) e (here_small s i there)

marks_few : (rules : List Rule) → Small rules → (i v : ℕ) (w : List Step) → MarksUpTo rules i v w → length w ≤ 1024
marks_few rules small i v [] h = omega arith
marks_few rules small i v (s ∷ w) (begin, m, number, walk, once) =
    omega (arith, few 1024 (tos (s ∷ w)) below once, length-map w (λ (x : Step). x.to))
  where
    below : (i x : ℕ) → At (tos (s ∷ w)) i x → x < 1024
    below zero x here = subst (λ y. y < 1024) here (begins_to rules small s begin)
    below (suc i) x here = walk_tos (PassesMark rules) 1024 (passes_to rules small) w s.to m walk i x here

special_few : (rules : List Rule) → Small rules → (w : List Step) → SpecialCycle rules w → length w ≤ 128
special_few rules small [] h = omega arith
special_few rules small (s ∷ w) h = (walks_short (PositionStep rules) 128 (position_from rules small)).closed (s ∷ w) h.1

-- 255 steps for each position
reaches_few : (rules : List Rule) → Small rules → (ps : List ℕ) (w : List Step) → ((i p : ℕ) → At ps i p → p < 128) → ReachesAll rules ps w → length w ≤ 255 * length ps
reaches_few rules small [] w below e = omega (arith, ap (λ (x : List Step). length x) e)
reaches_few rules small (p ∷ ps) w below (s, c, u, rest, e, cycle, simple, more) =
    omega (
      arith,
      ap (λ (x : List Step). length x) e,
      length-append c (u ++ rest),
      length-append u rest,
      special_few rules small (s ∷ c) cycle,
      (walks_short (PositionStep rules) 128 (position_from rules small)).simple s.to p u (below 0 p refl) simple,
      reaches_few rules small ps rest (λ i q here. below (suc i) q here) more,
    )

-- a variable has at most 16 body positions: each has an occurrence, numbered 4 × atom + column
module _ (atoms : List Atom) (v : ℕ) where
  codes : (ps : List ℕ) → ((i p : ℕ) → At ps i p → Stands atoms v p) → List ℕ
  codes [] h = []
  codes (p ∷ ps) h = (4 * (h 0 p refl).0 + (h 0 p refl).1) ∷ codes ps (λ i q here. h (suc i) q here)

  codes_length : (ps : List ℕ) (h : (i p : ℕ) → At ps i p → Stands atoms v p) → length (codes ps h) ≡ length ps
  unfolding codes
  codes_length [] h = refl
  codes_length (p ∷ ps) h = ap suc (codes_length ps (λ i q here. h (suc i) q here))

  codes_at : (ps : List ℕ) (h : (i p : ℕ) → At ps i p → Stands atoms v p) (i x : ℕ) → At (codes ps h) i x → (p : ℕ) × At ps i p × (s : Stands atoms v p) × (4 * s.0 + s.1 ≡ x)
  unfolding codes
  codes_at [] h i x here = absurd here
  codes_at (p ∷ ps) h zero x here = (p, refl, h 0 p refl, here)
  codes_at (p ∷ ps) h (suc i) x here = codes_at ps (λ j q there. h (suc j) q there) i x here

  -- one occurrence has one position
  same_position : (p q x : ℕ) → SmallSide atoms → (s : Stands atoms v p) → (t : Stands atoms v q) → 4 * s.0 + s.1 ≡ x → 4 * t.0 + t.1 ≡ x → p ≡ q
  same_position p q x small (k, c, a, here, there, e) (l, d, b, here', there', f) g g' =
      let cs = at_below a.columns c v there in
      let ds = at_below b.columns d v there' in
      let ca = small.columns k a here in
      let cb = small.columns l b here' in
      let kl : k ≡ l = omega arith in
      let cd : c ≡ d = omega arith in
      let ab : a ≡ b = at_same atoms l a b (subst (λ j. At atoms j a) kl here) here' in
      let pr = ap (λ (y : Atom). y.predicate) ab in
      omega arith

positions_few : (r : Rule) (v : ℕ) (ps : List ℕ) → SmallSide r.body → Rising (BodyPosition r v) ps → length ps ≤ 16
positions_few r v ps small rise =
    omega (arith, few 16 (codes r.body v ps rise.only) below once, codes_length r.body v ps rise.only)
  where
    below : (i x : ℕ) → At (codes r.body v ps rise.only) i x → x < 16
    below i x here =
        let (p, there, (k, c, a, at_a, at_v, e), f) = codes_at r.body v ps rise.only i x here in
        omega (arith, at_below r.body k a at_a, small.few, at_below a.columns c v at_v, small.columns k a at_a)

    once : Once (codes r.body v ps rise.only)
    once i j x a b =
        let (p, at_p, s, e) = codes_at r.body v ps rise.only i x a in
        let (q, at_q, t, f) = codes_at r.body v ps rise.only j x b in
        let same = same_position r.body v p q x small s t e f in
        ⊎_elim (λ g. g)
        (⊎_elim (λ l. absurd (omega (arith, same, rise.rising i j p q l at_p at_q))) (λ l. absurd (omega (arith, same, rise.rising j i q p l at_q at_p))))
        (cases_order i j)

pub short : (class : Class) → Short class
short Linear rules w small (s, e, two) = omega (arith, ap (λ (x : List Step). length x) e)
short Guarded rules w small n = omega (arith, guard_few _ rules small w n)
short WeaklyGuarded rules w small (x, y, e, l, n) = omega (arith, ap (λ (z : List Step). length z) e, length-append x y, affected_few rules small x l, guard_few _ rules small y n)
short Acyclic rules w small c = omega (arith, (walks_short (PredicateStep rules) 32 (predicate_from rules small)).closed w c)
short WeaklyAcyclic rules w small c = omega (arith, special_few rules small w c)
short Sticky rules w small (r, v, m) = omega (arith, marks_few rules small m.number v w m.marked)
short WeaklySticky rules w small (r, v, x, y, ps, e, m, rise, reach) =
    let side = small.body m.number r m.stands in
    omega (
      arith,
      ap (λ (z : List Step). length z) e,
      length-append x y,
      marks_few rules small m.number v x m.marked,
      positions_few r v ps side rise,
      reaches_few rules small ps y (λ i p here. stands_small r.body v p side (rise.only i p here)) reach,
    )
