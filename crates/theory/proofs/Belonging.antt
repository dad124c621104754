-- Tests that compute, and each shows that a set of rules belongs to a class. Where a class speaks of a least set, the test is given a set that has it;
-- where it speaks of walks, it is given levels that never fall along an edge.
use Rattle.std.proofs.Common.{◌≡◌, ℕ, zero, suc, ◌+◌, ◌<◌, ◌≤◌, Bool, true, false, cond, not, ◌&&◌, ◌||◌, eqb, ltb, leb, List, [], ◌∷◌, get_or, sym, refl, ap, subst, inl, inr, ⊎_elim, arith}
use Rattle.std.proofs.lemmas.Bool.{and_parts, and_from, or_cases, eqb-true, eq-eqb, ltb-true, leb-true, both_ways, not_from_true}
use Rattle.theory.specs.declared.class.Class.TheVariants.{WeaklyGuarded, WeaklyAcyclic}
use Rattle.graphs.specs.declared.step.Step.{Step}
use Rattle.lists.specs.Places.{At}
use Rattle.graphs.specs.Walks.{Walk, Returns, Special, specials}
use Rattle.theory.specs.Rules.{Atom, Rule, Stands}
use Rattle.theory.specs.Edges.{NormalStep, SpecialStep, PositionStep, Rank}
use Rattle.theory.specs.Marks.{Affected, first_affected, affected_through}
use Rattle.theory.specs.Classes.{Belongs, GuardedFor, OnlyAffected}
use Rattle.theory.proofs.Steps.{special_step}
use Rattle.theory.proofs.Tests.{when, when_use, when_from, all, all_at, some, some_at, among, among_at, has, occurs, occurs_from, absent, everywhere, everywhere_at, everywhere_from}

-- guarded, for the variables that pass the test f
abbrev guards : (Rule → ℕ → Bool) → Rule → Atom → Bool
guards f r a = all (λ k b. all (λ c v. when (f r v) (has a v)) b.columns) r.body

abbrev guarded_for : (Rule → ℕ → Bool) → List Rule → Bool
guarded_for f rules = all (λ i r. some (guards f r) r.body) rules

is_guarded_for : (V : Rule → ℕ → Type 0) (f : Rule → ℕ → Bool) (rules : List Rule) → ((r : Rule) (v : ℕ) → V r v → f r v ≡ true) → guarded_for f rules ≡ true → GuardedFor V rules
is_guarded_for V f rules all_v h i r here =
    let (k, a, there, g) = some_at (guards f r) r.body (all_at (λ i' r'. some (guards f r') r'.body) rules h i r here) in (
      k,
      a,
      there,
      λ v t w.
          let (l, c, o) = t in
          let at_atom = all_at (λ l' b. all (λ c' v'. when (f r v') (has a v')) b.columns) r.body g l o.0 o.1 in
          let at_column = all_at (λ c' v'. when (f r v') (has a v')) o.0.columns at_atom c v o.2 in
          among_at v a.columns (when_use (f r v) (has a v) at_column (all_v r v w)),
    )

-- all positions of v in the atoms are in the list ps
abbrev only_in : List ℕ → List Atom → ℕ → Bool
only_in ps atoms v = everywhere (λ u p. when (eqb u v) (among p ps)) atoms

only_in_from : (ps : List ℕ) (atoms : List Atom) (v : ℕ) → ((p : ℕ) → Stands atoms v p → among p ps ≡ true) → only_in ps atoms v ≡ true
only_in_from ps atoms v h =
    everywhere_from (λ u p. when (eqb u v) (among p ps)) atoms (λ u p t. when_from (eqb u v) (among p ps) (λ e. h p (subst (λ x. Stands atoms x p) (eqb-true u v e) t)))

-- the list ps has every affected position
abbrev holds_affected : List ℕ → List Rule → Bool
holds_affected ps rules = all (λ i r. everywhere (λ v p. among p ps || (occurs r.body v && not (only_in ps r.body v))) r.head) rules

module _ (ps : List ℕ) (rules : List Rule) (h : holds_affected ps rules ≡ true) where
  head_position : (i : ℕ) (r : Rule) (v p : ℕ) → At rules i r → Stands r.head v p → (occurs r.body v && not (only_in ps r.body v)) ≡ false → among p ps ≡ true
  head_position i r v p here t n =
      ⊎_elim (λ e. e) (λ e. absurd (both_ways _ n e))
      (or_cases (among p ps) (occurs r.body v && not (only_in ps r.body v))
      (everywhere_at (λ v' p'. among p' ps || (occurs r.body v' && not (only_in ps r.body v'))) r.head
      (all_at (λ i' r'. everywhere (λ v' p'. among p' ps || (occurs r'.body v' && not (only_in ps r'.body v'))) r'.head) rules h i r here) v p t))

  affected_in : {p : ℕ} → Affected rules p → among p ps ≡ true
  affected_in {p} (first_affected i (r, e, here, x, t)) = head_position i r e p here t (ap (λ b. b && not (only_in ps r.body e)) (absent r.body e x.1))
  affected_in {p} (affected_through i v (r, here, f, t) before) =
      let inside = only_in_from ps r.body v (λ q s. affected_in (before q (r, here, s))) in
      head_position i r v p here t (and_false (occurs r.body v) (only_in ps r.body v) inside)
    where
      and_false : (a b : Bool) → b ≡ true → (a && not b) ≡ false
      and_false true b e = not_from_true b e
      and_false false b e = refl

abbrev pub weakly_guarded : List ℕ → List Rule → Bool
weakly_guarded ps rules = holds_affected ps rules && guarded_for (λ r v. only_in ps r.body v) rules

pub is_weakly_guarded : (ps : List ℕ) (rules : List Rule) → weakly_guarded ps rules ≡ true → Belongs WeaklyGuarded rules
is_weakly_guarded ps rules h =
    let (a, b) = and_parts (holds_affected ps rules) (guarded_for (λ r v. only_in ps r.body v) rules) h in
    is_guarded_for (OnlyAffected rules) (λ r v. only_in ps r.body v) rules (λ r v t. only_in_from ps r.body v (λ p s. affected_in ps rules a (t p s))) b

-- weakly acyclic: each position has a level, no normal edge falls, and every special edge rises
abbrev lifts : List ℕ → Rule → ℕ → ℕ → ℕ → ℕ → Bool
lifts ls r v p u q = when (eqb u v) (leb (get_or ls p 0) (get_or ls q 0)) && when (occurs r.head v && not (occurs r.body u)) (ltb (get_or ls p 0) (get_or ls q 0))

abbrev pub weakly_acyclic : List ℕ → List Rule → Bool
weakly_acyclic ls rules = all (λ i r. everywhere (λ v p. everywhere (λ u q. lifts ls r v p u q) r.head) r.body) rules

module _ (ls : List ℕ) (rules : List Rule) (h : weakly_acyclic ls rules ≡ true) where
  lifted : (i : ℕ) (r : Rule) (v p u q : ℕ) → At rules i r → Stands r.body v p → Stands r.head u q → lifts ls r v p u q ≡ true
  lifted i r v p u q here s t =
      let one = all_at (λ i' r'. everywhere (λ v' p'. everywhere (λ u' q'. lifts ls r' v' p' u' q') r'.head) r'.body) rules h i r here in
      let two = everywhere_at (λ v' p'. everywhere (λ u' q'. lifts ls r v' p' u' q') r.head) r.body one v p s in
      everywhere_at (λ u' q'. lifts ls r v p u' q') r.head two u q t

  normal_up : (s : Step) → NormalStep rules s → get_or ls s.from 0 ≤ get_or ls s.to 0
  normal_up s (_, r, here, (v, a, b)) =
      let one = (and_parts (when (eqb v v) (leb (get_or ls s.from 0) (get_or ls s.to 0))) _ (lifted s.rule r v s.from v s.to here a b)).0 in
      leb-true _ _ (when_use (eqb v v) _ one (eq-eqb v v refl))

  special_up : (s : Step) → SpecialStep rules s → get_or ls s.from 0 < get_or ls s.to 0
  special_up s (_, r, here, (v, e, f, a, x, b)) =
      let one = (and_parts (when (eqb e v) (leb (get_or ls s.from 0) (get_or ls s.to 0))) _ (lifted s.rule r v s.from e s.to here a b)).1 in
      let both : (occurs r.head v && not (occurs r.body e)) ≡ true = and_from _ _ (occurs_from r.head v f.1) (ap not (absent r.body e x.1)) in
      ltb-true _ _ (when_use (occurs r.head v && not (occurs r.body e)) _ one both)

  position_up : (s : Step) → PositionStep rules s → get_or ls s.from 0 ≤ get_or ls s.to 0
  position_up s (inl n) = normal_up s n
  position_up s (inr x) = let k = special_up s x in omega arith

  -- a walk never falls, and rises if it has a special edge
  pub never_falls : (w : List Step) (p q : ℕ) → Walk (PositionStep rules) p w q → get_or ls p 0 ≤ get_or ls q 0
  never_falls [] p q e = let same = ap (λ x. get_or ls x 0) e in omega arith
  never_falls (s ∷ w) p q (step, e, walk) =
      let one = position_up s step in
      let same = ap (λ x. get_or ls x 0) e in
      let more = never_falls w s.to q walk in
      omega arith

  rises_once : (w : List Step) (p q k : ℕ) (s : Step) → Walk (PositionStep rules) p w q → At w k s → Special s → get_or ls p 0 < get_or ls q 0
  rises_once [] p q k s walk here x = absurd here
  rises_once (t ∷ w) p q zero s (step, e, walk) here x =
      let one = special_up t (special_step rules t (subst Special (sym here) x) step) in
      let same = ap (λ y. get_or ls y 0) e in
      let more = never_falls w t.to q walk in
      omega arith
  rises_once (t ∷ w) p q (suc k) s (step, e, walk) here x =
      let one = position_up t step in
      let same = ap (λ y. get_or ls y 0) e in
      let more = rises_once w t.to q k s walk here x in
      omega arith

  no_special_cycle : (w : List Step) (k : ℕ) (s : Step) → Returns (PositionStep rules) w → At w k s → Special s → ⊥
  no_special_cycle [] k s c here x = c
  no_special_cycle (t ∷ w) k s (step, walk) here x = omega (arith, rises_once (t ∷ w) t.from t.from k s (step, refl, walk) here x)

  pub is_weakly_acyclic : Belongs WeaklyAcyclic rules
  is_weakly_acyclic p i = let (k, s, here, x) = i.special in no_special_cycle i.cycle k s i.closed.0 here x

  -- a walk rises by its special edges
  kind_counts : (k n : ℕ) → k ≡ n → ◌≡◌ {A = ℕ} (cond (eqb k 5) 1 0) (cond (eqb n 5) 1 0)
  kind_counts k n e = ap {B = ℕ} (λ x. cond (eqb x 5) 1 0) e

  counts : (s : Step) → PositionStep rules s → get_or ls s.from 0 + cond (eqb s.kind 5) 1 0 ≤ get_or ls s.to 0
  counts s (inl n) = omega (arith, normal_up s n, kind_counts s.kind 4 n.0)
  counts s (inr x) = omega (arith, special_up s x, kind_counts s.kind 5 x.0)

  climbs_by : (w : List Step) (p q : ℕ) → Walk (PositionStep rules) p w q → get_or ls p 0 + specials w ≤ get_or ls q 0
  climbs_by [] p q e = let same = ap (λ x. get_or ls x 0) e in omega arith
  climbs_by (s ∷ w) p q (step, e, walk) =
      let one = counts s step in
      let same = ap (λ x. get_or ls x 0) e in
      let more = climbs_by w s.to q walk in
      omega arith

  pub is_rank : (p n q : ℕ) (w : List Step) → get_or ls p 0 ≡ n → Walk (PositionStep rules) q w p → specials w ≡ n → Rank rules p n
  is_rank p n q w e walk f = record { some = (q, w, walk, f); most = λ q' w' walk'. omega (arith, climbs_by w' q' p walk') }
