-- The least set of the system of positions is that of the affected positions.
use Rattle.std.proofs.Common.{◌≡◌, ℕ, ◌+◌, ◌*◌, ◌/◌, ◌%◌, ◌<◌, Bool, false, List, [], map, length, get_or, Some, None, Decides, Option, sym, refl, ap, ◌∙◌, subst, arith}
use Rattle.std.proofs.Math.ListN.{length-map}
use Rattle.std.specs.List.{slice_get}
use Rattle.lists.specs.Places.{At}
use Rattle.lists.proofs.Numbered.{at_same, at_below, at_get, get_at}
use Rattle.theory.specs.Rules.{Rule, Stands, SmallSide}
use Rattle.theory.specs.Marks.{Affected, first_affected, affected_through}
use Rattle.theory.proofs.Positions.{stands_small}
use Rattle.rules.specs.declared.rule.Rule as memory
use Rattle.rules.specs.Views.{plain_rule}
use Rattle.rules.proofs.Smallness.{rule_small}
use Rattle.fixpoint.specs.Least.{Derived, by_first, by_step, Found}
use Rattle.fixpoint.specs.Steps.{Step}
use Rattle.theory.specs.Occurrences.{occurrence_of, Is, positions_of}
use Rattle.dependencies.specs.Affecting.{FirstOf, needs_through, needs_in, needs_of, leads_through, leads_in, leads_of, Affections}
use Rattle.lists.proofs.Elements.{at_nth, nth_at}
use Rattle.theory.proofs.Occurring.{stands_number, number_stands, stands_in}
use Rattle.theory.proofs.Positions.{positions_has, positions_only, positions_some}

module _ (rules : List Rule) (n : ℕ) (long : n ≡ 16 * length rules) (small : (i : ℕ) (r : Rule) → At rules i r → SmallSide r.body × SmallSide r.head) where
  abbrev Reached : ℕ → Type 0
  Reached p = Derived 128 (FirstOf rules) (Step (record { count = n; needs = needs_of rules; leads = leads_of rules })) p

  is_some : (o : Option (ℕ × ℕ)) (v p : ℕ) → Is o v p → o ≡ Some (v, p)
  is_some None v p h = absurd h
  is_some (Some (u, q)) v p (e, f) = ap (λ (x : ℕ). Some (x, q)) e ∙ ap (λ (x : ℕ). Some (v, x)) f

  -- the step of head occurrence m of rule i
  step_of : (i m v p : ℕ) (r : Rule) → At rules i r → m < 16 → Is (occurrence_of r.head m) v p → (s : ℕ) × (s < n) × (needs_of rules s ≡ positions_of r.body v) × (leads_of rules s ≡ p)
  step_of i m v p r here l o =
      let s : ℕ = 16 * i + m in
      let q : s / 16 ≡ i = omega arith in
      let t : s % 16 ≡ m = omega arith in
      let b = at_below rules i r here in
      let found : slice_get rules (s / 16) ≡ Some r = ap (slice_get rules) q ∙ at_nth rules i r here in
      let head : occurrence_of r.head (s % 16) ≡ Some (v, p) = ap (occurrence_of r.head) t ∙ is_some (occurrence_of r.head m) v p o in
      (s, omega arith, ap (needs_in (s % 16)) found ∙ ap (needs_through r) head, ap (leads_in (s % 16)) found ∙ ap leads_through head)

  affected_reached : {p : ℕ} → Affected rules p → Reached p
  affected_reached {p} (first_affected i (r, e, here, x, t)) = by_first (stands_small r.head e p (small i r here).1 t) (i, (r, e, here, x, t))
  affected_reached {p} (affected_through i v (r, here, front, t) before) =
      let (m, l, o) = stands_number r.head v p (small i r here).1 t in
      let (s, b, e, f) = step_of i m v p r here l o in
      let ps : List ℕ = positions_of r.body v in
      let later : (k : ℕ) → k < length ps → Reached (get_or ps k 0) = λ k h. affected_reached (before (get_or ps k 0) (r, here, positions_only r.body v k (get_or ps k 0) (get_at ps k 0 h))) in
      by_step ps (stands_small r.head v p (small i r here).1 t) (s, b, e, f, positions_some r.body v (small i r here).0 front.0) later

  -- a step that waits for something is one of a head occurrence
  through : (s p : ℕ) (ps : List ℕ) → needs_of rules s ≡ ps → leads_of rules s ≡ p → 0 < length ps → ((k : ℕ) → k < length ps → Affected rules (get_or ps k 0)) → Affected rules p
  through s p ps e f some earlier = by_rule (slice_get rules (s / 16)) refl
    where
      none : needs_of rules s ≡ [] → ⊥
      none g = let h = ap (λ (qs : List ℕ). length qs) (sym e ∙ g) in omega arith

      by_occurrence : (r : Rule) → slice_get rules (s / 16) ≡ Some r → (o : Option (ℕ × ℕ)) → occurrence_of r.head (s % 16) ≡ o → Affected rules p
      by_occurrence r found None head = absurd (none (ap (needs_in (s % 16)) found ∙ ap (needs_through r) head))
      by_occurrence r found (Some (v, q)) head =
          let here = nth_at rules (s / 16) r found in
          let same : ps ≡ positions_of r.body v = sym e ∙ (ap (needs_in (s % 16)) found ∙ ap (needs_through r) head) in
          let to : q ≡ p = sym (ap (leads_in (s % 16)) found ∙ ap leads_through head) ∙ f in
          let stands : Stands r.head v p = number_stands r.head (s % 16) v p (subst (λ (o : Option (ℕ × ℕ)). Is o v p) (sym head) (refl, to)) in
          let first : At (positions_of r.body v) 0 (get_or (positions_of r.body v) 0 0) = get_at (positions_of r.body v) 0 0 (subst (λ (qs : List ℕ). 0 < length qs) same some) in
          affected_through (s / 16) v
          (r, here, (stands_in r.body v (get_or (positions_of r.body v) 0 0) (positions_only r.body v 0 (get_or (positions_of r.body v) 0 0) first), stands_in r.head v p stands), stands)
          (λ x (t, there, body).
          let own = subst (λ (y : Rule). Stands y.body v x) (at_same rules (s / 16) t r there here) body in
          let (k, at_k) = positions_has r.body v (small (s / 16) r here).0 x own in
          let in_ps : At ps k x = subst (λ (qs : List ℕ). At qs k x) (sym same) at_k in
          subst (Affected rules) (at_get ps k x 0 in_ps) (earlier k (at_below ps k x in_ps)))

      by_rule : (o : Option Rule) → slice_get rules (s / 16) ≡ o → Affected rules p
      by_rule None found = absurd (none (ap (needs_in (s % 16)) found))
      by_rule (Some r) found = by_occurrence r found (occurrence_of r.head (s % 16)) refl

  reached_affected : {p : ℕ} → Reached p → Affected rules p
  reached_affected (by_first l (i, f)) = first_affected i f
  reached_affected {p} (by_step ps l (s, b, e, f, some) before) = through s p ps e f some (λ k h. reached_affected (before k h))

  affected_within : {p : ℕ} → Affected rules p → p < 128
  affected_within {p} (first_affected i (r, e, here, x, t)) = stands_small r.head e p (small i r here).1 t
  affected_within {p} (affected_through i v (r, here, front, t) before) = stands_small r.head v p (small i r here).1 t

-- the table of the rounds
pub affections : (rules : List memory.Rule) (rounds : List ℕ) (table : List Bool) → Found 128 (FirstOf (map plain_rule rules)) (Step (record { count = 16 * length rules; needs = needs_of (map plain_rule rules); leads = leads_of (map plain_rule rules) })) rounds
    → length table ≡ 128 → ((k : ℕ) → k < 128 → Decides (get_or table k false) (0 < get_or rounds k 0)) → Affections (map plain_rule rules) table
affections rules rounds table found long each = record {
  long = long;
  exact = λ p l. (
    (λ e. reached_affected (map plain_rule rules) (16 * length rules) count (rule_small rules) (found.sound p ((each p l).0 e))),
    λ a. (each p l).1 (found.complete p (affected_reached (map plain_rule rules) (16 * length rules) count (rule_small rules) a)),
  );
  within = λ p a. affected_within (map plain_rule rules) (16 * length rules) count (rule_small rules) a;
}
  where
    count : 16 * length rules ≡ 16 * length (map plain_rule rules)
    count = let l = length-map rules plain_rule in omega arith
