-- The system of positions, step by step.
use Rattle.std.proofs.Common.{◌≡◌, ℕ, ◌<◌, Bool, List, map, length, get_or, Some, Decides, sym, refl, subst}
use Rattle.lists.proofs.Elements.{map_at}
use Rattle.lists.proofs.Mapped.{at_map}
use Rattle.lists.proofs.Numbered.{at_below, at_get, get_at}
use Rattle.theory.specs.Rules.{In}
use Rattle.theory.specs.Rules as plain
use Rattle.theory.specs.Occurrences.{positions_of}
use Rattle.theory.proofs.Occurring.{stands_in}
use Rattle.theory.proofs.Positions.{positions_some, positions_only}
use Rattle.rules.specs.declared.rule.Rule as memory
use Rattle.rules.specs.Views.{plain_side, plain_rule}
use Rattle.rules.proofs.Smallness.{side_small}
use Rattle.fixpoint.specs.Least.{FoundBy, Held}
use Rattle.fixpoint.specs.Steps.{Ready}
use Rattle.dependencies.specs.Affecting.{FirstOf, FirstIn, needs_through}
use Rattle.dependencies.specs.Occurring.{occurrences_of}
use Rattle.dependencies.proofs.Listing.{listed_stands, stands_listed}
use Rattle.dependencies.proofs.Looking.{SomeOf, EachOf}

-- the occurrence o of a head is at the position p, and its variable is not in the body
abbrev pub FirstAt : memory.Rule → ℕ → ℕ × ℕ → Type 0
FirstAt x p o = (o.1 ≡ p) × (In (plain_side x.body) o.0 → ⊥)

abbrev pub NotFirstAt : memory.Rule → ℕ → ℕ × ℕ → Type 0
NotFirstAt x p o = o.1 ≡ p → In (plain_side x.body) o.0

-- the first affected positions of one rule
pub first_in : (x : memory.Rule) (p : ℕ) (r : Bool) → Decides r (SomeOf (FirstAt x p) (occurrences_of (plain_side x.head))) → Decides r (FirstIn (plain_rule x) p)
first_in x p r h = ((λ t. found (h.0 t)), λ t. h.1 (back t))
  where
    found : SomeOf (FirstAt x p) (occurrences_of (plain_side x.head)) → FirstIn (plain_rule x) p
    found (k, o, here, (e, absent)) =
        let head = subst (λ q. plain.Stands (plain_side x.head) o.0 q) e (listed_stands (plain_side x.head) k o.0 o.1 here) in
        (o.0, (stands_in (plain_side x.head) o.0 p head, absent), head)

    back : FirstIn (plain_rule x) p → SomeOf (FirstAt x p) (occurrences_of (plain_side x.head))
    back (u, exists, head) = let (k, here) = stands_listed (plain_side x.head) (side_small x.head) u p head in (k, (u, p), here, (refl, exists.1))

-- and of all rules
pub first_of : (rules : List memory.Rule) (p : ℕ) (r : Bool) → Decides r (SomeOf (λ x. FirstIn (plain_rule x) p) rules) → Decides r (FirstOf (map plain_rule rules) p)
first_of rules p r h = ((λ t. found (h.0 t)), λ t. h.1 (back t))
  where
    found : SomeOf (λ x. FirstIn (plain_rule x) p) rules → FirstOf (map plain_rule rules) p
    found (i, x, here, (u, exists, head)) = (i, (plain_rule x, u, map_at plain_rule rules i x here, exists, head))

    back : FirstOf (map plain_rule rules) p → SomeOf (λ x. FirstIn (plain_rule x) p) rules
    back (i, (y, u, here, exists, head)) = let (x, there, e) = at_map plain_rule rules i y here in (i, x, there, subst (λ (z : plain.Rule). FirstIn z p) (sym e) (u, exists, head))

-- the positions of the occurrences os are found
pub held_each : (rounds : List ℕ) (before : ℕ) (os : List (ℕ × ℕ)) (r : Bool) → Decides r (EachOf (λ (o : ℕ × ℕ). FoundBy rounds before o.1) os) → Decides r (Held rounds before (map (λ (o : ℕ × ℕ). o.1) os))
held_each rounds before os r h = ((λ t. found (h.0 t)), λ t. h.1 (back t))
  where
    ps : List ℕ
    ps = map (λ (o : ℕ × ℕ). o.1) os

    found : EachOf (λ (o : ℕ × ℕ). FoundBy rounds before o.1) os → Held rounds before ps
    found each k l = let (o, here, e) = at_map (λ (o : ℕ × ℕ). o.1) os k (get_or ps k 0) (get_at ps k 0 l) in subst (FoundBy rounds before) e (each k o here)

    back : Held rounds before ps → EachOf (λ (o : ℕ × ℕ). FoundBy rounds before o.1) os
    back all k o here =
        let there = map_at (λ (o : ℕ × ℕ). o.1) os k o here in
        subst (FoundBy rounds before) (at_get ps k o.1 0 there) (all k (at_below ps k o.1 there))

-- a variable that has a position is there
positions_in : (atoms : List plain.Atom) (v : ℕ) → 0 < length (positions_of atoms v) → In atoms v
positions_in atoms v l = let p = get_or (positions_of atoms v) 0 0 in stands_in atoms v p (positions_only atoms v 0 p (get_at (positions_of atoms v) 0 0 l))

-- whether the step of a head occurrence is ready
pub ready_through : (x : memory.Rule) (rounds : List ℕ) (before : ℕ) (o : ℕ × ℕ) (r : Bool)
    → Decides r (In (plain_side x.body) o.0 × Held rounds before (positions_of (plain_side x.body) o.0))
    → Decides r (Ready rounds before (needs_through (plain_rule x) (Some o)))
ready_through x rounds before o r d = ((λ t. let (inside, held) = d.0 t in (positions_some (plain_side x.body) o.0 (side_small x.body) inside, held)), λ t. d.1 (positions_in (plain_side x.body) o.0 t.0, t.1))
