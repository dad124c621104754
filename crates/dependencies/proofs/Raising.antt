-- Entries that are raised in turn.
use Rattle.std.proofs.Common.{◌≡◌, ℕ, zero, suc, ◌+◌, ◌*◌, ◌<◌, ◌≤◌, ◌⊎◌, List, ◌∷◌, map, replicate, Some, None, Option, sym, refl, ◌∙◌, subst, inl, inr, ⊎_elim, arith}
use Rattle.std.proofs.Math.ListN.{length-replicate, get_or-replicate}
use Rattle.theory.specs.Rules.{Rule, Stands}
use Rattle.theory.specs.Edges.{NormalEdge, SpecialEdge}
use Rattle.theory.proofs.Occurring.{stands_in}
use Rattle.theory.proofs.Positions.{stands_small}
use Rattle.rules.specs.declared.rule.Rule as memory
use Rattle.rules.specs.Views.{plain_rule}
use Rattle.rules.proofs.Smallness.{rule_small}
use Rattle.ranks.specs.Tables.{entry}
use Rattle.ranks.specs.declared.edge.Edge.{Edge}
use Rattle.ranks.specs.declared.edge.Edge.TheVariants.{Normal, Special}
use Rattle.dependencies.specs.Tables.{SomeRule, Tabulated, EdgeIs, level, Raised, One, Among, EdgesTo, EdgesOf}
use Rattle.dependencies.proofs.Listing.{listed_stands, stands_listed}

-- nothing is raised
pub raised_none : (E : Option Edge → ℕ → ℕ → Type 0) (xs : List (Option Edge)) → ((e : Option Edge) (p q : ℕ) → E e p q → ⊥) → Raised E xs xs
raised_none E xs none = record {
  long = refl;
  keeps = λ p q k l. omega arith;
  raises = λ e p q k l h. absurd (none e p q h);
  only = λ p q k l. inl refl;
}

-- the same edges, said otherwise
pub raised_same : (E F : Option Edge → ℕ → ℕ → Type 0) (xs ys : List (Option Edge)) → ((e : Option Edge) (p q : ℕ) → E e p q → F e p q) → ((e : Option Edge) (p q : ℕ) → F e p q → E e p q) → Raised E xs ys → Raised F xs ys
raised_same E F xs ys to from r = record {
  long = r.long;
  keeps = r.keeps;
  raises = λ e p q k l f. r.raises e p q k l (from e p q f);
  only = λ p q k l. ⊎_elim (λ same. inl same) (λ h. inr (to _ p q h)) (r.only p q k l);
}

-- the edges of the first element are raised, and then those of the others
pub raised_first : {A : Type 0} (E : A → Option Edge → ℕ → ℕ → Type 0) (a : A) (bs : List A) (xs ys zs : List (Option Edge)) → Raised (E a) xs ys → Raised (Among E bs) ys zs → Raised (Among E (a ∷ bs)) xs zs
raised_first {A} E a bs xs ys zs r s = record {
  long = s.long ∙ r.long;
  keeps = λ p q l m. omega (arith, r.keeps p q l m, s.keeps p q l m);
  raises = raises;
  only = λ p q l m. only p q l m (s.only p q l m);
}
  where
    raises : (e : Option Edge) (p q : ℕ) → p < 128 → q < 128 → Among E (a ∷ bs) e p q → level e ≤ level (entry zs p q)
    raises e p q l m (zero, x, here, h) = omega (arith, r.raises e p q l m (subst (λ y. E y e p q) (sym here) h), s.keeps p q l m)
    raises e p q l m (suc k, x, here, h) = s.raises e p q l m (k, x, here, h)

    only : (p q : ℕ) → p < 128 → q < 128 → (entry zs p q ≡ entry ys p q) ⊎ Among E bs (entry zs p q) p q → (entry zs p q ≡ entry xs p q) ⊎ Among E (a ∷ bs) (entry zs p q) p q
    only p q l m (inl e) = ⊎_elim (λ f. inl (e ∙ f)) (λ h. inr (subst (λ (n : Option Edge). Among E (a ∷ bs) n p q) (sym e) (0, a, refl, h))) (r.only p q l m)
    only p q l m (inr (k, x, here, h)) = inr (suc k, x, here, h)

-- one edge is that of two occurrences
edge_single : (r : Rule) (v u : ℕ) (d e : Option Edge) → EdgeIs r v u d → EdgeIs r v u e → d ≡ e
edge_single r v u None None s t = refl
edge_single r v u None (Some Normal) s t = absurd (s.1 t.1)
edge_single r v u None (Some Special) s t = absurd (s.0 t)
edge_single r v u (Some Normal) None s t = absurd (t.1 s.1)
edge_single r v u (Some Normal) (Some Normal) s t = refl
edge_single r v u (Some Normal) (Some Special) s t = absurd (s.0 t)
edge_single r v u (Some Special) None s t = absurd (t.0 s)
edge_single r v u (Some Special) (Some Normal) s t = absurd (t.0 s)
edge_single r v u (Some Special) (Some Special) s t = refl

pub raised_to : (r : Rule) (from to : ℕ × ℕ) (e : Option Edge) (xs ys : List (Option Edge)) → EdgeIs r from.0 to.0 e → Raised (One from.1 to.1 e) xs ys → Raised (EdgesTo r from to) xs ys
raised_to r from to e xs ys is =
    raised_same (One from.1 to.1 e) (EdgesTo r from to) xs ys
    (λ d p q (f, g, h). (f, g, subst (λ (x : Option Edge). EdgeIs r from.0 to.0 x) (sym h) is))
    (λ d p q (f, g, h). (f, g, edge_single r from.0 to.0 d e h is))

-- the edges of all rules, as they are raised and as they are defined
module _ (rules : List memory.Rule) where
  abbrev pub All : Option Edge → ℕ → ℕ → Type 0
  All = Among EdgesOf (map plain_rule rules)

  special_all : (p q : ℕ) → SomeRule SpecialEdge (map plain_rule rules) p q → All (Some Special) p q
  special_all p q (i, r, here, (v, u, front, body, exists, head)) =
      let (body_small, head_small) = rule_small rules i r here in
      let (m, at_v) = stands_listed r.body body_small v p body in
      let (k, at_u) = stands_listed r.head head_small u q head in
      (i, r, here, (m, (v, p), at_v, (k, (u, q), at_u, (refl, refl, (front.1, exists.1)))))

  normal_all : (p q : ℕ) → SomeRule NormalEdge (map plain_rule rules) p q → All (Some Normal) p q
  normal_all p q (i, r, here, (v, body, head)) =
      let (body_small, head_small) = rule_small rules i r here in
      let (m, at_v) = stands_listed r.body body_small v p body in
      let (k, at_u) = stands_listed r.head head_small v q head in
      (i, r, here, (m, (v, p), at_v, (k, (v, q), at_u, (refl, refl, ((λ s. s.1 (stands_in r.body v p body)), refl)))))

  -- what is raised to is an edge of some rule
  abbrev Told : Option Edge → ℕ → ℕ → Type 0
  Told None p q = Unit {0}
  Told (Some Normal) p q = SomeRule NormalEdge (map plain_rule rules) p q
  Told (Some Special) p q = SomeRule SpecialEdge (map plain_rule rules) p q

  all_told : (e : Option Edge) (p q : ℕ) → All e p q → Told e p q
  all_told e p q (i, r, here, (m, from, at_v, (k, to, at_u, (f, g, is)))) =
      let body = subst (λ x. Stands r.body from.0 x) (sym f) (listed_stands r.body m from.0 from.1 at_v) in
      let head = subst (λ x. Stands r.head to.0 x) (sym g) (listed_stands r.head k to.0 to.1 at_u) in
      tell e body head is
    where
      tell : (e : Option Edge) → Stands r.body from.0 p → Stands r.head to.0 q → EdgeIs r from.0 to.0 e → Told e p q
      tell None body head is = tt
      tell (Some Normal) body head (_, same) = (i, r, here, (from.0, body, subst (λ x. Stands r.head x q) (sym same) head))
      tell (Some Special) body head (in_head, absent) = (i, r, here, (from.0, to.0, (stands_in r.body from.0 p body, in_head), body, (stands_in r.head to.0 q head, absent), head))

  -- the table that is raised from one with no edges
  pub tabulated : (table : List (Option Edge)) → Raised All (replicate 16384 None) table → Tabulated (map plain_rule rules) table
  tabulated table r = record {
    long = r.long ∙ length-replicate {A = Option Edge} 16384 None;
    special = λ p q l m. (
      (λ e. subst (λ (x : Option Edge). Told x p q) e (told p q l m)),
      λ s. highest (entry table p q) (r.raises (Some Special) p q l m (special_all p q s)),
    );
    normal = λ p q l m. (
      (λ e. (
        (λ s. let h = r.raises (Some Special) p q l m (special_all p q s) in lower (entry table p q) e h),
        subst (λ (x : Option Edge). Told x p q) e (told p q l m),
      )),
      λ s. middle (entry table p q) (r.raises (Some Normal) p q l m (normal_all p q s.1)) (λ e. s.0 (subst (λ (x : Option Edge). Told x p q) e (told p q l m))),
    );
    normal_within = λ p q (j, x, here, (v, body, head)). let (k, l) = rule_small rules j x here in (stands_small x.body v p k body, stands_small x.head v q l head);
    special_within = λ p q (j, x, here, (v, e, _, body, _, head)). let (k, l) = rule_small rules j x here in (stands_small x.body v p k body, stands_small x.head e q l head);
  }
    where
      empty : (p q : ℕ) → p < 128 → q < 128 → entry (replicate 16384 None) p q ≡ None
      empty p q l m = get_or-replicate 16384 (128 * p + q) None None (omega arith)

      told : (p q : ℕ) → p < 128 → q < 128 → Told (entry table p q) p q
      told p q l m = ⊎_elim (λ e. subst (λ (x : Option Edge). Told x p q) (sym (e ∙ empty p q l m)) tt) (λ h. all_told (entry table p q) p q h) (r.only p q l m)

      highest : (e : Option Edge) → 2 ≤ level e → e ≡ Some Special
      highest None h = absurd (omega arith)
      highest (Some Normal) h = absurd (omega arith)
      highest (Some Special) h = refl

      middle : (e : Option Edge) → 1 ≤ level e → (e ≡ Some Special → ⊥) → e ≡ Some Normal
      middle None h not = absurd (omega arith)
      middle (Some Normal) h not = refl
      middle (Some Special) h not = absurd (not refl)

      lower : (e : Option Edge) → e ≡ Some Normal → 2 ≤ level e → ⊥
      lower None f h = absurd (omega arith)
      lower (Some Normal) f h = absurd (omega arith)
      lower (Some Special) f h = cc
