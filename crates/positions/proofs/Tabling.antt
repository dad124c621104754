-- The edges of rules and the steps of their table lie within each other, so infinite positions and ranks are the same.
use Rattle.std.proofs.Common.{◌≡◌, ℕ, ◌/◌, ◌<◌, ◌⊎◌, List, [], ◌∷◌, map, Some, None, Option, refl, ap, ◌∙◌, inl, inr, ⊎_elim, arith}
use Rattle.lists.proofs.Numbered.{at_below}
use Rattle.graphs.specs.declared.step.Step.{Step}
use Rattle.graphs.specs.Laws.{Within}
use Rattle.graphs.proofs.Transfer.{same_ranks}
use Rattle.theory.specs.Rules as plain
use Rattle.theory.specs.Edges.{NormalEdge, SpecialEdge, PositionStep}
use Rattle.rules.specs.Views.{plain_rule}
use Rattle.rules.specs.declared.rule.Rule.{Rule}
use Rattle.dependencies.specs.Tables.{SomeRule, Tabulated}
use Rattle.ranks.specs.Answers.{Ranked}
use Rattle.ranks.specs.Tables.{entry, TableStep}
use Rattle.ranks.specs.declared.edge.Edge.{Edge}
use Rattle.ranks.specs.declared.edge.Edge.TheVariants.{Normal, Special}
use Rattle.ranks.specs.declared.rank.Rank.{Rank}
use Rattle.ranks.specs.declared.rank.Rank.TheVariants.{Number, Infinite}
use Rattle.book.specs.Book as book
use Rattle.book.specs.Views.{plain_entry}
use Rattle.book.proofs.Preparing.{few_known}
use Rattle.positions.specs.Positions.{KnownPosition}

-- a step of this kind and rule between two positions
abbrev step : ℕ → ℕ → ℕ → ℕ → Step
step kind rule from to = record { kind = kind; rule = rule; from = from; to = to }

special_or_not : (e : Option Edge) → (e ≡ Some Special) ⊎ (e ≡ Some Special → ⊥)
special_or_not None = inr (λ e. absurd (cc))
special_or_not (Some Normal) = inr (λ e. absurd (cc))
special_or_not (Some Special) = inl refl

module _ (rules : List plain.Rule) (table : List (Option Edge)) (t : Tabulated rules table) where
  special_step : (p q : ℕ) → SomeRule SpecialEdge rules p q → TableStep table (step 5 0 p q)
  special_step p q some =
      let (l, m) = t.special_within p q some in
      record { from = l; to = m; edge = inr (refl, (t.special p q l m).1 some); rule = refl }

  within_table : Within (PositionStep rules) (TableStep table)
  within_table s (inr (kind, r, at, edge)) = (step 5 0 s.from s.to, special_step s.from s.to (s.rule, r, at, edge), refl, refl, λ _. refl)
  within_table s (inl (kind, r, at, edge)) =
      let p = s.from in
      let q = s.to in
      let some : SomeRule NormalEdge rules p q = (s.rule, r, at, edge) in
      let (l, m) = t.normal_within p q some in
      ⊎_elim
      (λ two. (step 5 0 p q, record { from = l; to = m; edge = inr (refl, two); rule = refl }, refl, refl, λ _. refl))
      (λ other. (step 4 0 p q, record { from = l; to = m; edge = inl (refl, (t.normal p q l m).1 ((λ special. other ((t.special p q l m).1 special)), some)); rule = refl }, refl, refl, λ five. absurd (omega arith)))
      (special_or_not (entry table p q))

  within_rules : Within (TableStep table) (PositionStep rules)
  within_rules s w = cases w.edge
    where
      cases : ((s.kind ≡ 4) × (entry table s.from s.to ≡ Some Normal)) ⊎ ((s.kind ≡ 5) × (entry table s.from s.to ≡ Some Special)) → (u : Step) × PositionStep rules u × (u.from ≡ s.from) × (u.to ≡ s.to) × (s.kind ≡ 5 → u.kind ≡ 5)
      cases (inl (kind, one)) =
          let (_, (i, r, at, edge)) = (t.normal s.from s.to w.from w.to).0 one in
          (step 4 i s.from s.to, inl (refl, r, at, edge), refl, refl, λ five. absurd (omega arith))
      cases (inr (kind, two)) =
          let (i, r, at, edge) = (t.special s.from s.to w.from w.to).0 two in
          (step 5 i s.from s.to, inr (refl, r, at, edge), refl, refl, λ _. refl)

  pub ranked_so : (p : ℕ) (r : Rank) → Ranked (TableStep table) p r → Ranked (PositionStep rules) p r
  ranked_so p (Number n) (rank, finite) =
      ((same_ranks (TableStep table) (PositionStep rules) within_rules within_table).rank p n rank, λ infinite. finite ((same_ranks (PositionStep rules) (TableStep table) within_table within_rules).infinite p infinite))
  ranked_so p Infinite infinite = (same_ranks (TableStep table) (PositionStep rules) within_rules within_table).infinite p infinite

-- the rules of a book in memory
pub rules_are : (xs : List Rule) (es : List book.Entry) → map plain_entry xs ≡ es → map plain_rule xs ≡ map (λ e. e.rule) es
rules_are xs es same = each xs ∙ ap (map (λ (e : book.Entry). e.rule)) same
  where
    each : (ys : List Rule) → map plain_rule ys ≡ map (λ (e : book.Entry). e.rule) (map plain_entry ys)
    each [] = refl
    each (y ∷ ys) = ap (λ (k : List plain.Rule). plain_rule y ∷ k) (each ys)

-- a known position is below 128
pub known_below : (b : book.Book) → ∥ book.Sound b ∥₁ → (p : ℕ) → KnownPosition b p → p < 128
known_below b sound p (q, at, less) =
    let few = few_known b sound in
    let l = at_below b.known (p / 4) q at in
    omega arith
