-- Predicates by name and columns.
use Rattle.std.proofs.Common.{◌≡◌, ℕ, ◌≤◌, List, length, sym, refl, ap, ◌∙◌, subst, Bool, true, false, Decides, arith}
use Rattle.std.specs.Bool.{then_some}
use Rattle.std.proofs.lemmas.Bool.{false≢true}
use Rattle.std.proofs.lemmas.Bool.Decides.{Decides-eqb}
use Rattle.std.proofs.Math.Dec.{eqb}
use Rattle.lists.specs.Places.{At, Holds, First, FirstAt}
use Rattle.lists.proofs.Numbered.{at_same, at_below}
use Rattle.patterns.specs.Patterns.{Written}
use Rattle.naming.specs.Meaning.{Predicate, predicate_of}
use Rattle.naming.specs.Numbering.{Distinct, PredicateNumber}

-- the same name and as many columns
pub same_predicate : (p q : Predicate) → p.name ≡ q.name → p.columns ≡ q.columns → p ≡ q
same_predicate p q e f = ap (λ (x : List ℕ). record { name = x; columns = p.columns }) e ∙ ap (λ (x : ℕ). record { name = q.name; columns = x }) f

module _ (known : List Predicate) (w : Written) (text : List ℕ) (i : ℕ) (q : Predicate) (first : First (λ x. x.name ≡ text) known i q) (spelled : text ≡ w.predicate.text) where
  name_is : q.name ≡ w.predicate.text
  name_is = first.does ∙ spelled

  pub named_first : q.columns ≡ length w.words → FirstAt known i (predicate_of w)
  named_first e =
      (subst (λ x. At known i x) (same_predicate q (predicate_of w) name_is e) first.here, λ j l at. first.earlier j (predicate_of w) l at (sym spelled))

  pub named_otherwise : (q.columns ≡ length w.words → ⊥) → Distinct known → Holds known (predicate_of w) → ⊥
  named_otherwise ne apart (j, at) =
      let e = apart i j q (predicate_of w) first.here at name_is in
      ne (ap (λ x. x.columns) (at_same known j q (predicate_of w) (subst (λ k. At known k q) e first.here) at))

  tested : (b : Bool) → Decides b (q.columns ≡ length w.words) → PredicateNumber known w (then_some b i)
  tested true d = named_first (d.0 refl)
  tested false d = named_otherwise (λ e. false≢true (d.1 e))

  pub named : (n : ℕ) → n ≡ length w.words → PredicateNumber known w (then_some (eqb q.columns n) i)
  named n e = tested (eqb q.columns n) (subst (λ (k : ℕ). Decides (eqb q.columns n) (q.columns ≡ k)) e (Decides-eqb q.columns n))

pub not_past : (known : List Predicate) (i : ℕ) (p : Predicate) → At known i p → length known ≤ i → ⊥
not_past known i p at l = omega (arith, at_below known i p at)

-- no predicate of the name: the atom's is not known
pub unnamed : (known : List Predicate) (w : Written) (text : List ℕ) → ((i : ℕ) (p : Predicate) → At known i p → p.name ≡ text → ⊥) → text ≡ w.predicate.text → Holds known (predicate_of w) → ⊥
unnamed known w text none e (i, at) = none i (predicate_of w) at (sym e)
