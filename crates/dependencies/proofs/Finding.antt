-- One turn of the iterator over the occurrences of a side: the search for the next number that has one.
use Rattle.std.proofs.Common.{◌≡◌, ℕ, ◌-◌, true, List, [], ◌∷◌, suc, length, Some, None, Option, sym, refl, ap, ◌∙◌, subst, arith, rules}
use Rattle.std.specs.Fn.{Called, Mut}
use Rattle.std.specs.Iterator.{Yields, YieldsFirstBy, FindsMapped, MakesProgress, item_count}
use Rattle.std.specs.Iterator.Runs.{Run, SomeRun, AllItemsGive}
use Rattle.std.specs.List.{slice_get, cons_option, FoldsTo}
use Rattle.std.specs.Option.{MatchOption, option_map}
use Rattle.std.proofs.lemmas.Option.{MatchOption-at_none}
use Rattle.std.specs.declared.ops.Range.{Range}
use Rattle.std.proofs.iter.Yields.{nat_range_steps}
use Rattle.std.proofs.iter.runs.Made.{took, each_of}
use Rattle.theory.specs.Rules.{Atom}
use Rattle.theory.specs.Occurrences.{occurrence_of}
use Rattle.dependencies.specs.declared.occurrence.Occurrence.{Occurrence}
use Rattle.dependencies.specs.declared.reading.Occurrences.{Occurrences}
use Rattle.dependencies.specs.Occurring.{occurrences_from, rest}
use Rattle.dependencies.specs.Views.{pair}
use Rattle.dependencies.proofs.Listing.{from_none, from_first}

module _ (atoms : List Atom) {F : Type 0} (g : Mut F (ℕ × Unit {0}) (Option Occurrence)) (f : F) (call : (x : ℕ) (r : Option Occurrence) (q : F) → Called g f (x, tt) r q → (q ≡ f) × (option_map pair r ≡ occurrence_of atoms x)) where
  -- the occurrences of the numbers that are left
  abbrev pub ahead : Range ℕ → List (ℕ × ℕ)
  ahead s = occurrences_from atoms s.start (s.end - s.start)

  turn : (s t : Range ℕ) (x : ℕ) (r : Option Occurrence) (q : F) → nat_range_steps s (Some x) t → Called g f (x, tt) r q → ahead s ≡ cons_option (option_map pair r) (ahead t)
  turn s t x r q (same, (some, is, next)) called = from_first atoms s.start s.end t.start t.end (option_map pair r) some next same ((call x r q called).1 ∙ ap (occurrence_of atoms) is)

  -- numbers that have none
  passed : (xs : List ℕ) (s t : Range ℕ) (p : F) → Yields nat_range_steps s xs t → FoldsTo (λ p x q. Called g p (x, tt) None q) f xs p → (ahead s ≡ ahead t) × (p ≡ f)
  passed [] s t p y e = (ap ahead y, sym e)
  passed (x ∷ xs) s t p (u, step, y) (q, called, rest) =
      let kept = (call x None q called).0 in
      let (later, e) = passed xs u t p y (subst (λ h. FoldsTo (λ p x q. Called g p (x, tt) None q) h xs p) kept rest) in
      (turn s u x None q step called ∙ later, e)

  passed_each : (xs : List ℕ) (s t : Range ℕ) → Yields nat_range_steps s xs t → ((k : ℕ) → MatchOption (slice_get xs k) (Unit {0}) (λ x. Called g f (x, tt) None f)) → ahead s ≡ ahead t
  passed_each [] s t y each = ap ahead y
  passed_each (x ∷ xs) s t (u, step, y) each = turn s u x None f step (each 0) ∙ passed_each xs u t y (λ k. each (suc k))

  none : (s t : Range ℕ) → nat_range_steps s None t → ahead s ≡ []
  none s t (_, (e, _)) = from_none atoms s.start _ e

  -- no number has one, where a whole run of calls gave none
  none_ahead : (Q : Run nat_range_steps → Occurrence → Type 0) (s : Range ℕ) (r : Option Occurrence) → SomeRun nat_range_steps s (λ p. MatchOption r ((p.whole ≡ true) × AllItemsGive p g f None) (Q p)) → r ≡ None → ahead s ≡ []
  none_ahead Q s r (p, from, told) e =
      let (whole, gives) = MatchOption-at_none ((p.whole ≡ true) × AllItemsGive p g f None) (Q p) e told in
      let (t, y, end) = took p in
      let (u, step) = end whole in
      ap ahead (sym from) ∙ passed_each p.items p.from t y (each_of p (λ x. Called g f (x, tt) None f) (gives (λ a r q called. (call a.0 r q called).0))) ∙ none t u step

  pub finds : (Q : Run nat_range_steps → Occurrence → Type 0) (s u : Range ℕ) (r : Option Occurrence) → FindsMapped nat_range_steps g s f r u → SomeRun nat_range_steps s (λ p. MatchOption r ((p.whole ≡ true) × AllItemsGive p g f None) (Q p)) → MatchOption r ((ahead s ≡ []) × (ahead u ≡ [])) (λ o. ahead s ≡ pair o ∷ ahead u)
  finds Q s u r (xs, o, p, (t, y, step), folds, end) run = by r o (passed xs s t p y folds) step end (none_ahead Q s r run)
    where
      by : (r : Option Occurrence) (o : Option ℕ) → (ahead s ≡ ahead t) × (p ≡ f) → nat_range_steps t o u → MatchOption o (r ≡ None) (λ x. (h : F) × Called g p (x, tt) r h) → (r ≡ None → ahead s ≡ []) → MatchOption r ((ahead s ≡ []) × (ahead u ≡ [])) (λ o. ahead s ≡ pair o ∷ ahead u)
      by None None before step end whole = (whole refl, from_none atoms u.start _ (omega arith))
      by None (Some x) (same, kept) step (h, called) whole = (whole refl, sym (turn t u x None h step (subst (λ q. Called g q (x, tt) None h) kept called)) ∙ sym same ∙ whole refl)
      by (Some o) None before step end whole = cc
      by (Some o) (Some x) (same, kept) step (h, called) whole = same ∙ turn t u x (Some o) h step (subst (λ q. Called g q (x, tt) (Some o) h) kept called)

-- an item that comes is one less to come
pub goes : (s t : Occurrences) (r : Option Occurrence) → YieldsFirstBy pair rest s r t → MakesProgress (λ _. Unit {0}) (item_count rest) s r t
goes s t None y = search rules
goes s t (Some o) y = let l = ap (λ (os : List (ℕ × ℕ)). length os) y in search rules
