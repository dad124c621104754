-- Learning the atoms of a line one by one.
use Rattle.std.proofs.Common.{◌≡◌, ℕ, ◌+◌, ◌<◌, List, [], ◌∷◌, ◌++◌, map, length, get_or, take, Err, sym, ap, ◌∙◌, subst}
use Rattle.std.proofs.lemmas.List.{take_more, map-append}
use Rattle.lists.specs.Places.{At}
use Rattle.lists.proofs.Elements.{take_map}
use Rattle.lists.proofs.Mapped.{map_snoc, at_map_get}
use Rattle.questions.specs.declared.question.Refusal.{Refusal}
use Rattle.patterns.specs.Patterns.{Written}
use Rattle.patterns.specs.Tables.{written}
use Rattle.patterns.specs.declared.atom.Atom.{Atom}
use Rattle.naming.specs.Meaning.{Predicate}
use Rattle.book.specs.Learning.{Short, AllShort, Learnt, Clash, AtomLearned, LineLearned}
use Rattle.book.specs.declared.learning.Learning.{Learning}
use Rattle.book.proofs.Clashing.{clash_first}

-- the atom at number k of a line
module _ (body head : List Atom) (k : ℕ) (a : Atom) (turn : (k < length (body ++ head)) × (a ≡ get_or (body ++ head) k a)) where
  here : At (map written (body ++ head)) k (written a)
  here = subst (λ (x : Atom). At (map written (body ++ head)) k (written x)) (sym turn.1) (at_map_get written (body ++ head) k a turn.0)

  pub short_at : AllShort (map written body ++ map written head) → Short (written a)
  short_at short = short k (written a) (subst (λ (xs : List Written). At xs k (written a)) (map-append written body head) here)

  -- with it, one atom more
  pub one_more : map written (take k (body ++ head)) ++ (written a ∷ []) ≡ map written (take (k + 1) (body ++ head))
  one_more =
      sym (ap (map written) (take_more (body ++ head) k a turn.0) ∙ map_snoc written (take k (body ++ head)) (get_or (body ++ head) k a) ∙ ap (λ (x : Atom). map written (take k (body ++ head)) ++ (written x ∷ [])) (sym turn.1))

  pub line_stuck : (known : List Predicate) (l m : Learning) (e : Refusal) → Learnt known (map written (take k (body ++ head))) l → AtomLearned (written a) l m (Err e) → LineLearned known (map written body) (map written head) (Err e)
  line_stuck known l m e learnt (clash, q, p) =
      let whole = map-append written body head in
      let before = sym (take_map written (body ++ head) k) ∙ ap (take k) whole in
      (k, written a, clash_first known (map written body ++ map written head) k (written a) (subst (λ (xs : List Written). At xs k (written a)) whole here) (subst (λ (xs : List Written). Clash known xs (written a)) before (clash known (map written (take k (body ++ head))) learnt)), q, p)
