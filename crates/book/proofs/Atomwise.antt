-- Learning one atom more keeps what is learned.
use Rattle.std.proofs.Common.{◌≡◌, ℕ, ◌≤◌, ◌≢◌, ◌⊎◌, List, [], ◌∷◌, ◌++◌, map, length, Some, None, Option, sym, refl, ap, ◌∙◌, subst, inl, inr, ⊎_elim, arith, length-append}
use Rattle.std.proofs.lemmas.Bool.{cases_eq}
use Rattle.lists.specs.Places.{At, Holds}
use Rattle.lists.specs.Joins.{Joined}
use Rattle.lists.proofs.Numbered.{at_below, at_left, at_next, at_snoc, take_front}
use Rattle.lists.proofs.Elements.{take_left}
use Rattle.lists.proofs.Joining.{joined_twice}
use Rattle.lists.proofs.Mapped.{map_snoc}
use Rattle.patterns.specs.Patterns.{Written}
use Rattle.naming.specs.Meaning.{Predicate, predicate_of, Learned}
use Rattle.naming.specs.Names.{predicates_of}
use Rattle.naming.specs.Numbering.{Distinct}
use Rattle.naming.proofs.Naming.{same_predicate}
use Rattle.book.specs.Asking.{OneMore}
use Rattle.book.specs.Learning.{Extra, Learnt, Clash, NewLearned}
use Rattle.book.specs.declared.learning.Learning.{Learning}

one_more_longer : (known : List Predicate) (atoms more : List Written) (k : ℕ) (a : Written) → OneMore known atoms k a → OneMore known (atoms ++ more) k a
one_more_longer known atoms more k a (here, before, joined, new, full) =
    let l = at_below atoms k a here in
    (at_left atoms more k a here, before, subst (λ (xs : List Written). Learned known xs before) (sym (take_left atoms more k (omega arith))) joined, new, full)

extra_keeps : (known : List Predicate) (atoms more : List Written) (seen after : List Predicate) (e : Option ℕ) → (length seen ≤ 32 → length after ≤ 32) → Extra known atoms seen e → Extra known (atoms ++ more) after e
extra_keeps known atoms more seen after None f x = f x
extra_keeps known atoms more seen after (Some p) f (k, a, one, e) = (k, a, one_more_longer known atoms more k a one, e)

joined_one : (known : List Predicate) (atoms : List Written) (w : Written) (seen after : List Predicate) → Learned known atoms seen → Joined seen (predicate_of w ∷ []) after → Learned known (atoms ++ (w ∷ [])) after
joined_one known atoms w seen after j k =
    subst (λ (xs : List Predicate). Joined known xs after) (sym (map_snoc predicate_of atoms w)) (joined_twice known (map predicate_of atoms) (predicate_of w ∷ []) seen after j k)

-- nothing of the line is learned yet
pub learnt_none : (l : Learning) → l.extra ≡ None → Distinct (predicates_of l.known) → length (predicates_of l.known) ≤ 32 → Learnt (predicates_of l.known) [] l
learnt_none l e apart few = record { joined = refl; names = apart; extra = rw e few }

-- the predicate is known with these columns
pub learnt_same : (w : Written) (l : Learning) → Holds (predicates_of l.known) (predicate_of w) → (known : List Predicate) (atoms : List Written) → Learnt known atoms l → Learnt known (atoms ++ (w ∷ [])) l
learnt_same w l there known atoms t =
    let seen = predicates_of l.known in
    record { joined = joined_one known atoms w seen seen t.joined (inl (there, refl)); names = t.names; extra = extra_keeps known atoms (w ∷ []) seen seen l.extra (λ h. h) t.extra }

distinct_more : (seen : List Predicate) (q : Predicate) → Distinct seen → ((i : ℕ) (p : Predicate) → At seen i p → p.name ≡ q.name → ⊥) → Distinct (seen ++ (q ∷ []))
distinct_more seen q apart new i j p r a b e = cases (at_snoc seen q i p a) (at_snoc seen q j r b)
  where
    cases : At seen i p ⊎ ((i ≡ length seen) × (q ≡ p)) → At seen j r ⊎ ((j ≡ length seen) × (q ≡ r)) → i ≡ j
    cases (inl x) (inl y) = apart i j p r x y e
    cases (inl x) (inr (_, y)) = absurd (new i p x (e ∙ ap (λ (z : Predicate). z.name) (sym y)))
    cases (inr (_, x)) (inl y) = absurd (new j r y (sym e ∙ ap (λ (z : Predicate). z.name) (sym x)))
    cases (inr (x, _)) (inr (y, _)) = x ∙ sym y

-- no predicate of the name is known
pub learnt_new : (w : Written) (l m : Learning) → ((i : ℕ) (p : Predicate) → At (predicates_of l.known) i p → p.name ≡ w.predicate.text → ⊥) → NewLearned w.predicate.text (length w.words) w.predicate.place l m
    → (known : List Predicate) (atoms : List Written) → Learnt known atoms l → Learnt known (atoms ++ (w ∷ [])) m
learnt_new w l m unnamed n known atoms t = record {
  joined = joined_one known atoms w seen after t.joined (inr (new, n.known));
  names = subst (λ (xs : List Predicate). Distinct xs) (sym n.known) (distinct_more seen (predicate_of w) t.names unnamed);
  extra = ⊎_elim
      (λ full. subst (λ (e : Option ℕ). Extra known (atoms ++ (w ∷ [])) after e) (sym (n.full full)) (length atoms, w, (at_next atoms [] w, seen, subst (λ (xs : List Written). Learned known xs seen) (sym (take_front atoms (w ∷ []))) t.joined, new, full), refl))
      (λ other. subst (λ (e : Option ℕ). Extra known (atoms ++ (w ∷ [])) after e) (sym (n.spare other)) (extra_keeps known atoms (w ∷ []) seen after l.extra (fits other) t.extra))
      (cases_eq (length seen) 32);
}
  where
    seen : List Predicate
    seen = predicates_of l.known

    after : List Predicate
    after = predicates_of m.known

    new : Holds seen (predicate_of w) → ⊥
    new (i, at) = unnamed i (predicate_of w) at refl

    fits : length seen ≢ 32 → length seen ≤ 32 → length after ≤ 32
    fits other h = omega (arith, other, ap (λ (xs : List Predicate). length xs) n.known, length-append seen (predicate_of w ∷ []))

-- a predicate of the name is known with other columns
pub clash_here : (w : Written) (l : Learning) (i : ℕ) (p : Predicate) → At (predicates_of l.known) i p → p.name ≡ w.predicate.text → (p.columns ≡ length w.words → ⊥) → (known : List Predicate) (atoms : List Written) → Learnt known atoms l → Clash known atoms w
clash_here w l i p at e ne known atoms t = record { seen = predicates_of l.known; joined = t.joined; names = t.names; other = p; there = (i, at); name = e; columns = ne }

-- a predicate of the name with as many columns is the atom's
pub named_there : (w : Written) (known : List Predicate) (i : ℕ) (p : Predicate) → At known i p → p.name ≡ w.predicate.text → p.columns ≡ length w.words → Holds known (predicate_of w)
named_there w known i p at e f = (i, subst (λ (q : Predicate). At known i q) (same_predicate p (predicate_of w) e f) at)
