-- The empty book is sound, and adding and withdrawing keep a book sound.
use Rattle.std.proofs.Common.{◌≡◌, ℕ, zero, suc, ◌<◌, ◌≤◌, ◌≢◌, ◌⊎◌, List, [], ◌∷◌, ◌++◌, map, length, take, drop, sym, refl, ap, ◌∙◌, subst, inl, inr, ⊎_elim, arith, length-append}
use Rattle.std.proofs.Math.ListN.{length-map}
use Rattle.std.proofs.lemmas.Bool.{cases_eq}
use Rattle.lists.specs.Places.{At, Holds, Once, First, FirstAt, Pairwise}
use Rattle.lists.specs.Joins.{Joined}
use Rattle.lists.proofs.Numbered.{at_same, at_below, at_snoc}
use Rattle.lists.proofs.Mapped.{at_map, pairs_left, pairs_length}
use Rattle.lists.proofs.Joining.{joined_single, joined_keeps, joined_only, joined_once}
use Rattle.lists.proofs.Elements.{map_at}
use Rattle.tokens.specs.Tokens.{Token}
use Rattle.patterns.specs.Patterns.{Written}
use Rattle.theory.specs.Rules.{Atom, Rule, Numbered, SmallSide}
use Rattle.naming.specs.Meaning.{Predicate, predicate_of, Learned, AtomMeans, RuleMeans}
use Rattle.naming.specs.Numbering.{Distinct}
use Rattle.naming.proofs.Naming.{same_predicate}
use Rattle.book.specs.Book.{Entry, Book, empty, rules, Carries, KnownAtom, Sound}
use Rattle.book.specs.Asking.{WritesRule, Known, Wanted, WrongColumns, Yes, Passes}
use Rattle.book.specs.Asking.Asked.{label_unused, columns, predicates}
use Rattle.book.specs.Changing.{Adds, Withdraws}
use Rattle.book.proofs.Occurrences.{means_numbered}
use Rattle.book.proofs.Written.{one_label, one_list, WrittenSide, WrittenWell, written_well}

-- ---- lists

-- where none is the first that satisfies P, none satisfies it
none_first : {A : Type 0} (P : A → Type 0) (xs : List A) → ((k : ℕ) (x : A) → First P xs k x → ⊥) → (k : ℕ) (x : A) → At xs k x → P x → ⊥
none_first {A} P xs none k x at p = below (suc k) k x (omega arith) at p
  where
    below : (n k : ℕ) (x : A) → k < n → At xs k x → P x → ⊥
    below zero k x l at p = omega arith
    below (suc n) k x l at p = none k x (record { here = at; does = p; earlier = λ j y m i q. below n j y (omega arith) i q })

-- ---- the line that is read

-- what the answers say of what the line writes
module _ (b : Book) (line : List ℕ) (label : Token) (body head : List Written) (writes : WritesRule line label body head) where
  label_free : Yes b line label_unused → (i : ℕ) (e : Entry) → At b.entries i e → e.label ≡ label.text → ⊥
  label_free (l, s, t, w, none) =
      none_first (λ x. x.label ≡ label.text) b.entries (λ k x f. none k x (subst (λ (y : Token). Carries b y.text k x) (one_label line label l body head s t writes w) f))

  none_wrong : Yes b line columns → (k : ℕ) (a : Written) → At (body ++ head) k a → WrongColumns b.known (body ++ head) a → ⊥
  none_wrong (l, s, t, w, none) = subst (λ y. ((k : ℕ) (a : Written) → At y k a → WrongColumns b.known y a → ⊥)) (one_list line l label s t body head w writes) none

  few_known : (after : List Predicate) → Yes b line predicates → Learned b.known (body ++ head) after → length after ≤ 32
  few_known after (l, s, t, zs, w, j, few) learned =
      let q = subst (λ y. Learned b.known y zs) (one_list line l label s t body head w writes) j in
      subst (λ y. length y ≤ 32) (joined_single b.known (map predicate_of (body ++ head)) zs after q learned) few

-- ---- the known predicates

module _ (known : List Predicate) (atoms : List Written) (right : (k : ℕ) (a : Written) → At atoms k a → WrongColumns known atoms a → ⊥) where
  -- an atom has the columns that it should have
  as_wanted : (k : ℕ) (a : Written) (n : ℕ) → At atoms k a → Wanted known atoms a.predicate.text n → length a.words ≡ n
  as_wanted k a n at w = ⊎_elim (λ e. e) (λ ne. absurd (right k a at (n, w, ne))) (cases_eq (length a.words) n)

  -- two atoms of one name have the same columns
  as_others : (k j : ℕ) (a c : Written) → At atoms k a → At atoms j c → a.predicate.text ≡ c.predicate.text → length a.words ≡ length c.words
  as_others k j a c at_a at_c e = ⊎_elim (λ q. q) (λ ne. absurd (differ ne)) (cases_eq (length a.words) (length c.words))
    where
      name : List ℕ
      name = c.predicate.text

      both : (n : ℕ) → Wanted known atoms name n → length a.words ≡ length c.words
      both n w = as_wanted k a n at_a (subst (λ x. Wanted known atoms x n) (sym e) w) ∙ sym (as_wanted j c n at_c w)

      differ : length a.words ≢ length c.words → ⊥
      differ ne =
          let unknown : Known known name → ⊥ = λ (i, p, at, q). ne (both p.columns (inl (i, p, at, q, refl))) in
          none_first (λ (x : Written). x.predicate.text ≡ name) atoms (λ i x f. ne (both (length x.words) (inr (unknown, i, x, f, refl)))) j c at_c refl

  -- what becomes known has different names
  learned_distinct : Distinct known → (after : List Predicate) → Learned known atoms after → Distinct after
  learned_distinct apart after learned i j p q at_p at_q e = once i j q (subst (λ x. At after i x) (same (from p i at_p) (from q j at_q)) at_p) at_q
    where
      once : Once after
      once = joined_once known (map predicate_of atoms) after learned (λ i j x a c. apart i j x x a c refl)

      from : (x : Predicate) (n : ℕ) → At after n x → Holds known x ⊎ Holds (map predicate_of atoms) x
      from x n at = joined_only known (map predicate_of atoms) after learned x (n, at)

      mixed : (x : Predicate) (w : Written) (n m : ℕ) → At known n x → At atoms m w → x.name ≡ w.predicate.text → x ≡ predicate_of w
      mixed x w n m at_x at_w e = same_predicate x (predicate_of w) e (sym (as_wanted m w x.columns at_w (inl (n, x, at_x, e, refl))))

      same : Holds known p ⊎ Holds (map predicate_of atoms) p → Holds known q ⊎ Holds (map predicate_of atoms) q → p ≡ q
      same (inl (n, x)) (inl (m, y)) = at_same known m p q (subst (λ k. At known k p) (apart n m p q x y e) x) y
      same (inl (n, x)) (inr (m, y)) = let (w, at_w, f) = at_map predicate_of atoms m q y in mixed p w n m x at_w (e ∙ ap (λ z. z.name) (sym f)) ∙ f
      same (inr (n, x)) (inl (m, y)) = let (w, at_w, f) = at_map predicate_of atoms n p x in sym (mixed q w m n y at_w (sym e ∙ ap (λ z. z.name) (sym f)) ∙ f)
      same (inr (n, x)) (inr (m, y)) =
          let (w, at_w, f) = at_map predicate_of atoms n p x in
          let (v, at_v, g) = at_map predicate_of atoms m q y in
          let names = ap (λ z. z.name) f ∙ e ∙ ap (λ z. z.name) (sym g) in
          sym f ∙ same_predicate (predicate_of w) (predicate_of v) names (as_others n m w v at_w at_v names) ∙ g

-- an atom of one of two sides
at_split : {A : Type 0} (xs ys : List A) (k : ℕ) (x : A) → At (xs ++ ys) k x → Holds xs x ⊎ Holds ys x
at_split [] ys k x h = inr (k, h)
at_split (z ∷ zs) ys zero x h = inl (0, h)
at_split (z ∷ zs) ys (suc k) x h = cases (at_split zs ys k x h)
  where
    cases : Holds zs x ⊎ Holds ys x → Holds (z ∷ zs) x ⊎ Holds ys x
    cases (inl (n, i)) = inl (suc n, i)
    cases (inr i) = inr i

words_few : (label : Token) (body head : List Written) → WrittenWell label body head → (k : ℕ) (a : Written) → At (body ++ head) k a → (0 < length a.words) × (length a.words ≤ 4)
words_few label body head w k a h = cases (at_split body head k a h)
  where
    cases : Holds body a ⊎ Holds head a → (0 < length a.words) × (length a.words ≤ 4)
    cases (inl (n, i)) = (w.the_body.word n a i, w.the_body.words n a i)
    cases (inr (n, i)) = (w.the_head.word n a i, w.the_head.words n a i)

-- ---- the rule that is added

module _ (known : List Predicate) (names : List (List ℕ)) (ws : List Written) (us : List Atom) (means : Pairwise (AtomMeans known names) ws us) where
  atom_known : (k : ℕ) (u : Atom) → At us k u → (w : Written) × At ws k w × At known u.predicate (predicate_of w) × (length w.words ≡ length u.columns)
  atom_known k u h =
      let (w, at, m) = pairs_left (AtomMeans known names) ws us means k u h in
      (w, at, m.0.0, pairs_length (λ (t : Token) v. FirstAt names v t.text) w.words u.columns m.1)

  side_known : (k : ℕ) (u : Atom) → At us k u → KnownAtom known u
  side_known k u h = let (w, _, at, long) = atom_known k u h in (predicate_of w, at, long)

  side_small : length known ≤ 32 → WrittenSide ws → SmallSide us
  side_small few s =
      let long = pairs_length (AtomMeans known names) ws us means in
      record {
        some = omega (arith, s.some, long);
        few = omega (arith, s.few, long);
        predicate = λ k u h. let (w, _, at, _) = atom_known k u h in omega (arith, at_below known u.predicate (predicate_of w) at);
        column = λ k u h. let (w, at, _, e) = atom_known k u h in omega (arith, s.word k w at, e);
        columns = λ k u h. let (w, at, _, e) = atom_known k u h in omega (arith, s.words k w at, e);
      }

-- what holds of one rule of a sound book
record Good (known : List Predicate) (r : Rule) : Type 0 where
  pub small_body : SmallSide r.body
  pub small_head : SmallSide r.head
  pub numbered : Numbered r
  pub known_body : (k : ℕ) (a : Atom) → At r.body k a → KnownAtom known a
  pub known_head : (k : ℕ) (a : Atom) → At r.head k a → KnownAtom known a

good_rule : (known : List Predicate) (label : Token) (body head : List Written) (r : Rule) → length known ≤ 32 → WrittenWell label body head → RuleMeans known body head r → Good known r
good_rule known label body head r few w m = record {
  small_body = side_small known m.names body r.body m.the_body few w.the_body;
  small_head = side_small known m.names head r.head m.the_head few w.the_head;
  numbered = means_numbered known body head r m;
  known_body = side_known known m.names body r.body m.the_body;
  known_head = side_known known m.names head r.head m.the_head;
}

-- a rule stays good when more predicates become known
good_stays : (known more after : List Predicate) (r : Rule) → Joined known more after → Good known r → Good after r
good_stays known more after r joined g = record {
  small_body = g.small_body;
  small_head = g.small_head;
  numbered = g.numbered;
  known_body = λ k a h. let (p, at, e) = g.known_body k a h in (p, joined_keeps known more after joined a.predicate p at, e);
  known_head = λ k a h. let (p, at, e) = g.known_head k a h in (p, joined_keeps known more after joined a.predicate p at, e);
}

sound_good : (b : Book) → Sound b → (i : ℕ) (e : Entry) → At b.entries i e → Good b.known e.rule
sound_good b s i e h =
    let at = map_at (λ (x : Entry). x.rule) b.entries i e h in
    record { small_body = s.small.body i e.rule at; small_head = s.small.head i e.rule at; numbered = s.small.numbered i e.rule at; known_body = λ k a g. s.body i k e a h g; known_head = λ k a g. s.head i k e a h g }

-- a book of good rules
module _ (b : Book) (few_entries : length b.entries ≤ 64) (few : length b.known ≤ 32) (apart : Distinct b.known)
    (wide : (i : ℕ) (p : Predicate) → At b.known i p → (0 < p.columns) × (p.columns ≤ 4))
    (labels : (i j : ℕ) (e f : Entry) → At b.entries i e → At b.entries j f → e.label ≡ f.label → i ≡ j)
    (good : (i : ℕ) (e : Entry) → At b.entries i e → Good b.known e.rule) where
  good_at : (i : ℕ) (r : Rule) → At (rules b) i r → Good b.known r
  good_at i r h = let (e, at, q) = at_map (λ (x : Entry). x.rule) b.entries i r h in subst (λ z. Good b.known z) q (good i e at)

  sound_from : Sound b
  sound_from = record {
    small = record { few = omega (arith, few_entries, length-map b.entries (λ (x : Entry). x.rule)); body = λ i r h. (good_at i r h).small_body; head = λ i r h. (good_at i r h).small_head; numbered = λ i r h. (good_at i r h).numbered };
    few = few;
    names = apart;
    columns = wide;
    labels = labels;
    body = λ i k e a h g. (good i e h).known_body k a g;
    head = λ i k e a h g. (good i e h).known_head k a g;
  }

-- ---- the empty book

pub sound_empty : Sound empty
sound_empty = sound_from empty (omega arith) (omega arith) (λ i j p q a c e. absurd a) (λ i p a. absurd a) (λ i j e f a c q. absurd a) (λ i e a. absurd a)

-- ---- adding

pub sound_added : (b after : Book) (line : List ℕ) → Sound b → Passes b line → Adds b line after → Sound after
sound_added b after line s (a, (c, (d, (e, (f, (unused, (fit, (rest, (room, _))))))))) adds = subst (λ x. Sound x) (sym adds.becomes) grown
  where
    body : List Written
    body = adds.body

    head : List Written
    head = adds.head

    entry : Entry
    entry = record { label = adds.label.text; rule = adds.rule }

    next : Book
    next = record { entries = b.entries ++ (entry ∷ []); known = adds.known }

    well : WrittenWell adds.label body head
    well = written_well line adds.label body head (a, (c, (d, (e, (f, tt))))) adds.writes

    few : length adds.known ≤ 32
    few = few_known b line adds.label body head adds.writes adds.known rest adds.learned

    wide : (i : ℕ) (p : Predicate) → At adds.known i p → (0 < p.columns) × (p.columns ≤ 4)
    wide i p h = cases (joined_only b.known (map predicate_of (body ++ head)) adds.known adds.learned p (i, h))
      where
        cases : Holds b.known p ⊎ Holds (map predicate_of (body ++ head)) p → (0 < p.columns) × (p.columns ≤ 4)
        cases (inl (n, at)) = s.columns n p at
        cases (inr (n, at)) = let (w, i, q) = at_map predicate_of (body ++ head) n p at in subst (λ x. (0 < x.columns) × (x.columns ≤ 4)) q (words_few adds.label body head well n w i)

    labels : (i j : ℕ) (x y : Entry) → At next.entries i x → At next.entries j y → x.label ≡ y.label → i ≡ j
    labels i j x y g h q = cases (at_snoc b.entries entry i x g) (at_snoc b.entries entry j y h)
      where
        free : (i : ℕ) (x : Entry) → At b.entries i x → x.label ≡ adds.label.text → ⊥
        free = label_free b line adds.label body head adds.writes unused

        cases : At b.entries i x ⊎ ((i ≡ length b.entries) × (entry ≡ x)) → At b.entries j y ⊎ ((j ≡ length b.entries) × (entry ≡ y)) → i ≡ j
        cases (inl m) (inl n) = s.labels i j x y m n q
        cases (inl m) (inr (_, o)) = absurd (free i x m (q ∙ ap (λ z. z.label) (sym o)))
        cases (inr (_, o)) (inl n) = absurd (free j y n (sym q ∙ ap (λ z. z.label) (sym o)))
        cases (inr (o, _)) (inr (t, _)) = o ∙ sym t

    good : (i : ℕ) (x : Entry) → At next.entries i x → Good adds.known x.rule
    good i x h = cases (at_snoc b.entries entry i x h)
      where
        cases : At b.entries i x ⊎ ((i ≡ length b.entries) × (entry ≡ x)) → Good adds.known x.rule
        cases (inl m) = good_stays b.known (map predicate_of (body ++ head)) adds.known x.rule adds.learned (sound_good b s i x m)
        cases (inr (_, o)) = subst (λ z. Good adds.known z.rule) o (good_rule adds.known adds.label body head adds.rule few well adds.means)

    grown : Sound next
    grown = sound_from next (omega (arith, room, length-append b.entries (entry ∷ []))) few
        (learned_distinct b.known (body ++ head) (none_wrong b line adds.label body head adds.writes fit) s.names adds.known adds.learned) wide labels good

-- ---- withdrawing

-- the number that an element had before number n was taken out
abbrev skip : ℕ → ℕ → ℕ
skip zero i = suc i
skip (suc n) zero = zero
skip (suc n) (suc i) = suc (skip n i)

skip_single : (n i j : ℕ) → skip n i ≡ skip n j → i ≡ j
skip_single zero i j e = omega arith
skip_single (suc n) zero zero e = refl
skip_single (suc n) zero (suc j) e = absurd (omega arith)
skip_single (suc n) (suc i) zero e = absurd (omega arith)
skip_single (suc n) (suc i) (suc j) e = ap suc (skip_single n i j (omega arith))

module _ {A : Type 0} where
  was_at : (n : ℕ) (xs : List A) (i : ℕ) (x : A) → At (take n xs ++ drop (suc n) xs) i x → At xs (skip n i) x
  was_at zero [] i x h = absurd h
  was_at zero (y ∷ ys) i x h = h
  was_at (suc n) [] i x h = absurd h
  was_at (suc n) (y ∷ ys) zero x h = h
  was_at (suc n) (y ∷ ys) (suc i) x h = was_at n ys i x h

  shorter : (n : ℕ) (xs : List A) → length (take n xs ++ drop (suc n) xs) ≤ length xs
  shorter zero [] = omega arith
  shorter zero (y ∷ ys) = omega arith
  shorter (suc n) [] = omega arith
  shorter (suc n) (y ∷ ys) = let h = shorter n ys in omega arith

pub sound_withdrawn : (b after : Book) (label : List ℕ) → Sound b → Withdraws b label after → Sound after
sound_withdrawn b after label s w = subst (λ x. Sound x) (sym w.becomes) (sound_from next (omega (arith, s.small.few, length-map b.entries (λ (x : Entry). x.rule), shorter n b.entries)) s.few s.names s.columns
    (λ i j e f g h q. skip_single n i j (s.labels (skip n i) (skip n j) e f (was_at n b.entries i e g) (was_at n b.entries j f h) q))
    (λ i e h. sound_good b s (skip n i) e (was_at n b.entries i e h)))
  where
    n : ℕ
    n = w.number

    next : Book
    next = record { entries = take n b.entries ++ drop (suc n) b.entries; known = b.known }
