-- A word goes into its side, or is one too many.
use Rattle.std.proofs.Common.{◌≡◌, ℕ, zero, suc, ◌≤◌, true, false, ◌⊎◌, List, [], ◌∷◌, ◌++◌, map, length, is_some, Some, None, Ok, Err, Option, Result, sym, refl, ap, ◌∙◌, subst, inl, inr, arith, length-append}
use Rattle.std.specs.Borrow.{Bor}
use Rattle.std.specs.Result.{is_err}
use Rattle.std.proofs.lemmas.List.{length-map}
use Rattle.std.proofs.lemmas.Bool.{both_ways}
use Rattle.bounded.specs.Bounded.{items}
use Rattle.bounded.specs.declared.Full.{Full}
use Rattle.lists.specs.Places.{At}
use Rattle.lists.proofs.Numbered.{at_below, at_left, at_next, at_snoc}
use Rattle.lists.proofs.Mapped.{map_snoc, at_map}
use Rattle.tokens.specs.Tokens.{Token}
use Rattle.tokens.specs.declared.token.Word.{Word}
use Rattle.patterns.specs.Patterns.{Written, Over, Extra}
use Rattle.patterns.specs.Machine.{atom_of}
use Rattle.patterns.specs.declared.atom.Atom.{Atom}
use Rattle.patterns.specs.declared.atom.Side.{Side}
use Rattle.patterns.specs.declared.reader.Tables.{Tables}
use Rattle.patterns.specs.declared.state.Section.{Section}
use Rattle.patterns.specs.declared.state.Section.TheVariants.{Body, Head, Fact}
use Rattle.patterns.specs.declared.state.State.{State}
use Rattle.patterns.specs.declared.state.State.TheVariants as state
use Rattle.patterns.specs.Tables.{word_of, written, side_of, PartOf, AtomPartOf, SidePartOf, FewIn, Pushed, Begun, Added}
use Rattle.patterns.specs.Drafts.{Parts, push_word, grown, both, Keeps, ExtraIn, Held, Kept}
use Rattle.patterns.proofs.Growing.{push_last, name_extra, word_extra, extra_stays, extra_back}

-- the side holds these atoms, in words of the line
pub record Holding (line : Bor (List ℕ)) (d : Side) (xs : List Written) : Type 0 where
  spells : side_of d ≡ xs
  few : FewIn d
  part : SidePartOf line d

-- what holds of all atoms of a side, and of one more behind them
behind : {P : Atom → Type 0} (xs ys : List Atom) (a : Atom) → ys ≡ xs ++ (a ∷ []) → ((k : ℕ) (b : Atom) → At xs k b → P b) → P a → (k : ℕ) (b : Atom) → At ys k b → P b
behind {P} xs ys a e all one k b q = cases (at_snoc xs a k b (subst (λ y. At y k b) e q))
  where
    cases : At xs k b ⊎ ((k ≡ length xs) × (a ≡ b)) → P b
    cases (inl h) = all k b h
    cases (inr (_, same)) = subst P same one

-- the front of a side, and its last atom
front_of : {P : Atom → Type 0} (xs ys : List Atom) (a : Atom) → ys ≡ xs ++ (a ∷ []) → ((k : ℕ) (b : Atom) → At ys k b → P b) → (k : ℕ) (b : Atom) → At xs k b → P b
front_of xs ys a e all k b q = all k b (subst (λ y. At y k b) (sym e) (at_left xs (a ∷ []) k b q))

last_of : {P : Atom → Type 0} (xs ys : List Atom) (a : Atom) → ys ≡ xs ++ (a ∷ []) → ((k : ℕ) (b : Atom) → At ys k b → P b) → P a
last_of xs ys a e all = all (length xs) a (subst (λ y. At y (length xs) a) (sym e) (at_next xs [] a))

-- ---- a predicate
no_words : {A : Type 0} (xs : List A) → xs ≡ [] → length xs ≤ 4
no_words xs e = let z = ap length e in omega arith

begun : (line : Bor (List ℕ)) (d e : Side) (w : Word) (xs : List Written) → PartOf line w → Holding line d xs → Begun d w e (Ok tt) → Holding line e (xs ++ (atom_of (word_of w) [] ∷ []))
begun line d e w xs o g (a, h, p, n, l) = record {
  spells = ap (map written) h ∙ map_snoc written (items d.atoms) a
      ∙ ap (λ (k : List Written). k ++ (written a ∷ [])) g.spells
      ∙ ap (λ (k : Written). xs ++ (k ∷ [])) (ap (λ (u : Word). atom_of (word_of u) (map word_of (items a.words))) p ∙ ap (λ (u : List Word). atom_of (word_of w) (map word_of u)) n);
  few = record {
    atoms = let q = ap length h ∙ length-append (items d.atoms) (a ∷ []) in omega arith;
    words = behind (items d.atoms) (items e.atoms) a h g.few.words (no_words (items a.words) n);
  };
  part = behind (items d.atoms) (items e.atoms) a h g.part (record { predicate = subst (PartOf line) (sym p) o; words = λ j v q. absurd (subst (λ y. At y j v) n q) });
}

begun_full : (line : Bor (List ℕ)) (d e : Side) (w : Word) (xs : List Written) (x : Full) → Holding line d xs → Begun d w e (Err x) → length xs ≡ 4
begun_full line d e w xs x g (_, n) = let few = g.few.atoms in ap length (sym g.spells) ∙ length-map (items d.atoms) written ∙ omega arith

-- ---- a word in brackets
pushed : (a b : Atom) (w : Word) → Pushed a w b (Ok tt) → written b ≡ atom_of (written a).predicate ((written a).words ++ (word_of w ∷ []))
pushed a b w (p, h, _) =
    ap (λ (u : Word). atom_of (word_of u) (map word_of (items b.words))) p
    ∙ ap (λ (u : List Token). atom_of (word_of a.predicate) u) (ap (map word_of) h ∙ map_snoc word_of (items a.words) w)

pushed_part : (line : Bor (List ℕ)) (a b : Atom) (w : Word) → PartOf line w → AtomPartOf line a → Pushed a w b (Ok tt) → AtomPartOf line b
pushed_part line a b w o g (p, h, _) = record { predicate = subst (PartOf line) (sym p) g.predicate; words = λ j v q. cases j v (at_snoc (items a.words) w j v (subst (λ y. At y j v) h q)) }
  where
    cases : (j : ℕ) (v : Word) → At (items a.words) j v ⊎ ((j ≡ length (items a.words)) × (w ≡ v)) → PartOf line v
    cases j v (inl q) = g.words j v q
    cases j v (inr (_, same)) = subst (PartOf line) same o

added : (line : Bor (List ℕ)) (d e : Side) (w : Word) (xs : List Written) → PartOf line w → Holding line d xs → Added d w e (Ok tt) → Holding line e (push_word xs (word_of w))
added line d e w xs o g (inl (n, same, _)) = subst (λ y. Holding line y (push_word xs (word_of w))) (sym same) (record {
  spells = ap (map written) n ∙ ap (λ (k : List Written). push_word k (word_of w)) (sym (ap (map written) n) ∙ g.spells);
  few = g.few;
  part = g.part;
})
added line d e w xs o g (inr h) =
    let (p, q, l) = h.pushed in
    record {
      spells = ap (map written) h.is ∙ map_snoc written h.before h.new
          ∙ ap (λ (k : Written). map written h.before ++ (k ∷ [])) (pushed h.old h.new w h.pushed)
          ∙ sym (push_last (map written h.before) (written h.old) (word_of w))
          ∙ ap (λ (k : List Written). push_word k (word_of w)) (sym (map_snoc written h.before h.old) ∙ sym (ap (map written) h.was) ∙ g.spells);
      few = record {
        atoms = let i = ap length h.is ∙ length-append h.before (h.new ∷ []) in let j = ap length h.was ∙ length-append h.before (h.old ∷ []) in let few = g.few.atoms in omega arith;
        words = behind h.before (items e.atoms) h.new h.is (front_of h.before (items d.atoms) h.old h.was g.few.words) (let i = ap length q ∙ length-append (items h.old.words) (w ∷ []) in omega arith);
      };
      part = behind h.before (items e.atoms) h.new h.is (front_of h.before (items d.atoms) h.old h.was g.part) (pushed_part line h.old h.new w o (last_of h.before (items d.atoms) h.old h.was g.part) h.pushed);
    }

-- the last atom has four words
added_full : (line : Bor (List ℕ)) (d e : Side) (w : Word) (xs : List Written) (x : Full) → Holding line d xs → Added d w e (Err x) → (before : List Written) × (a : Written) × (xs ≡ before ++ (a ∷ [])) × (length a.words ≡ 4)
added_full line d e w xs x g (inl (_, _, r)) = absurd (both_ways true (ap is_err r) refl)
added_full line d e w xs x g (inr h) =
    let (_, n) = h.pushed in
    let few = last_of h.before (items d.atoms) h.old h.was g.few.words in
    (map written h.before, written h.old, sym g.spells ∙ ap (map written) h.was ∙ map_snoc written h.before h.old, length-map (items h.old.words) word_of ∙ omega arith)

fifth_word : (xss : List (List Written)) (n : ℕ) (xs : List Written) (t : Token) → At xss n (push_word xs t) → (before : List Written) × (a : Written) × (xs ≡ before ++ (a ∷ [])) × (length a.words ≡ 4) → Extra xss t
fifth_word xss n xs t h (before, a, e, l) = word_extra xss n before a t (subst (λ k. At xss n (push_word k t)) e h) l

-- ---- in the body, or in the head

in_body : (line : Bor (List ℕ)) (t : Tables) (x : Parts) → Keeps line t x → Holding line t.body x.first
in_body line t x k = record { spells = k.first; few = k.body_few; part = k.body_part }

in_head : (line : Bor (List ℕ)) (t : Tables) (x : Parts) → Keeps line t x → Holding line t.head x.second
in_head line t x k = record { spells = k.second; few = k.head_few; part = k.head_part }

-- the tables with another body, and with another head
abbrev pub with_body : Tables → Side → Tables
with_body t d = record { label = t.label; body = d; head = t.head }

abbrev pub with_head : Tables → Side → Tables
with_head t d = record { label = t.label; body = t.body; head = d }

body_kept : (line : Bor (List ℕ)) (t : Tables) (x : Parts) (d : Side) (xs : List Written) → Keeps line t x → Holding line d xs → Keeps line (with_body t d) (record { label = x.label; first = xs; second = x.second })
body_kept line t x d xs k g = record { label = k.label; first = g.spells; second = k.second; body_few = g.few; head_few = k.head_few; body_part = g.part; head_part = k.head_part }

head_kept : (line : Bor (List ℕ)) (t : Tables) (x : Parts) (d : Side) (xs : List Written) → Keeps line t x → Holding line d xs → Keeps line (with_head t d) (record { label = x.label; first = x.first; second = xs })
head_kept line t x d xs k g = record { label = k.label; first = k.first; second = g.spells; body_few = k.body_few; head_few = g.few; body_part = k.body_part; head_part = g.part }

name_body : (w : Word) (old : Tables) (d : Side) (r : Result (Unit {0}) Full) → Begun old.body w d r → Kept (state.Name Body) w old (with_body old d) r
name_body w old d (Ok u) b line x o k = body_kept line old x d _ k (begun line old.body d w x.first o (in_body line old x k) b)
name_body w old d (Err e) b line x o k = name_extra (both (grown (state.Name Body) x (word_of w))) 0 x.first (word_of w) refl (begun_full line old.body d w x.first e (in_body line old x k) b)

name_head : (w : Word) (old : Tables) (d : Side) (r : Result (Unit {0}) Full) → Begun old.head w d r → Kept (state.Name Head) w old (with_head old d) r
name_head w old d (Ok u) b line x o k = head_kept line old x d _ k (begun line old.head d w x.second o (in_head line old x k) b)
name_head w old d (Err e) b line x o k = name_extra (both (grown (state.Name Head) x (word_of w))) 1 x.second (word_of w) refl (begun_full line old.head d w x.second e (in_head line old x k) b)

word_body : (w : Word) (old : Tables) (d : Side) (r : Result (Unit {0}) Full) → Added old.body w d r → Kept (state.Word Body) w old (with_body old d) r
word_body w old d (Ok u) b line x o k = body_kept line old x d _ k (added line old.body d w x.first o (in_body line old x k) b)
word_body w old d (Err e) b line x o k = fifth_word (both (grown (state.Word Body) x (word_of w))) 0 x.first (word_of w) refl (added_full line old.body d w x.first e (in_body line old x k) b)

word_head : (w : Word) (old : Tables) (d : Side) (r : Result (Unit {0}) Full) → Added old.head w d r → Kept (state.Word Head) w old (with_head old d) r
word_head w old d (Ok u) b line x o k = head_kept line old x d _ k (added line old.head d w x.second o (in_head line old x k) b)
word_head w old d (Err e) b line x o k = fifth_word (both (grown (state.Word Head) x (word_of w))) 1 x.second (word_of w) refl (added_full line old.head d w x.second e (in_head line old x k) b)

-- a fact's one atom is kept as a body is
not_head : (◌≡◌ {A = Section} Head Body) ⊎ (◌≡◌ {A = Section} Head Fact) → ⊥
not_head (inl e) = let z : ◌≡◌ {A = ℕ} 0 1 = cc in omega arith
not_head (inr e) = let z : ◌≡◌ {A = ℕ} 0 1 = cc in omega arith

pub name_in_body : (p : Section) (w : Word) (old : Tables) (d : Side) (r : Result (Unit {0}) Full) → (p ≡ Body) ⊎ (p ≡ Fact) → Begun old.body w d r → Kept (state.Name p) w old (with_body old d) r
name_in_body Body w old d r e b = name_body w old d r b
name_in_body Head w old d r e b = absurd (not_head e)
name_in_body Fact w old d r e b = name_body w old d r b

pub name_in_head : (p : Section) (w : Word) (old : Tables) (d : Side) (r : Result (Unit {0}) Full) → p ≡ Head → Begun old.head w d r → Kept (state.Name p) w old (with_head old d) r
name_in_head p w old d r e b = subst (λ q. Kept (state.Name q) w old (with_head old d) r) (sym e) (name_head w old d r b)

pub word_in_body : (p : Section) (w : Word) (old : Tables) (d : Side) (r : Result (Unit {0}) Full) → (p ≡ Body) ⊎ (p ≡ Fact) → Added old.body w d r → Kept (state.Word p) w old (with_body old d) r
word_in_body Body w old d r e b = word_body w old d r b
word_in_body Head w old d r e b = absurd (not_head e)
word_in_body Fact w old d r e b = word_body w old d r b

pub word_in_head : (p : Section) (w : Word) (old : Tables) (d : Side) (r : Result (Unit {0}) Full) → p ≡ Head → Added old.head w d r → Kept (state.Word p) w old (with_head old d) r
word_in_head p w old d r e b = subst (λ q. Kept (state.Word q) w old (with_head old d) r) (sym e) (word_head w old d r b)

-- ---- what the tables hold is not too many

few_atoms : (d : Side) (k : ℕ) (a : Written) (v : Token) → FewIn d → At (side_of d) k a → Over k a v → ⊥
few_atoms d k a v g h (inl (l, _)) = let b = at_below (side_of d) k a h in let e = length-map (items d.atoms) written in let few = g.atoms in omega arith
few_atoms d k a v g h (inr (j, q, l)) =
    let (b, i, e) = at_map written (items d.atoms) k a h in
    let below = at_below (map word_of (items b.words)) j v (subst (λ y. At y.words j v) (sym e) q) in
    let long = length-map (items b.words) word_of in
    let few = g.words k b i in
    omega arith

pub keeps_few : (line : Bor (List ℕ)) (t : Tables) (x : Parts) (v : Token) → Keeps line t x → ExtraIn x v → ⊥
keeps_few line t x v p (zero, side, k, a, h, i, o) = few_atoms t.body k a v p.body_few (subst (λ y. At y k a) (sym h ∙ sym p.first) i) o
keeps_few line t x v p (suc zero, side, k, a, h, i, o) = few_atoms t.head k a v p.head_few (subst (λ y. At y k a) (sym h ∙ sym p.second) i) o
keeps_few line t x v p (suc (suc n), side, k, a, h, i, o) = absurd h

-- ---- one word more

-- what was held goes on, unless something was too many before
abbrev pub Notes : State → Word → Tables → Option ℕ → Tables → Option ℕ → Type 0
Notes st w old extra new more = (line : Bor (List ℕ)) (x : Parts) (at : ℕ) → PartOf line w → Held line old extra x at → at ≤ w.place → Held line new more (grown st x (word_of w)) w.place

pub note_kept : (st : State) (w : Word) (old new : Tables) (extra : Option ℕ) (r : Result (Unit {0}) Full) → is_some extra ≡ false → is_err r ≡ false → Kept st w old new r → Notes st w old extra new extra
note_kept st w old new None (Ok u) e f k line x at o h l = k line x o h
note_kept st w old new None (Err z) e f k line x at o h l = absurd (both_ways _ f refl)
note_kept st w old new (Some p) r e f k line x at o h l = absurd (both_ways _ e refl)

pub note_extra : (st : State) (w : Word) (old new : Tables) (extra : Option ℕ) (r : Result (Unit {0}) Full) → is_some extra ≡ false → is_err r ≡ true → Kept st w old new r → Notes st w old extra new (Some w.place)
note_extra st w old new None (Ok u) e f k line x at o h l = absurd (both_ways _ refl f)
note_extra st w old new None (Err z) e f k line x at o h l = record { word = word_of w; extra = k line x o h; place = refl; least = λ v m. cases v (extra_back st x (word_of w) v m); reached = omega arith }
  where
    cases : (v : Token) → ExtraIn x v ⊎ (word_of w ≡ v) → w.place ≤ v.place
    cases v (inl m) = absurd (keeps_few line old x v h m)
    cases v (inr q) = let same = ap (λ (y : Token). y.place) q in omega arith
note_extra st w old new (Some p) r e f k line x at o h l = absurd (both_ways _ e refl)

pub note_gone : (st : State) (w : Word) (old : Tables) (extra : Option ℕ) → is_some extra ≡ true → Notes st w old extra old extra
note_gone st w old None e line x at o h l = absurd (both_ways _ refl e)
note_gone st w old (Some p) e line x at o h l = record {
  word = h.word;
  extra = extra_stays st x (word_of w) h.word h.extra;
  place = h.place;
  least = λ v m. cases v (extra_back st x (word_of w) v m);
  reached = let b = h.reached in omega arith;
}
  where
    cases : (v : Token) → ExtraIn x v ⊎ (word_of w ≡ v) → p ≤ v.place
    cases v (inl m) = h.least v m
    cases v (inr q) = let same = ap (λ (y : Token). y.place) q in let b = h.reached in omega arith
