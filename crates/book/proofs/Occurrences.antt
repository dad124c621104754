-- Names that are joined from nothing number their words by first occurrence.
use Rattle.std.proofs.Common.{◌≡◌, ℕ, zero, suc, ◌<◌, ◌≤◌, ◌⊎◌, List, [], ◌∷◌, ◌++◌, map, length, refl, subst, inl, inr, arith, length-append}
use Rattle.lists.specs.Places.{At, FirstAt, Pairwise}
use Rattle.lists.specs.Joins.{Joined}
use Rattle.lists.proofs.Numbered.{order, at_same, at_below, at_next}
use Rattle.lists.proofs.Joining.{joined_keeps, joined_once}
use Rattle.lists.proofs.Mapped.{pairs_left}
use Rattle.tokens.specs.Tokens.{Token}
use Rattle.patterns.specs.Patterns.{Written}
use Rattle.theory.specs.Rules.{Atom, Rule, Numbered, written}
use Rattle.naming.specs.Meaning.{Predicate, words_of, AtomMeans, RuleMeans}

module _ {A : Type 0} where
  first_least : (zs : List A) (v m : ℕ) (y : A) → FirstAt zs v y → At zs m y → v ≤ m
  first_least zs v m y f h = cases (order v m)
    where
      cases : (v < m) ⊎ ((v ≡ m) ⊎ (m < v)) → v ≤ m
      cases (inl l) = omega arith
      cases (inr (inl e)) = omega arith
      cases (inr (inr l)) = absurd (f.1 m l h)

  -- what was joined before y occurs before it
  occurs_before : (xs ys zs : List A) → Joined xs ys zs → (i v u : ℕ) (y z : A) → At ys i y → FirstAt zs v y → At zs u z → u < v → length xs ≤ u → (j : ℕ) × (j < i) × At ys j z
  occurs_before xs [] zs p i v u y z h f k l m = absurd h
  occurs_before xs (b ∷ ys) zs (inl ((n, have), p)) zero v u y z h f k l m =
      let t = at_below xs n b have in
      let g = first_least zs v n y f (joined_keeps xs ys zs p n y (subst (λ x. At xs n x) h have)) in
      absurd (omega arith)
  occurs_before xs (b ∷ ys) zs (inr (_, p)) zero v u y z h f k l m =
      let g = first_least zs v (length xs) y f (joined_keeps (xs ++ (b ∷ [])) ys zs p (length xs) y (subst (λ x. At (xs ++ (b ∷ [])) (length xs) x) h (at_next xs [] b))) in
      absurd (omega arith)
  occurs_before xs (b ∷ ys) zs (inl (_, p)) (suc i) v u y z h f k l m = let (j, q, t) = occurs_before xs ys zs p i v u y z h f k l m in (suc j, omega arith, t)
  occurs_before xs (b ∷ ys) zs (inr (_, p)) (suc i) v u y z h f k l m = cases (order (length xs) u) (λ d. occurs_before (xs ++ (b ∷ [])) ys zs p i v u y z h f k l d)
    where
      cases : (length xs < u) ⊎ ((length xs ≡ u) ⊎ (u < length xs)) → (length (xs ++ (b ∷ [])) ≤ u → (j : ℕ) × (j < i) × At ys j z) → (j : ℕ) × (j < suc i) × At (b ∷ ys) j z
      cases (inl d) next = let (j, q, t) = next (omega (arith, length-append xs (b ∷ []))) in (suc j, omega arith, t)
      cases (inr (inl e)) next = (0, omega arith, at_same zs u b z (subst (λ n. At zs n b) e (joined_keeps (xs ++ (b ∷ [])) ys zs p (length xs) b (at_next xs [] b))) k)
      cases (inr (inr d)) next = absurd (omega arith)

module _ {A B : Type 0} (R : A → B → Type 0) where
  pairs_right : (xs : List A) (ys : List B) → Pairwise R xs ys → (i : ℕ) (x : A) → At xs i x → (y : B) × At ys i y × R x y
  pairs_right [] ys p i x h = absurd h
  pairs_right (z ∷ xs) [] p i x h = absurd p
  pairs_right (z ∷ xs) (y ∷ ys) (r, p) zero x h = (y, refl, subst (λ k. R k y) h r)
  pairs_right (z ∷ xs) (y ∷ ys) (r, p) (suc i) x h = pairs_right xs ys p i x h

  pairs_append : (xs us : List A) (ys vs : List B) → Pairwise R xs ys → Pairwise R us vs → Pairwise R (xs ++ us) (ys ++ vs)
  pairs_append [] us [] vs p q = q
  pairs_append [] us (y ∷ ys) vs p q = absurd p
  pairs_append (x ∷ xs) us [] vs p q = absurd p
  pairs_append (x ∷ xs) us (y ∷ ys) vs (r, p) q = (r, pairs_append xs us ys vs p q)

-- the name has this number
abbrev Named : List (List ℕ) → List ℕ → ℕ → Type 0
Named names y v = FirstAt names v y

texts : (names : List (List ℕ)) (ts : List Token) (vs : List ℕ) → Pairwise (λ (t : Token) v. FirstAt names v t.text) ts vs → Pairwise (Named names) (map (λ t. t.text) ts) vs
texts names [] [] p = p
texts names [] (v ∷ vs) p = absurd p
texts names (t ∷ ts) [] p = absurd p
texts names (t ∷ ts) (v ∷ vs) (r, p) = (r, texts names ts vs p)

written_words : (known : List Predicate) (names : List (List ℕ)) (ws : List Written) (us : List Atom) → Pairwise (AtomMeans known names) ws us → Pairwise (Named names) (words_of ws) (written us)
written_words known names [] [] p = tt
written_words known names [] (u ∷ us) p = absurd p
written_words known names (w ∷ ws) [] p = absurd p
written_words known names (w ∷ ws) (u ∷ us) (r, p) = pairs_append (Named names) (map (λ t. t.text) w.words) (words_of ws) u.columns (written us) (texts names w.words u.columns r.1) (written_words known names ws us p)

numbered_words : (words names : List (List ℕ)) (vs : List ℕ) → Joined [] words names → Pairwise (Named names) words vs → (i u v : ℕ) → At vs i v → u < v → (j : ℕ) × (j < i) × At vs j u
numbered_words words names vs joined p i u v h l =
    let (y, at_y, first) = pairs_left (Named names) words vs p i v h in
    let (z, at_z) = some names u (omega (arith, at_below names v y first.0)) in
    let (j, k, at_j) = occurs_before [] words names joined i v u y z at_y first at_z l (omega arith) in
    let (w, at_w, again) = pairs_right (Named names) words vs p j z at_j in
    let same = joined_once [] words names joined (λ a b x q r. absurd q) w u z again.0 at_z in
    (j, k, moved j w u same at_w)
  where
    moved : (j w u : ℕ) → w ≡ u → At vs j w → At vs j u
    moved j w u e h = subst (λ n. At vs j n) e h

    some : {A : Type 0} (xs : List A) (n : ℕ) → n < length xs → (x : A) × At xs n x
    some [] n h = absurd (omega arith)
    some (x ∷ xs) zero h = (x, refl)
    some (x ∷ xs) (suc n) h = some xs n (omega arith)

-- the rule that two sides mean has its variables numbered by first occurrence
pub means_numbered : (known : List Predicate) (body head : List Written) (r : Rule) → RuleMeans known body head r → Numbered r
means_numbered known body head r m =
    let P = pairs_append (AtomMeans known m.names) body head r.body r.head m.the_body m.the_head in
    numbered_words (words_of (body ++ head)) m.names (written (r.body ++ r.head)) m.numbered (written_words known m.names (body ++ head) (r.body ++ r.head) P)
