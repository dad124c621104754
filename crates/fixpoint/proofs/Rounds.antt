-- What a search keeps true while it fills its table of rounds, and what the full table is.
use Rattle.std.proofs.Common.{◌≡◌, ℕ, zero, suc, ◌+◌, ◌-◌, ◌<◌, ◌≤◌, true, false, List, [], ◌∷◌, length, get_or, sym, refl, ap, ◌∙◌, subst, inl, inr, ⊎_elim, arith}
use Rattle.std.proofs.lemmas.Bool.{cases_eq, cases_lt}
use Rattle.fixpoint.specs.Least.{Derived, Held, Follows, Found}
use Rattle.fixpoint.specs.Least.Derived.{by_first, by_step}
use Rattle.fixpoint.specs.Growing.{Begun, Grown}
use Rattle.fixpoint.proofs.Items.{inside}
use Rattle.fixpoint.proofs.Growing.{held_on, held_back}

-- how many items of a table have no round
abbrev none_at : ℕ → ℕ
none_at zero = 1
none_at (suc x) = 0

abbrev unfound : List ℕ → ℕ
unfound [] = 0
unfound (x ∷ xs) = none_at x + unfound xs

none_at_le : (x : ℕ) → none_at x ≤ 1
none_at_le zero = omega arith
none_at_le (suc x) = omega arith

none_at_pos : (x : ℕ) → 0 < x → none_at x ≡ 0
none_at_pos zero h = absurd (omega arith)
none_at_pos (suc x) h = refl

unfound_le : (xs : List ℕ) → unfound xs ≤ length xs
unfound_le [] = omega arith
unfound_le (x ∷ xs) = omega (arith, none_at_le x, unfound_le xs)

none_at_more : (x y : ℕ) → (0 < x → 0 < y) → none_at y ≤ none_at x
none_at_more zero y h = none_at_le y
none_at_more (suc x) y h = omega (arith, none_at_pos y (h (omega arith)))

-- a table in which more is found
unfound_more : (xs ys : List ℕ) → length xs ≡ length ys → ((i : ℕ) → 0 < get_or xs i 0 → 0 < get_or ys i 0) → unfound ys ≤ unfound xs
unfound_more [] [] e h = omega arith
unfound_more [] (y ∷ ys) e h = absurd (omega arith)
unfound_more (x ∷ xs) [] e h = absurd (omega arith)
unfound_more (x ∷ xs) (y ∷ ys) e h = omega (arith, none_at_more x y (h 0), unfound_more xs ys (omega arith) (λ i. h (suc i)))

unfound_less : (xs ys : List ℕ) (j : ℕ) → length xs ≡ length ys → ((i : ℕ) → 0 < get_or xs i 0 → 0 < get_or ys i 0) → get_or xs j 0 ≡ 0 → 0 < get_or ys j 0 → unfound ys < unfound xs
unfound_less [] [] j e h none some = absurd (omega arith)
unfound_less [] (y ∷ ys) j e h none some = absurd (omega arith)
unfound_less (x ∷ xs) [] j e h none some = absurd (omega arith)
unfound_less (x ∷ xs) (y ∷ ys) zero e h none some = omega (arith, none_at_pos y some, ap none_at none, unfound_more xs ys (omega arith) (λ i. h (suc i)))
unfound_less (x ∷ xs) (y ∷ ys) (suc j) e h none some = omega (arith, none_at_more x y (h 0), unfound_less xs ys j (omega arith) (λ i. h (suc i)) none some)

-- a table with a round has fewer places without one, and one with nothing past n has no fewer than it has past n
unfound_some : (xs : List ℕ) (i : ℕ) → 0 < get_or xs i 0 → unfound xs + 1 ≤ length xs
unfound_some [] i h = absurd (omega arith)
unfound_some (x ∷ xs) zero h = omega (arith, none_at_pos x h, unfound_le xs)
unfound_some (x ∷ xs) (suc i) h = omega (arith, none_at_le x, unfound_some xs i h)

unfound_past : (xs : List ℕ) (n : ℕ) → ((i : ℕ) → n ≤ i → get_or xs i 0 ≡ 0) → length xs ≤ unfound xs + n
unfound_past [] n h = omega arith
unfound_past (x ∷ xs) zero h = omega (arith, ap none_at (h 0 (omega arith)), unfound_past xs zero (λ i l. h (suc i) (omega arith)))
unfound_past (x ∷ xs) (suc n) h = omega (arith, unfound_past xs n (λ i l. h (suc i) (omega arith)))

held_le : (xs : List ℕ) (q r : ℕ) (ps : List ℕ) → ((i : ℕ) → get_or xs i 0 ≤ r) → Held xs q ps → Held xs r ps
held_le xs q r ps low held k l = ((held k l).0, low (get_or ps k 0))

-- What follows from the rounds up to r is found.
pub record Closed (n : ℕ) (steps : List ℕ → ℕ → Type 0) (xs : List ℕ) (r : ℕ) : Type 0 where
  pub all : (i : ℕ) → i < n → Follows steps xs r i → 0 < get_or xs i 0

-- The rounds up to r are done.
pub record Doing (n : ℕ) (first : ℕ → Type 0) (steps : List ℕ → ℕ → Type 0) (xs : List ℕ) (r : ℕ) : Type 0 where
  pub long : length xs ≡ 1024
  pub pos : 0 < r
  pub one : (i : ℕ) → get_or xs i 0 ≡ 1 → first i
  pub one_all : (i : ℕ) → i < n → first i → get_or xs i 0 ≡ 1
  pub later : (i q : ℕ) → 0 < q → get_or xs i 0 ≡ q + 1 → Follows steps xs q i
  pub soonest : (i q : ℕ) → i < n → 0 < q → q < r → Follows steps xs q i → (0 < get_or xs i 0) × (get_or xs i 0 ≤ q + 1)
  pub low : (i : ℕ) → get_or xs i 0 ≤ r
  pub room : r + unfound xs ≤ 1025
  pub tight : (i : ℕ) → 0 < get_or xs i 0 → r + unfound xs ≤ 1024
  pub outside : (i : ℕ) → n ≤ i → get_or xs i 0 ≡ 0

module _ {n : ℕ} {first : ℕ → Type 0} {steps : List ℕ → ℕ → Type 0} where
  pub doing_first : {xs : List ℕ} → length xs ≡ 1024 → Begun n first xs → Doing n first steps xs 1
  doing_first {xs} long b = record {
    long = long;
    pos = omega arith;
    one = b.one;
    one_all = b.one_all;
    later = λ i q p e. absurd (omega (arith, b.low i));
    soonest = λ i q l p h. absurd (omega arith);
    low = b.low;
    room = omega (arith, unfound_le xs, long);
    tight = λ i h. omega (arith, unfound_some xs i h, long);
    outside = b.outside;
  }

  -- one more round, in which something is found
  pub doing_next : {xs ys : List ℕ} {r : ℕ} → ((ps : List ℕ) (i : ℕ) → steps ps i → 0 < length ps) → Doing n first steps xs r → length ys ≡ 1024 → Grown n steps xs ys r true → Doing n first steps ys (r + 1)
  doing_next {xs} {ys} {r} many d long g = record {
    long = long;
    pos = omega arith;
    one = λ i h. by i (λ pos e. d.one i (sym e ∙ h)) (λ z. absurd (omega arith)) (λ l e f. absurd (omega (arith, d.pos)));
    one_all = λ i l f. let e = d.one_all i l f in g.keeps i (omega arith) ∙ e;
    later = λ i q p h. by i (λ pos e. on (d.later i q p (sym e ∙ h))) (λ z. absurd (omega arith)) (λ l e f. subst (λ k. Follows steps ys k i) (omega arith) (on f));
    soonest = λ i q l p less f. ⊎_elim
        (λ e. (g.all i l (subst (λ k. Follows steps xs k i) e (back (omega arith) f)), omega (arith, e, low i)))
        (λ ne. let s = d.soonest i q l p (omega arith) (back (omega arith) f) in let e = g.keeps i s.0 in (omega (arith, s.0), omega (arith, s.1))) (cases_eq q r);
    low = low;
    room = omega (arith, d.room, less);
    tight = λ _ _. let f = ⊎_elim (λ z. absurd (omega (arith, z, new.2))) (λ f. f.2) (g.fresh new.0 new.1) in
        omega (arith, less, d.tight (get_or f.0 0 0) (f.2 0 (many f.0 new.0 f.1)).0);
    outside = λ i m. by i (λ pos e. absurd (omega (arith, d.outside i m))) (λ z. z) (λ l e f. absurd (omega arith));
  }
    where
      -- what was found before, what is not found, and what is found anew
      by : {C : Type 0} (i : ℕ) → (0 < get_or xs i 0 → get_or ys i 0 ≡ get_or xs i 0 → C) → (get_or ys i 0 ≡ 0 → C) → (i < n → get_or ys i 0 ≡ r + 1 → Follows steps xs r i → C) → C
      by i old none new = ⊎_elim (λ pos. old pos (g.keeps i pos)) (λ no. ⊎_elim none (λ f. new f.0 f.1 f.2) (g.fresh i (omega arith))) (cases_lt 0 (get_or xs i 0))

      on : {q i : ℕ} → Follows steps xs q i → Follows steps ys q i
      on f = (f.0, f.1, held_on xs ys g.keeps _ f.0 f.2)

      back : {q i : ℕ} → q ≤ r → Follows steps ys q i → Follows steps xs q i
      back up f = (f.0, f.1, held_back xs ys g.keeps r _ f.0 (λ i e. ⊎_elim inl (λ h. inr h.1) (g.fresh i e)) up f.2)

      low : (i : ℕ) → get_or ys i 0 ≤ r + 1
      low i = by i (λ pos e. omega (arith, d.low i)) (λ z. omega arith) (λ l e f. omega arith)

      new : (i : ℕ) × (get_or xs i 0 ≡ 0) × (0 < get_or ys i 0)
      new = g.some refl

      less : unfound ys < unfound xs
      less = unfound_less xs ys new.0 (d.long ∙ sym long) (λ i pos. omega (arith, g.keeps i pos)) new.1 new.2

  module _ {xs : List ℕ} {r : ℕ} (d : Doing n first steps xs r) (closed : Closed n steps xs r) where
    sound_to : (b i : ℕ) → get_or xs i 0 ≤ b → 0 < get_or xs i 0 → Derived n first steps i
    sound_to zero i m h = absurd (omega arith)
    sound_to (suc b) i m h = ⊎_elim
        (λ e. by_first (inside xs n d.outside i h) (d.one i e))
        (λ ne. let f = d.later i (get_or xs i 0 - 1) (omega arith) (omega arith) in
        by_step f.0 (inside xs n d.outside i h) f.1 (λ k l. sound_to b (get_or f.0 k 0) (omega (arith, f.2 k l)) (f.2 k l).0))
        (cases_eq (get_or xs i 0) 1)

    complete_at : (i : ℕ) → Derived n first steps i → 0 < get_or xs i 0
    complete_at i (by_first l f) = omega (arith, d.one_all i l f)
    complete_at i (by_step ps l s all) = closed.all i l (ps, s, λ k m. (complete_at (get_or ps k 0) (all k m), d.low (get_or ps k 0)))

    few_at : (i : ℕ) → get_or xs i 0 ≤ n
    few_at i = ⊎_elim (λ h. omega (arith, d.tight i h, d.low i, unfound_past xs n d.outside, d.long)) (λ h. omega arith) (cases_lt 0 (get_or xs i 0))

    doing_found : Found n first steps xs
    doing_found = record {
      sound = λ i h. sound_to (get_or xs i 0) i (omega arith) h;
      complete = complete_at;
      one = d.one;
      one_all = d.one_all;
      later = d.later;
      soonest = λ i q l p f. ⊎_elim
          (λ m. d.soonest i q l p m f)
          (λ m. (closed.all i l (f.0, f.1, held_le xs q r f.0 (d.low) f.2), omega (arith, d.low i))) (cases_lt q r);
      few = few_at;
      outside = d.outside;
    }

  -- one more round, in which nothing is found
  pub doing_last : {xs ys : List ℕ} {r : ℕ} → Doing n first steps xs r → Grown n steps xs ys r false → Found n first steps ys
  doing_last {xs} {ys} {r} d g =
      let same = g.none refl in
      subst (λ zs. Found n first steps zs) (sym same) (doing_found d (record { all = λ i l f. subst (λ zs. 0 < get_or zs i 0) same (g.all i l f) }))
