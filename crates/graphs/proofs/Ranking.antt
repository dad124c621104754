-- Each place of a finite list of edges is infinite or has a rank.
use Rattle.std.proofs.Common.{◌≡◌, ℕ, zero, suc, ◌+◌, ◌<◌, ◌≤◌, max, Bool, true, false, cond, eqb, ◌⊎◌, List, [], ◌∷◌, length, refl, ap, subst, inl, inr, arith, length-append}
use Rattle.std.proofs.lemmas.Bool.{cases_lt, eqb-true, eq-eqb, cond-true}
use Rattle.lists.specs.Places.{Holds}
use Rattle.graphs.specs.declared.step.Step.{Step}
use Rattle.graphs.specs.Walks.{Walk, Simple, Infinite, Rank, counts, specials}
use Rattle.graphs.specs.Laws.{Below, Finite}
use Rattle.graphs.specs.Potentials.{Attained, Covers, Lifts}
use Rattle.graphs.proofs.Specials.{times, times_walk, times_specials, special_counts, ranks_single}
use Rattle.graphs.proofs.Shortening.{Looped, shorten, looped_infinite, walks_simple}
use Rattle.graphs.proofs.Shortness.{simple_few, walks_short}
use Rattle.graphs.proofs.Relaxing.{attained_more, covers_none, covers_more}

-- one more than the greatest `from`
bound : List Step → ℕ
bound [] = 0
bound (s ∷ edges) = max (suc s.from) (bound edges)

bound_below : (edges : List Step) → Below (Holds edges) (bound edges)
unfolding bound
bound_below [] s (k, here) = absurd here
bound_below (t ∷ edges) s (zero, here) = let e = ap (λ (x : Step). x.from) here in omega arith
bound_below (t ∷ edges) s (suc k, here) = let h = bound_below edges s (k, here) in omega arith

specials_few : (w : List Step) → specials w ≤ length w
specials_few [] = omega arith
specials_few (s ∷ w) = go (eqb s.kind 5) (specials_few w)
  where
    go : (b : Bool) → specials w ≤ length w → cond b 1 0 + specials w ≤ suc (length w)
    go true h = omega arith
    go false h = omega arith

-- the steps of m rounds of at most n each, and of a way out
span : ℕ → ℕ → ℕ → ℕ
span zero n out = out
span (suc m) n out = n + span m n out

span_out : (m n out : ℕ) → out ≤ span m n out
unfolding span
span_out zero n out = omega arith
span_out (suc m) n out = let h = span_out m n out in omega arith

times_length : (m n out : ℕ) (a b : List Step) → length a ≤ n → length b ≤ out → length (times m a b) ≤ span m n out
unfolding times span
times_length zero n out a b h l = l
times_length (suc m) n out a b h l = omega (arith, length-append a (times m a b), times_length m n out a b h l)

-- the greatest number that an edge to p gives it; 0 if there is none
relax : List Step → (ℕ → ℕ) → ℕ → ℕ
relax [] b p = 0
relax (s ∷ edges) b p = max (relax edges b p) (cond (eqb s.to p) (b s.from + counts s) 0)

relax_lifts : (edges : List Step) (b : ℕ → ℕ) (s : Step) → Holds edges s → Lifts b (relax edges b) s
unfolding relax
relax_lifts [] b s (k, here) = absurd here
relax_lifts (t ∷ edges) b s (zero, here) = subst (λ x. Lifts b (relax (t ∷ edges) b) x) here (let e = cond-true (eqb t.to t.to) (b t.from + counts t) 0 (eq-eqb t.to t.to refl) in omega arith)
relax_lifts (t ∷ edges) b s (suc k, here) = let h = relax_lifts edges b s (k, here) in omega arith

module _ (P : Step → Type 0) (b : ℕ → ℕ) (attained : Attained P b) where
  relax_attained : (edges : List Step) → ((s : Step) → Holds edges s → P s) → Attained P (relax edges b)
  unfolding relax
  relax_attained [] steps p = (p, [], refl, refl)
  relax_attained (s ∷ edges) steps p =
      go (eqb s.to p) refl (relax_attained edges (λ t (k, here). steps t (suc k, here)) p)
    where
      Reached : ℕ → Type 0
      Reached n = (q : ℕ) × (w : List Step) × Walk P q w p × (specials w ≡ n)

      greater : (m n : ℕ) → Reached m → Reached n → (m < n) ⊎ (n ≤ m) → Reached (max m n)
      greater m n x y (inl l) = subst Reached (omega arith) y
      greater m n x y (inr l) = subst Reached (omega arith) x

      go : (c : Bool) → eqb s.to p ≡ c → Reached (relax edges b p) → Reached (max (relax edges b p) (cond c (b s.from + counts s) 0))
      go true e before =
          let here : Reached (b s.from + counts s) = subst (λ x. (q : ℕ) × (w : List Step) × Walk P q w x × (specials w ≡ b s.from + counts s)) (eqb-true s.to p e) (attained_more P b s attained (steps s (0, refl))) in
          greater (relax edges b p) (b s.from + counts s) before here (cases_lt (relax edges b p) (b s.from + counts s))
      go false e before = greater (relax edges b p) 0 before (p, [], refl, refl) (cases_lt (relax edges b p) 0)

module _ (edges : List Step) where
  best : ℕ → ℕ → ℕ
  best zero p = 0
  best (suc k) p = relax edges (best k) p

  best_attained : (k : ℕ) → Attained (Holds edges) (best k)
  unfolding best
  best_attained zero p = (p, [], refl, refl)
  best_attained (suc k) p = relax_attained (Holds edges) (best k) (best_attained k) edges (λ s h. h) p

  best_covers : (k : ℕ) → Covers (Holds edges) k (best k)
  unfolding best
  best_covers zero = covers_none (Holds edges) (best 0)
  best_covers (suc k) = covers_more (Holds edges) k (best k) (best (suc k)) (best_covers k) (relax_lifts edges (best k))

  abbrev n : ℕ
  n = bound edges

  abbrev rounds : ℕ
  rounds = span (suc n) n (suc n)

  -- an infinite place is reached, in so many steps, with more special edges than a simple walk has steps
  many : (p : ℕ) → Infinite (Holds edges) p → n < best rounds p
  many p h =
      let (s, c, u, x, closed, simple) = (walks_simple (Holds edges)).reached p h in
      let round : Walk (Holds edges) s.from (s ∷ c) s.from = (closed.0.0, refl, closed.0.1) in
      let out : Walk (Holds edges) s.from (s ∷ u) p = (closed.0.0, refl, simple.walk) in
      let short = (walks_short (Holds edges) n (bound_below edges)).closed (s ∷ c) closed in
      let l = simple_few (Holds edges) n (bound_below edges) s.to p u simple in
      omega (
        arith,
        times_specials (suc n) (s ∷ c) (s ∷ u) (special_counts s c x),
        best_covers rounds s.from p (times (suc n) (s ∷ c) (s ∷ u)) (times_walk (Holds edges) (suc n) (s ∷ c) (s ∷ u) s.from p round out)
            (times_length (suc n) n (suc n) (s ∷ c) (s ∷ u) short (omega arith)),
      )

  ranked : (p : ℕ) → Infinite (Holds edges) p ⊎ ((m : ℕ) × Rank (Holds edges) p m)
  ranked p = decide (cases_lt n (best rounds p))
    where
      infinite : (q : ℕ) (w : List Step) → n < specials w → Walk (Holds edges) q w p → Infinite (Holds edges) p
      infinite q w more walk = go (shorten (Holds edges) w q p walk)
        where
          go : (u : List Step) × Simple (Holds edges) q u p × ((specials w ≤ specials u) ⊎ Looped (Holds edges) p) → Infinite (Holds edges) p
          go (u, simple, inl kept) = absurd (omega (arith, specials_few u, simple_few (Holds edges) n (bound_below edges) q p u simple))
          go (u, simple, inr looped) = looped_infinite (Holds edges) p looped

      most : best rounds p ≤ n → (q : ℕ) (w : List Step) → Walk (Holds edges) q w p → specials w ≤ best rounds p
      most few q w walk = go (shorten (Holds edges) w q p walk)
        where
          go : (u : List Step) × Simple (Holds edges) q u p × ((specials w ≤ specials u) ⊎ Looped (Holds edges) p) → specials w ≤ best rounds p
          go (u, simple, inl kept) =
              let l = simple_few (Holds edges) n (bound_below edges) q p u simple in
              omega (arith, best_covers rounds q p u simple.walk (omega (arith, span_out (suc n) n (suc n))))
          go (u, simple, inr looped) = absurd (omega (arith, many p (looped_infinite (Holds edges) p looped)))

      decide : (n < best rounds p) ⊎ (best rounds p ≤ n) → Infinite (Holds edges) p ⊎ ((m : ℕ) × Rank (Holds edges) p m)
      decide (inl more) = let (q, w, walk, e) = best_attained rounds p in inl (infinite q w (omega arith) walk)
      decide (inr few) = inr (best rounds p, record { some = best_attained rounds p; most = most few })

pub finite : (edges : List Step) → Finite edges
finite edges = record {
  simple = walks_simple (Holds edges);
  short = walks_short (Holds edges);
  single = ranks_single (Holds edges);
  ranked = ranked edges;
}
