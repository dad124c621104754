-- The greatest number that is offered to a position is that of a step to it.
use Rattle.std.proofs.Common.{◌≡◌, ℕ, zero, suc, ◌+◌, ◌<◌, ◌≤◌, ◌⊎◌, List, [], ◌∷◌, map, Option, Some, None, max, sym, refl, ap, subst, inl, inr, ⊎_elim, arith}
use Rattle.std.proofs.lemmas.Bool.{cases_eq, cases_lt}
use Rattle.std.specs.List.{fold, range_with_len, reduce}
use Rattle.std.specs.Option.{option_map, unwrap_or}
use Rattle.graphs.specs.declared.step.Step.{Step}
use Rattle.graphs.specs.Walks.{counts}
use Rattle.ranks.specs.declared.edge.Edge.{Edge}
use Rattle.ranks.specs.Edges.{adds}
use Rattle.ranks.specs.Tables.{entry, TableStep}
use Rattle.ranks.specs.Relaxing.{number, offered_or_zero, relaxed, Gives, Relaxes, Round, Tense}
use Rattle.ranks.proofs.Edges.{step_entry, entry_step}

-- r is the greatest of m and of what h gives of the n numbers from a on
record Greatest (h : ℕ → ℕ) (a n m r : ℕ) : Type 0 where
  pub least : m ≤ r
  pub each : (k : ℕ) → a ≤ k → k < a + n → h k ≤ r
  pub some : (r ≡ m) ⊎ ((k : ℕ) × (k < a + n) × (h k ≡ r))

module _ (h : ℕ → ℕ) where
  greatest_of : (a n m : ℕ) → Greatest h a n m (fold max m (map h (range_with_len a n)))
  greatest_of a zero m = record { least = omega arith; each = λ k low up. absurd (omega arith); some = inl refl }
  greatest_of a (suc n) m =
      let g = greatest_of (a + 1) n (max m (h a)) in record {
        least = omega (arith, g.least);
        each = λ k low up. ⊎_elim (λ same. omega (arith, g.least, ap h same)) (λ other. g.each k (omega arith) (omega arith)) (cases_eq k a);
        some = ⊎_elim
            (λ s. ⊎_elim (λ less. inr (a, omega arith, omega arith)) (λ most. inl (omega arith)) (cases_lt m (h a)))
            (λ s. inr (s.0, omega (arith, s.1), s.2)) g.some;
      }

reduced : (xs : List ℕ) → unwrap_or (reduce max xs) 0 ≡ fold max 0 xs
reduced [] = refl
reduced (x ∷ xs) = ap (λ m. fold max m xs) (omega arith)

module _ (table : List (Option Edge)) (best : List ℕ) (to n : ℕ) (inside : n ≤ 128) (l : to < 128) where
  pub relaxes_greatest : Relaxes table best n to (unwrap_or (reduce max (map (offered_or_zero table best to) (range_with_len 0 n))) 0)
  relaxes_greatest = subst (λ k. Relaxes table best n to k) (sym (reduced (map (offered_or_zero table best to) (range_with_len 0 n)))) (record { lifts = lifts; some = ⊎_elim inl (λ s. gives s.0 (omega (arith, s.1)) (entry table s.0 to) refl s.2) greatest.some })
    where
      most : ℕ
      most = fold max 0 (map (offered_or_zero table best to) (range_with_len 0 n))

      greatest : Greatest (offered_or_zero table best to) 0 n 0 most
      greatest = greatest_of (offered_or_zero table best to) 0 n 0

      lifts : (s : Step) → TableStep table s → s.to ≡ to → s.from < n → number best s.from + counts s ≤ most
      lifts s step e b =
          let (edge, is, given) = step_entry table s step in
          let there : entry table s.from to ≡ Some edge = subst (λ q. entry table s.from q ≡ Some edge) e is in
          let one : offered_or_zero table best to s.from ≡ number best s.from + adds edge = ap (λ o. unwrap_or (option_map (λ x. number best s.from + adds x) o) 0) there in
          omega (arith, greatest.each s.from (omega arith) (omega arith), one)

      gives : (k : ℕ) → k < n → (o : Option Edge) → entry table k to ≡ o → unwrap_or (option_map (λ x. number best k + adds x) o) 0 ≡ most → (most ≡ 0) ⊎ Gives table best to most
      gives k b None is e = inl (sym e)
      gives k b (Some edge) is e =
          let (s, step, f, g, given) = entry_step table k to edge (omega arith) l is in
          let from : number best s.from ≡ number best k = ap (number best) f in
          inr (s, step, g, omega arith)

module _ (table : List (Option Edge)) (best : List ℕ) where
  relaxed_relaxes : (to : ℕ) → to < 128 → Relaxes table best 128 to (relaxed table best to)
  unfolding relaxed
  relaxed_relaxes to l = relaxes_greatest table best to 128 (omega arith) l

  greatest_below : (to r q : ℕ) → Relaxes table best 128 to r → Relaxes table best 128 to q → r ≤ q
  greatest_below to r q h k = ⊎_elim (λ none. omega arith) (λ given. let (s, step, e, is) = given in omega (arith, k.lifts s step e step.from)) h.some

  pub relaxed_round : (next : List ℕ) → Round table best next → (i : ℕ) → i < 128 → number next i ≡ relaxed table best i
  relaxed_round next round i l =
      let one = round.each i l in
      let other = relaxed_relaxes i l in
      omega (arith, greatest_below i (number next i) (relaxed table best i) one other, greatest_below i (relaxed table best i) (number next i) other one)

  pub tense_less : (next : List ℕ) (i : ℕ) → i < 128 → number next i ≡ relaxed table best i → number best i < number next i → Tense table best i
  tense_less next i l is less = ⊎_elim (λ none. absurd (omega arith)) (λ given. let (s, step, e, n) = given in (s, step, e, omega arith)) (relaxed_relaxes i l).some

  pub less_tense : (next : List ℕ) (i : ℕ) → ((k : ℕ) → k < 128 → number next k ≡ relaxed table best k) → Tense table best i → (i < 128) × (number best i < number next i)
  less_tense next i is (s, step, e, more) =
      let l : i < 128 = omega (arith, step.to) in
      (l, omega (arith, (relaxed_relaxes i l).lifts s step e step.from, is i l))
