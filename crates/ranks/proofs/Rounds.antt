-- The numbers of all positions, after rounds of unsettled.
use Rattle.std.proofs.Common.{◌≡◌, ℕ, zero, suc, ◌+◌, ◌<◌, ◌≤◌, ◌⊎◌, List, [], Option, length, get_or, replicate, sym, refl, subst, inl, inr, add-one, arith}
use Rattle.std.proofs.Math.ListN.{length-replicate}
use Rattle.std.proofs.lemmas.List.{get_or_past}
use Rattle.std.proofs.lemmas.Bool.{cases_lt}
use Rattle.graphs.specs.declared.step.Step.{Step}
use Rattle.graphs.specs.Walks.{Walk, counts, specials}
use Rattle.graphs.specs.Potentials.{Attained, Covers, Lifts}
use Rattle.graphs.proofs.Relaxing.{attained_more, covers_none, covers_more, lifted}
use Rattle.ranks.specs.declared.edge.Edge.{Edge}
use Rattle.ranks.specs.Tables.{TableStep}
use Rattle.ranks.specs.Relaxing.{number, Gives, Relaxes, Round}
use Rattle.ranks.proofs.Edges.{counts_few}

zeros : (n p : ℕ) → ◌≡◌ {A = ℕ} (get_or (replicate n 0) p 0) 0
zeros zero p = refl
zeros (suc n) zero = refl
zeros (suc n) (suc p) = zeros n p

module _ (table : List (Option Edge)) (old : List ℕ) where
  -- a round adds one at most
  relaxes_few : (to r k : ℕ) → Relaxes table old 128 to r → ((p : ℕ) → number old p ≤ k) → r ≤ k + 1
  relaxes_few to r k h low = go h.some
    where
      go : (r ≡ 0) ⊎ Gives table old to r → r ≤ k + 1
      go (inl e) = omega arith
      go (inr (s, step, e, f)) = omega (arith, low s.from, counts_few s)

-- the numbers after k rounds
pub record After (table : List (Option Edge)) (k : ℕ) (best : List ℕ) : Type 0 where
  pub long : length best ≡ 128
  pub low : (p : ℕ) → number best p ≤ k
  pub attained : Attained (TableStep table) (number best)
  pub covers : Covers (TableStep table) k (number best)

module _ (table : List (Option Edge)) where
  pub after_none : After table 0 (replicate 128 0)
  after_none = record {
    long = length-replicate {A = ℕ} 128 0;
    low = λ p. omega (arith, zeros 128 p);
    attained = λ p. (p, [], refl, sym (zeros 128 p));
    covers = covers_none (TableStep table) (number (replicate 128 0));
  }

  round_lifts : (old new : List ℕ) → Round table old new → (s : Step) → TableStep table s → Lifts (number old) (number new) s
  round_lifts old new round s step = (round.each s.to step.to).lifts s step refl step.from

  pub after_more : (k : ℕ) (old new : List ℕ) → After table k old → Round table old new → After table (k + 1) new
  after_more k old new h round = record {
    long = round.long;
    low = λ p. low p (cases_lt p 128);
    attained = λ p. attained p (cases_lt p 128);
    covers = subst (λ n. Covers (TableStep table) n (number new)) (sym (add-one k)) (covers_more (TableStep table) k (number old) (number new) h.covers (round_lifts old new round));
  }
    where
      past : (p : ℕ) → 128 ≤ p → number new p ≡ 0
      past p m = get_or_past new p 0 (omega (arith, round.long))

      low : (p : ℕ) → (p < 128) ⊎ (128 ≤ p) → number new p ≤ k + 1
      low p (inl l) = relaxes_few table old p (number new p) k (round.each p l) h.low
      low p (inr m) = omega (arith, past p m)

      Reached : ℕ → ℕ → Type 0
      Reached p n = (q : ℕ) × (w : List Step) × Walk (TableStep table) q w p × (specials w ≡ n)

      given : (p : ℕ) → (number new p ≡ 0) ⊎ Gives table old p (number new p) → Reached p (number new p)
      given p (inl e) = (p, [], refl, sym e)
      given p (inr (s, step, e, f)) = subst (λ n. Reached p n) (sym f) (subst (λ x. Reached x (number old s.from + counts s)) e (attained_more (TableStep table) (number old) s h.attained step))

      attained : (p : ℕ) → (p < 128) ⊎ (128 ≤ p) → Reached p (number new p)
      attained p (inl l) = given p (round.each p l).some
      attained p (inr m) = (p, [], refl, sym (past p m))

  -- a round that changes nothing: no other round would
  pub settled : (old new : List ℕ) (k : ℕ) → Round table old new → new ≡ old → Covers (TableStep table) k (number old)
  settled old new k round e q p w walk l =
      let h = lifted (TableStep table) (number old) p (λ s u step on. round_lifts old old (subst (λ x. Round table old x) e round) s step) q w walk in
      omega arith

  pub after_all : (k : ℕ) (best : List ℕ) → After table k best → 127 ≤ k → Covers (TableStep table) 127 (number best)
  after_all k best h m q p w walk l = h.covers q p w walk (omega arith)
