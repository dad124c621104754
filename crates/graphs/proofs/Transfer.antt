-- Relations of steps that are within each other have the same infinite places and ranks.
use Rattle.std.proofs.Common.{◌≡◌, ℕ, ◌+◌, ◌≤◌, Bool, true, false, cond, eqb, List, [], ◌∷◌, sym, refl, ◌∙◌, subst, arith}
use Rattle.std.proofs.lemmas.Bool.{eqb-true, eqb-false}
use Rattle.graphs.specs.declared.step.Step.{Step}
use Rattle.graphs.specs.Walks.{Walk, Special, Infinite, Rank, counts, specials}
use Rattle.graphs.specs.Laws.{Within, SameRanks}
use Rattle.graphs.proofs.Shortening.{walks_simple}

special_more : (s t : Step) (m n : ℕ) → (Special s → Special t) → m ≤ n → counts s + m ≤ counts t + n
special_more s t m n keeps h = go (eqb s.kind 5) refl (eqb t.kind 5) refl
  where
    go : (a : Bool) → eqb s.kind 5 ≡ a → (b : Bool) → eqb t.kind 5 ≡ b → cond a 1 0 + m ≤ cond b 1 0 + n
    go true e true f = omega arith
    go true e false f = absurd (eqb-false t.kind 5 f (keeps (eqb-true s.kind 5 e)))
    go false e true f = omega arith
    go false e false f = omega arith

module _ (P Q : Step → Type 0) (there : Within P Q) where
  -- a walk along Q with as many special edges or more
  walk_there : (w : List Step) (p q : ℕ) → Walk P p w q → (v : List Step) × Walk Q p v q × (specials w ≤ specials v)
  walk_there [] p q walk = ([], walk, omega arith)
  walk_there (s ∷ w) p q (step, e, walk) =
      let (t, also, f, g, keeps) = there s step in
      let (v, onward, more) = walk_there w s.to q walk in
      (t ∷ v, (also, f ∙ e, subst (λ x. Walk Q x v q) (sym g) onward), special_more s t (specials w) (specials v) keeps more)

  infinite_there : (p : ℕ) → Infinite P p → Infinite Q p
  infinite_there p h =
      let (s, c, u, x, closed, simple) = (walks_simple P).reached p h in
      let (t, also, f, g, keeps) = there s closed.0.0 in
      let (v, back, _) = walk_there c s.to s.from closed.0.1 in
      let (w, out, _) = walk_there u s.to p simple.walk in
      let round : Walk Q t.to v t.from = subst (λ y. Walk Q t.to v y) (sym f) (subst (λ y. Walk Q y v s.from) (sym g) back) in
      (walks_simple Q).infinite (t ∷ v) (t ∷ w) 0 0 p t t (also, round) refl (keeps x) refl (also, refl, subst (λ y. Walk Q y w p) (sym g) out)

module _ (P Q : Step → Type 0) (there : Within P Q) (back : Within Q P) where
  -- a walk along Q has one along P with as many special edges, of which there are at most n
  rank_most : (p n : ℕ) → Rank P p n → (q : ℕ) (w : List Step) → Walk Q q w p → specials w ≤ n
  rank_most p n r q w walk = let (v, same, more) = walk_there Q P back w q p walk in omega (arith, r.most q v same)

  pub same_ranks : SameRanks P Q
  same_ranks = record {
    infinite = infinite_there P Q there;
    rank = λ p n r.
        let (q, w, walk, e) = r.some in
        let (v, same, more) = walk_there P Q there w q p walk in
        record { some = (q, v, same, omega (arith, rank_most p n r q v same)); most = rank_most p n r };
  }
