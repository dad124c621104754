-- Some list of steps fits a class exactly when the class fails.
use Rattle.std.proofs.Common.{◌≡◌, ℕ, zero, suc, ◌+◌, ◌*◌, ◌<◌, ◌⊎◌, List, [], ◌∷◌, ◌++◌, length, sym, refl, ap, ◌∙◌, subst, inl, inr, ⊎_elim, arith, length-append}
use Rattle.std.proofs.lemmas.Bool.{cases_eq}
use Rattle.lists.specs.Places.{At, Holds, Once}
use Rattle.lists.proofs.Numbered.{at_same, at_below, at_left, at_next, at_snoc}
use Rattle.lists.proofs.Mapped.{at_map}
use Rattle.lists.proofs.Elements.{at_some, at_right, at_either, map_at, held}
use Rattle.graphs.specs.declared.step.Step.{Step}
use Rattle.graphs.specs.Walks.{Walk, Returns, Simple, Closed, tos}
use Rattle.graphs.proofs.Walking.{joined}
use Rattle.graphs.proofs.Shortening.{walks_simple}
use Rattle.theory.specs.declared.class.Class.{Class}
use Rattle.theory.specs.declared.class.Class.TheVariants.{Linear, Guarded, WeaklyGuarded, Acyclic, WeaklyAcyclic, Sticky, WeaklySticky}
use Rattle.theory.specs.Rules.{Atom, Rule, Has, BodyVariable, BodyPosition, Small}
use Rattle.theory.specs.Edges.{PredicateStep, PositionStep, Infinite}
use Rattle.theory.specs.Marks.{Marked, first_mark, mark_passed, Affected, first_affected, affected_through}
use Rattle.theory.specs.Classes.{OnlyAffected}
use Rattle.theory.specs.Occurrences.{positions_of}
use Rattle.theory.specs.Witness.{NoGuard, BeginsAffected, PassesMark, PassesAffected, Listed, ListsAffected, MarksUpTo, SpecialCycle, ReachesAll, Rising}
use Rattle.theory.specs.Failing.{Unguarded, Witnessed}
use Rattle.theory.proofs.Numbers.{variables_few}
use Rattle.theory.proofs.Steps.{step, special_step}
use Rattle.theory.proofs.Positions.{stands_small, positions_has, positions_only}
use Rattle.theory.proofs.Refuting.{listed_affected, marks_up, reached_infinite, cycle_infinite}

-- one more step with a new `to`
once_snoc : (w : List Step) (t : Step) → Once (tos w) → ((k : ℕ) → At (tos w) k t.to → ⊥) → Once (tos (w ++ (t ∷ [])))
once_snoc w t once fresh i j x a b =
    let (s, at_s, e) = at_map (λ (y : Step). y.to) (w ++ (t ∷ [])) i x a in
    let (r, at_r, f) = at_map (λ (y : Step). y.to) (w ++ (t ∷ [])) j x b in
    ⊎_elim
    (λ l. ⊎_elim
    (λ m. once i j x (subst (λ y. At (tos w) i y) e (map_at (λ (y : Step). y.to) w i s l)) (subst (λ y. At (tos w) j y) f (map_at (λ (y : Step). y.to) w j r m)))
    (λ m. absurd (fresh i (subst (λ y. At (tos w) i y) (e ∙ sym f ∙ sym (ap (λ (y : Step). y.to) m.1)) (map_at (λ (y : Step). y.to) w i s l))))
    (at_snoc w t j r at_r))
    (λ l. ⊎_elim
    (λ m. absurd (fresh j (subst (λ y. At (tos w) j y) (f ∙ sym e ∙ sym (ap (λ (y : Step). y.to) l.1)) (map_at (λ (y : Step). y.to) w j r m))))
    (λ m. l.0 ∙ sym m.0)
    (at_snoc w t j r at_r))
    (at_snoc w t i s at_s)

-- a step 2 for each body atom
module _ (W : Rule → ℕ → Type 0) (i : ℕ) (r : Rule) where
  Lacking : Atom → Type 0
  Lacking a = (v : ℕ) × BodyVariable r v × W r v × (Has a v → ⊥)

  lackers : (atoms : List Atom) → ℕ → ((k : ℕ) (a : Atom) → At atoms k a → Lacking a) → List Step
  unfolding Lacking
  lackers [] n h = []
  lackers (a ∷ atoms) n h = step 2 i n (h 0 a refl).0 ∷ lackers atoms (suc n) (λ k b t. h (suc k) b t)

  lackers_length : (atoms : List Atom) (n : ℕ) (h : (k : ℕ) (a : Atom) → At atoms k a → Lacking a) → length (lackers atoms n h) ≡ length atoms
  unfolding Lacking lackers
  lackers_length [] n h = refl
  lackers_length (a ∷ atoms) n h = ap suc (lackers_length atoms (suc n) (λ k b t. h (suc k) b t))

  Lacker : List Atom → ℕ → ℕ → Step → Type 0
  Lacker atoms n k s = (s.kind ≡ 2) × (s.rule ≡ i) × (s.from ≡ n + k) × BodyVariable r s.to × W r s.to × (a : Atom) × At atoms k a × (Has a s.to → ⊥)

  lackers_at : (atoms : List Atom) (n : ℕ) (h : (k : ℕ) (a : Atom) → At atoms k a → Lacking a) (k : ℕ) (s : Step) → At (lackers atoms n h) k s → Lacker atoms n k s
  unfolding Lacking lackers Lacker
  lackers_at [] n h k s here = absurd here
  lackers_at (a ∷ atoms) n h zero s here = let (v, t, w, l) = h 0 a refl in subst (Lacker (a ∷ atoms) n 0) here (refl, refl, omega arith, t, w, a, refl, l)
  lackers_at (a ∷ atoms) n h (suc k) s here = let (e, f, g, t, w, b, at_b, l) = lackers_at atoms (suc n) (λ j b t. h (suc j) b t) k s here in (e, f, omega arith, t, w, b, at_b, l)

  no_guard_list : (rules : List Rule) → At rules i r → ((k : ℕ) (a : Atom) → At r.body k a → (v : ℕ) × BodyVariable r v × W r v × (Has a v → ⊥)) → (w : List Step) × NoGuard W rules w
  unfolding Lacking Lacker
  no_guard_list rules here h = (
    lackers r.body 0 h,
    record {
      number = i;
      rule = r;
      stands = here;
      each = lackers_length r.body 0 h;
      lacks = λ k s there.
          let (e, f, g, t, w, a, at_a, l) = lackers_at r.body 0 h k s there in
          (record { kind = e; rule = f; from = omega arith; variable = t; lacks = λ b at_b has_b. l (subst (λ (y : Atom). Has y s.to) (at_same r.body k b a at_b at_a) has_b) }, w);
    },
  )

-- affected positions, listed one after the other
module _ (rules : List Rule) (small : Small rules) where
  record Grown (acc : List Step) (Q : ℕ → Type 0) : Type 0 where
    list : List Step
    lists : ListsAffected rules list
    keeps : (q : ℕ) → Listed acc (length acc) q → Listed list (length list) q
    new : (q : ℕ) → Q q → Listed list (length list) q

  add : (acc : List Step) (t : Step) → ListsAffected rules acc → BeginsAffected rules t ⊎ PassesAffected rules (Listed acc (length acc)) t → Grown acc (λ q. t.to ≡ q)
  add acc t l valid = ⊎_elim there absent (held t.to (tos acc))
    where
      there : Holds (tos acc) t.to → Grown acc (λ q. t.to ≡ q)
      there (k, at_k) =
          let (s, at_s, e) = at_map (λ (y : Step). y.to) acc k t.to at_k in
          record { list = acc; lists = l; keeps = λ q x. x; new = λ q f. (k, s, at_below acc k s at_s, at_s, e ∙ f) }

      longer : length (acc ++ (t ∷ [])) ≡ length acc + 1
      longer = length-append acc (t ∷ [])

      up : (k q : ℕ) → Listed acc k q → Listed (acc ++ (t ∷ [])) k q
      up k q (j, s, h, here, e) = (j, s, h, at_left acc (t ∷ []) j s here, e)

      Each : ℕ → Step → Type 0
      Each k s = BeginsAffected rules s ⊎ PassesAffected rules (Listed (acc ++ (t ∷ [])) k) s

      raise : (k : ℕ) (s : Step) → BeginsAffected rules s ⊎ PassesAffected rules (Listed acc k) s → Each k s
      raise k s (inl b) = inl b
      raise k s (inr p) = inr (record { kind = p.kind; carries = p.carries; after = λ q c. up k q (p.after q c) })

      absent : (Holds (tos acc) t.to → ⊥) → Grown acc (λ q. t.to ≡ q)
      absent h = record {
        list = acc ++ (t ∷ []);
        lists = record {
          each = λ k s here. ⊎_elim
              (λ old. raise k s (l.each k s old))
              (λ last. subst (λ (y : Step). Each k y) last.1 (subst (λ j. Each j t) (sym last.0) (raise (length acc) t valid)))
              (at_snoc acc t k s here);
          once = once_snoc acc t l.once (λ k here. h (k, here));
        };
        keeps = λ q x. let (k, s, m, here, e) = x in (k, s, omega (arith, longer), at_left acc (t ∷ []) k s here, e);
        new = λ q f. (length acc, t, omega (arith, longer), at_next acc [] t, f);
      }

  grow_all : (ps : List ℕ) → ((k q : ℕ) → At ps k q → (acc : List Step) → ListsAffected rules acc → Grown acc (λ p. q ≡ p)) → (acc : List Step) → ListsAffected rules acc → Grown acc (λ p. (k : ℕ) × At ps k p)
  grow_all [] h acc l = record { list = acc; lists = l; keeps = λ q x. x; new = λ q x. absurd x.1 }
  grow_all (p ∷ ps) h acc l =
      let one = h 0 p refl acc l in
      let more = grow_all ps (λ k q here. h (suc k) q here) one.list one.lists in
      record { list = more.list; lists = more.lists; keeps = λ q x. more.keeps q (one.keeps q x); new = both one more }
    where
      both : (one : Grown acc (λ q. p ≡ q)) (more : Grown one.list (λ q. (k : ℕ) × At ps k q)) (q : ℕ) → (k : ℕ) × At (p ∷ ps) k q → Listed more.list (length more.list) q
      both one more q (zero, e) = more.keeps q (one.new q e)
      both one more q (suc k, here) = more.new q (k, here)

  grow : {p : ℕ} → Affected rules p → (acc : List Step) → ListsAffected rules acc → Grown acc (λ q. p ≡ q)
  grow {p} (first_affected i f) acc l = add acc (step 8 i 0 p) l (inl (record { kind = refl; unnamed = refl; affects = f }))
  grow {p} (affected_through i v (r, here, front, t) before) acc l =
      let ps : List ℕ = positions_of r.body v in
      let more = grow_all ps (λ k q at_q acc' l'. grow (before q (r, here, positions_only r.body v k q at_q)) acc' l') acc l in
      let last = add more.list (step 9 i v p) more.lists
      (inr (record { kind = refl; carries = (r, here, front, t); after = λ q c. more.new q (positions_has r.body v (small.body i r here) q (subst (λ (y : Rule). BodyPosition y v q) (at_same rules i c.0 r c.1 here) c.2)) })) in
      record { list = last.list; lists = last.lists; keeps = λ q x. last.keeps q (more.keeps q x); new = last.new }

  -- the body positions of all variables that the steps name
  targets : Rule → List Step → List ℕ
  targets r [] = []
  targets r (s ∷ w) = positions_of r.body s.to ++ targets r w

  targets_only : (r : Rule) (w : List Step) (k q : ℕ) → At (targets r w) k q → (j : ℕ) × (s : Step) × At w j s × BodyPosition r s.to q
  unfolding targets
  targets_only r [] k q h = absurd h
  targets_only r (s ∷ w) k q h =
      let later : (j : ℕ) → At (targets r w) j q → (l : ℕ) × (t : Step) × At w l t × BodyPosition r t.to q = λ j x. targets_only r w j q x in
      ⊎_elim (λ x. (0, s, refl, positions_only r.body s.to x.0 q x.1)) (λ x. let (l, t, here, y) = later x.0 x.1 in (suc l, t, here, y)) (at_either (positions_of r.body s.to) (targets r w) k q h)

  targets_has : (i : ℕ) (r : Rule) → At rules i r → (w : List Step) (j : ℕ) (s : Step) (q : ℕ) → At w j s → BodyPosition r s.to q → (k : ℕ) × At (targets r w) k q
  unfolding targets
  targets_has i r stands [] j s q here x = absurd here
  targets_has i r stands (t ∷ w) zero s q here x =
      let (k, y) = positions_has r.body t.to (small.body i r stands) q (subst (λ (z : Step). BodyPosition r z.to q) (sym here) x) in
      (k, at_left (positions_of r.body t.to) (targets r w) k q y)
  targets_has i r stands (t ∷ w) (suc j) s q here x = let (k, y) = targets_has i r stands w j s q here x in at_right (positions_of r.body t.to) (targets r w) k q y

  weakly_fits : Unguarded (OnlyAffected rules) rules → (a : List Step) × (b : List Step) × ListsAffected rules a × NoGuard (λ r v. (q : ℕ) → BodyPosition r v q → Listed a (length a) q) rules b
  weakly_fits (i, r, here, h) =
      let (b, n) = no_guard_list (OnlyAffected rules) i r rules here h in
      let none : ListsAffected rules [] = record { each = λ k s x. absurd x; once = λ k j x y z. absurd y } in
      let g = grow_all (targets n.rule b) (λ k q x. (let (j, s, at_s, y) = targets_only n.rule b k q x in grow ((n.lacks j s at_s).1 q y))) [] none in
      (g.list, b, g.lists, record { number = n.number; rule = n.rule; stands = n.stands; each = n.each; lacks = λ k s x. ((n.lacks k s x).0, λ q y. g.new q (targets_has n.number n.rule n.stands b k s q x y)) })

  -- marks, one from the last
  cut : (w : List Step) (p q k m : ℕ) → Walk (PassesMark rules) p w q → At (tos w) k m → (u : List Step) × Walk (PassesMark rules) p u m × ((i x : ℕ) → At (tos u) i x → At (tos w) i x)
  cut [] p q k m walk here = absurd here
  cut (t ∷ w) p q zero m (s, e, walk) here = (t ∷ [], (s, e, here), first)
    where
      first : (i x : ℕ) → At (tos (t ∷ [])) i x → At (tos (t ∷ w)) i x
      first zero x y = y
      first (suc i) x y = absurd y
  cut (t ∷ w) p q (suc k) m (s, e, walk) here = let (u, v, same) = cut w t.to q k m walk here in (t ∷ u, (s, e, v), next u same)
    where
      next : (u : List Step) → ((i x : ℕ) → At (tos u) i x → At (tos w) i x) → (i x : ℕ) → At (tos (t ∷ u)) i x → At (tos (t ∷ w)) i x
      next u same zero x y = y
      next u same (suc i) x y = same i x y

  marks_chain : {i v : ℕ} → Marked rules i v → (w : List Step) × MarksUpTo rules i v w
  marks_chain {i} {v} (first_mark f) =
      let l = variables_few f.0 v (small.body i f.0 f.3) (small.numbered i f.0 f.3) f.4 in
      (step 6 i 0 (16 * i + v) ∷ [], (record { kind = refl; unnamed = refl; marks = (v, (l, refl), f) }, 16 * i + v, (l, refl), refl, single (16 * i + v)))
    where
      single : (x : ℕ) → Once (x ∷ [])
      single x zero zero y a b = refl
      single x zero (suc j) y a b = absurd b
      single x (suc i') j y a b = absurd a
  marks_chain {i} {v} (mark_passed j u m pass) =
      let l = variables_few pass.0 v (small.body i pass.0 pass.6) (small.numbered i pass.0 pass.6) pass.7.0 in
      let (w, chain) = marks_chain m in
      extend w l chain
    where
      extend : (w : List Step) → v < 16 → MarksUpTo rules j u w → (x : List Step) × MarksUpTo rules i v x
      extend [] l chain = absurd chain
      extend (s ∷ w) l (begin, n, number, walk, once) = ⊎_elim back fresh (held (16 * i + v) (tos (s ∷ w)))
        where
          kept : (x : List Step) → ((k y : ℕ) → At (tos x) k y → At (tos w) k y) → Once (tos (s ∷ x))
          kept x same a b y p q = once a b y (widen a p) (widen b q)
            where
              widen : (k : ℕ) → At (tos (s ∷ x)) k y → At (tos (s ∷ w)) k y
              widen zero h = h
              widen (suc k) h = same k y h

          back : (k : ℕ) × At (tos (s ∷ w)) k (16 * i + v) → (x : List Step) × MarksUpTo rules i v x
          back (zero, e) = (s ∷ [], (begin, 16 * i + v, (l, refl), e, kept [] (λ k y h. absurd h)))
          back (suc k, here) = let (x, walk', same) = cut w s.to n k (16 * i + v) walk here in (s ∷ x, (begin, 16 * i + v, (l, refl), walk', kept x same))

          fresh : (Holds (tos (s ∷ w)) (16 * i + v) → ⊥) → (x : List Step) × MarksUpTo rules i v x
          fresh h =
              let t = step 7 i n (16 * i + v) in
              let passes : PassesMark rules t = record { kind = refl; marks = (j, u, v, number, (l, refl), pass) } in (
                s ∷ (w ++ (t ∷ [])),
                (
                  begin,
                  16 * i + v,
                  (l, refl),
                  joined (PassesMark rules) w (t ∷ []) s.to n (16 * i + v) walk (passes, refl, refl),
                  once_snoc (s ∷ w) t once (λ k here. h (k, here)),
                ),
              )

-- the numbers of a list that are below n, in rising order
module _ (qs : List ℕ) where
  push : (n : ℕ) → Holds qs n ⊎ (Holds qs n → ⊥) → List ℕ → List ℕ
  push n (inl h) xs = xs ++ (n ∷ [])
  push n (inr h) xs = xs

  below : ℕ → List ℕ
  below zero = []
  below (suc n) = push n (held n qs) (below n)

  below_only : (n i p : ℕ) → At (below n) i p → (p < n) × Holds qs p
  unfolding below push
  below_only zero i p h = absurd h
  below_only (suc n) i p h = go (held n qs) h (λ j x. below_only n j p x)
    where
      go : (d : Holds qs n ⊎ (Holds qs n → ⊥)) → At (push n d (below n)) i p → ((j : ℕ) → At (below n) j p → (p < n) × Holds qs p) → (p < suc n) × Holds qs p
      go (inl e) x later = ⊎_elim (λ y. let (a, b) = later i y in (omega arith, b)) (λ y. (omega (arith, y.1), subst (λ z. Holds qs z) y.1 e)) (at_snoc (below n) n i p x)
      go (inr e) x later = let (a, b) = later i x in (omega arith, b)

  below_has : (n p : ℕ) → p < n → Holds qs p → Holds (below n) p
  unfolding below push
  below_has zero p l h = absurd (omega arith)
  below_has (suc n) p l h = go (held n qs) (λ m. below_has n p m h)
    where
      before : (p ≡ n → ⊥) → p < n
      before ne = omega arith

      go : (d : Holds qs n ⊎ (Holds qs n → ⊥)) → (p < n → Holds (below n) p) → Holds (push n d (below n)) p
      go (inl e) later = ⊎_elim
          (λ same. (length (below n), subst (λ y. At (below n ++ (n ∷ [])) (length (below n)) y) (sym same) (at_next (below n) [] n)))
          (λ ne. let (i, x) = later (before ne) in (i, at_left (below n) (n ∷ []) i p x))
          (cases_eq p n)
      go (inr e) later = later (before (λ same. e (subst (λ y. Holds qs y) same h)))

  below_rising : (n i j p q : ℕ) → i < j → At (below n) i p → At (below n) j q → p < q
  unfolding below push
  below_rising zero i j p q l a b = absurd a
  below_rising (suc n) i j p q l a b = go (held n qs) a b (λ x y. below_rising n i j p q l x y)
    where
      go : (d : Holds qs n ⊎ (Holds qs n → ⊥)) → At (push n d (below n)) i p → At (push n d (below n)) j q → (At (below n) i p → At (below n) j q → p < q) → p < q
      go (inl e) x y later =
          ⊎_elim
          (λ c. ⊎_elim (λ d. later c d) (λ d. omega (arith, d.1, (below_only n i p c).0)) (at_snoc (below n) n j q y))
          (λ c. ⊎_elim (λ d. absurd (omega (arith, c.0, at_below (below n) j q d))) (λ d. absurd (omega (arith, c.0, d.0))) (at_snoc (below n) n j q y))
          (at_snoc (below n) n i p x)
      go (inr e) x y later = later x y

body_rising : (rules : List Rule) → Small rules → (i : ℕ) (r : Rule) (v : ℕ) → At rules i r → (ps : List ℕ) × Rising (BodyPosition r v) ps
body_rising rules small i r v here =
    let qs : List ℕ = positions_of r.body v in (
      below qs 128,
      record {
        rising = below_rising qs 128;
        only = λ k p h. let (j, x) = (below_only qs 128 k p h).1 in positions_only r.body v j p x;
        all = λ p t. below_has qs 128 p (stands_small r.body v p (small.body i r here) t) (positions_has r.body v (small.body i r here) p t);
      },
    )

-- an infinite position is reached from a special cycle
reached : (rules : List Rule) (p : ℕ) → Infinite rules p → (s : Step) × (c : List Step) × (u : List Step) × SpecialCycle rules (s ∷ c) × Simple (PositionStep rules) s.to u p
reached rules p h =
    let (s, c, u, special, closed, simple) = (walks_simple (PositionStep rules)).reached p h in
    (s, c, u, (special_step rules s special closed.0.0, closed), simple)

reach_all : (rules : List Rule) (ps : List ℕ) → ((i p : ℕ) → At ps i p → Infinite rules p) → (w : List Step) × ReachesAll rules ps w
reach_all rules [] h = ([], refl)
reach_all rules (p ∷ ps) h =
    let (s, c, u, cycle, simple) = reached rules p (h 0 p refl) in
    let (rest, more) = reach_all rules ps (λ i q here. h (suc i) q here) in
    ((s ∷ c) ++ (u ++ rest), (s, c, u, rest, refl, cycle, simple, more))

-- no guard, as it fails
unguarded : (V W : Rule → ℕ → Type 0) (rules : List Rule) (w : List Step) → ((r : Rule) (v : ℕ) → V r v → W r v) → NoGuard V rules w → Unguarded W rules
unguarded V W rules w conv n = (
  n.number,
  n.rule,
  n.stands,
  λ k a here.
      let (s, there) = at_some w k (omega (arith, at_below n.rule.body k a here, n.each)) in
      let (l, x) = n.lacks k s there in
      (s.to, l.variable, conv n.rule s.to x, l.lacks a here),
)

-- a walk that returns holds a closed one
returns_closed : (rules : List Rule) (w : List Step) → Returns (PredicateStep rules) w → (c : List Step) × Closed (PredicateStep rules) c
returns_closed rules [] h = absurd h
returns_closed rules (s ∷ w) h = let (c, closed) = (walks_simple (PredicateStep rules)).closed (s ∷ w) 0 s h refl in (s ∷ c, closed)

pub witnessed : (class : Class) → Witnessed class
witnessed Linear rules small = (
  (λ f. let (i, r, here, many) = f in (step 1 i 0 0 ∷ [], (step 1 i 0 0, refl, record { kind = refl; many = (r, here, many); unnamed = (refl, refl) }))),
  λ f. let (w, (s, e, two)) = f in (s.rule, two.many.0, two.many.1, two.many.2),
)
witnessed Guarded rules small =
    ((λ f. let (i, r, here, h) = f in no_guard_list (λ r' v. Unit {0}) i r rules here h), λ f. unguarded _ _ rules f.0 (λ r v x. x) f.1)
witnessed WeaklyGuarded rules small = (
  (λ f. let (a, b, l, n) = weakly_fits rules small f in (a ++ b, (a, b, refl, l, n))),
  λ f. let (w, (a, b, e, l, n)) = f in unguarded _ _ rules b (λ r v x p here. listed_affected rules a l (length a) p (x p here)) n,
)
witnessed Acyclic rules small = ((λ f. returns_closed rules f.0 f.1), λ f. (f.0, f.1.0))
witnessed WeaklyAcyclic rules small =
    ((λ f. let (s, c, u, cycle, simple) = reached rules f.0 f.1 in (s ∷ c, cycle)), λ f. cycle_infinite rules f.0 f.1)
witnessed Sticky rules small = (
  (λ f. let (i, v, r, here, m, twice, _) = f in let (w, chain) = marks_chain rules small m in (w, (r, v, record { number = i; stands = here; repeated = twice; marked = chain }))),
  λ f. let (w, (r, v, m)) = f in (m.number, v, r, m.stands, marks_up rules w m.number v m.marked, m.repeated, tt),
)
witnessed WeaklySticky rules small = (
  (λ f.
      let (i, v, r, here, m, twice, inf) = f in
      let (a, chain) = marks_chain rules small m in
      let (ps, rise) = body_rising rules small i r v here in
      let (b, reach) = reach_all rules ps (λ k p x. inf p (rise.only k p x)) in
      (a ++ b, (r, v, a, b, ps, refl, record { number = i; stands = here; repeated = twice; marked = chain }, rise, reach))),
  λ f.
      let (w, (r, v, a, b, ps, e, m, rise, reach)) = f in
      (m.number, v, r, m.stands, marks_up rules a m.number v m.marked, m.repeated, λ p here. let (i, x) = rise.all p here in reached_infinite rules ps b reach i p x),
)
