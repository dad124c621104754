-- Words too many, as atoms and words are added one by one.
use Rattle.std.proofs.Common.{◌≡◌, ℕ, zero, suc, ◌⊎◌, List, [], ◌∷◌, ◌++◌, length, sym, refl, ap, ◌∙◌, subst, inl, inr, arith}
use Rattle.lists.specs.Places.{At}
use Rattle.lists.proofs.Numbered.{at_left, at_next, at_snoc}
use Rattle.tokens.specs.Tokens.{Token}
use Rattle.patterns.specs.Patterns.{Written, Over, Extra}
use Rattle.patterns.specs.Machine.{atom_of}
use Rattle.patterns.specs.declared.state.Section.TheVariants.{Body, Head, Fact}
use Rattle.patterns.specs.declared.state.State.{State}
use Rattle.patterns.specs.declared.state.State.TheVariants as state
use Rattle.patterns.specs.Drafts.{Parts, push_word, grown, ExtraIn}

-- a word behind the last atom
pub push_last : (xs : List Written) (a : Written) (t : Token) → push_word (xs ++ (a ∷ [])) t ≡ xs ++ (atom_of a.predicate (a.words ++ (t ∷ [])) ∷ [])
push_last [] a t = refl
push_last (x ∷ []) a t = refl
push_last (x ∷ y ∷ xs) a t = ap (λ (k : List Written). x ∷ k) (push_last (y ∷ xs) a t)

-- ---- the one that finds no room is one too many

fifth : {A : Type 0} (xs : List A) (x : A) → length xs ≡ 4 → At (xs ++ (x ∷ [])) 4 x
fifth xs x e = subst (λ k. At (xs ++ (x ∷ [])) k x) e (at_next xs [] x)

pub name_extra : (xss : List (List Written)) (n : ℕ) (xs : List Written) (t : Token) → At xss n (xs ++ (atom_of t [] ∷ [])) → length xs ≡ 4 → Extra xss t
name_extra xss n xs t h e = (n, xs ++ (atom_of t [] ∷ []), 4, atom_of t [], h, fifth xs (atom_of t []) e, inl (omega arith, refl))

pub word_extra : (xss : List (List Written)) (n : ℕ) (xs : List Written) (a : Written) (t : Token) → At xss n (push_word (xs ++ (a ∷ [])) t) → length a.words ≡ 4 → Extra xss t
word_extra xss n xs a t h e =
    let b = atom_of a.predicate (a.words ++ (t ∷ [])) in
    (n, xs ++ (b ∷ []), length xs, b, subst (λ k. At xss n k) (push_last xs a t) h, at_next xs [] b, inr (4, fifth a.words t e, omega arith))

-- ---- what was too many stays so

-- b is a, or a with one word more
abbrev Grows : Written → Written → Token → Type 0
Grows a b t = (b.predicate ≡ a.predicate) × ((b.words ≡ a.words) ⊎ (b.words ≡ a.words ++ (t ∷ [])))

-- the atom at a number before and behind a word
push_same : (xs : List Written) (t : Token) (k : ℕ) (a : Written) → At xs k a → (b : Written) × At (push_word xs t) k b × Grows a b t
push_same [] t k a h = absurd h
push_same (x ∷ []) t zero a h = (atom_of x.predicate (x.words ++ (t ∷ [])), refl, (ap (λ (y : Written). y.predicate) h, inr (ap (λ (y : Written). y.words ++ (t ∷ [])) h)))
push_same (x ∷ []) t (suc k) a h = absurd h
push_same (x ∷ y ∷ xs) t zero a h = (a, h, (refl, inl refl))
push_same (x ∷ y ∷ xs) t (suc k) a h = push_same (y ∷ xs) t k a h

push_back : (xs : List Written) (t : Token) (k : ℕ) (b : Written) → At (push_word xs t) k b → (a : Written) × At xs k a × Grows a b t
push_back [] t k b h = absurd h
push_back (x ∷ []) t zero b h = (x, refl, (ap (λ (y : Written). y.predicate) (sym h), inr (ap (λ (y : Written). y.words) (sym h))))
push_back (x ∷ []) t (suc k) b h = absurd h
push_back (x ∷ y ∷ xs) t zero b h = (b, h, (refl, inl refl))
push_back (x ∷ y ∷ xs) t (suc k) b h = push_back (y ∷ xs) t k b h

over_grows : (a b : Written) (t v : Token) (k : ℕ) → Grows a b t → Over k a v → Over k b v
over_grows a b t v k (p, g) (inl (l, e)) = inl (l, p ∙ e)
over_grows a b t v k (p, inl e) (inr (j, h, l)) = inr (j, subst (λ x. At x j v) (sym e) h, l)
over_grows a b t v k (p, inr e) (inr (j, h, l)) = inr (j, subst (λ x. At x j v) (sym e) (at_left a.words (t ∷ []) j v h), l)

over_back : (a b : Written) (t v : Token) (k : ℕ) → Grows a b t → Over k b v → Over k a v ⊎ (t ≡ v)
over_back a b t v k (p, g) (inl (l, e)) = inl (inl (l, sym p ∙ e))
over_back a b t v k (p, inl e) (inr (j, h, l)) = inl (inr (j, subst (λ x. At x j v) e h, l))
over_back a b t v k (p, inr e) (inr (j, h, l)) = cases (at_snoc a.words t j v (subst (λ x. At x j v) e h))
  where
    cases : At a.words j v ⊎ ((j ≡ length a.words) × (t ≡ v)) → Over k a v ⊎ (t ≡ v)
    cases (inl q) = inl (inr (j, q, l))
    cases (inr (_, q)) = inr q

-- v is too many on one side
abbrev SideOver : List Written → Token → Type 0
SideOver side v = (k : ℕ) × (a : Written) × At side k a × Over k a v

name_keeps : (xs : List Written) (t v : Token) → SideOver xs v → SideOver (xs ++ (atom_of t [] ∷ [])) v
name_keeps xs t v (k, a, h, o) = (k, a, at_left xs (atom_of t [] ∷ []) k a h, o)

name_back : (xs : List Written) (t v : Token) → SideOver (xs ++ (atom_of t [] ∷ [])) v → SideOver xs v ⊎ (t ≡ v)
name_back xs t v (k, a, h, o) = cases (at_snoc xs (atom_of t []) k a h) o
  where
    fresh : (b : Written) → atom_of t [] ≡ b → Over k b v → t ≡ v
    fresh b e (inl (l, q)) = ap (λ (y : Written). y.predicate) e ∙ q
    fresh b e (inr (j, q, l)) = absurd (subst (λ y. At y.words j v) (sym e) q)

    cases : At xs k a ⊎ ((k ≡ length xs) × (atom_of t [] ≡ a)) → Over k a v → SideOver xs v ⊎ (t ≡ v)
    cases (inl q) p = inl (k, a, q, p)
    cases (inr (_, e)) p = inr (fresh a e p)

word_keeps : (xs : List Written) (t v : Token) → SideOver xs v → SideOver (push_word xs t) v
word_keeps xs t v (k, a, h, o) = let (b, q, g) = push_same xs t k a h in (k, b, q, over_grows a b t v k g o)

word_back : (xs : List Written) (t v : Token) → SideOver (push_word xs t) v → SideOver xs v ⊎ (t ≡ v)
word_back xs t v (k, b, h, o) = let (a, q, g) = push_back xs t k b h in cases a q (over_back a b t v k g o)
  where
    cases : (a : Written) → At xs k a → Over k a v ⊎ (t ≡ v) → SideOver xs v ⊎ (t ≡ v)
    cases a q (inl p) = inl (k, a, q, p)
    cases a q (inr e) = inr e

-- on two sides
split : (x : Parts) (v : Token) → ExtraIn x v → SideOver x.first v ⊎ SideOver x.second v
split x v (zero, side, k, a, h, i, o) = inl (k, a, subst (λ y. At y k a) (sym h) i, o)
split x v (suc zero, side, k, a, h, i, o) = inr (k, a, subst (λ y. At y k a) (sym h) i, o)
split x v (suc (suc n), side, k, a, h, i, o) = absurd h

join : (x : Parts) (v : Token) → SideOver x.first v ⊎ SideOver x.second v → ExtraIn x v
join x v (inl (k, a, i, o)) = (0, x.first, k, a, refl, i, o)
join x v (inr (k, a, i, o)) = (1, x.second, k, a, refl, i, o)

-- from one pair of sides to another
either : {A B C D : Type 0} → (A → C) → (B → D) → A ⊎ B → C ⊎ D
either f g (inl a) = inl (f a)
either f g (inr b) = inr (g b)

left_back : {A B C : Type 0} → (A → B ⊎ C) → {D : Type 0} → A ⊎ D → (B ⊎ D) ⊎ C
left_back f (inl a) = elim (f a) [ inl b ↦ inl (inl b) | inr c ↦ inr c ]
left_back f (inr d) = inl (inr d)

right_back : {A B C : Type 0} → (A → B ⊎ C) → {D : Type 0} → D ⊎ A → (D ⊎ B) ⊎ C
right_back f (inl d) = inl (inl d)
right_back f (inr a) = elim (f a) [ inl b ↦ inl (inr b) | inr c ↦ inr c ]

first_of : (x : Parts) (t v : Token) → (SideOver x.first v ⊎ SideOver x.second v) ⊎ (t ≡ v) → ExtraIn x v ⊎ (t ≡ v)
first_of x t v (inl p) = inl (join x v p)
first_of x t v (inr e) = inr e

pub extra_stays : (st : State) (x : Parts) (t v : Token) → ExtraIn x v → ExtraIn (grown st x t) v
extra_stays state.Label x t v h = h
extra_stays state.Bars x t v h = h
extra_stays (state.Name Body) x t v h = join (grown (state.Name Body) x t) v (either (name_keeps x.first t v) (λ q. q) (split x v h))
extra_stays (state.Name Head) x t v h = join (grown (state.Name Head) x t) v (either (λ q. q) (name_keeps x.second t v) (split x v h))
extra_stays (state.Name Fact) x t v h = join (grown (state.Name Fact) x t) v (either (name_keeps x.first t v) (λ q. q) (split x v h))
extra_stays (state.Open p) x t v h = h
extra_stays (state.Word Body) x t v h = join (grown (state.Word Body) x t) v (either (word_keeps x.first t v) (λ q. q) (split x v h))
extra_stays (state.Word Head) x t v h = join (grown (state.Word Head) x t) v (either (λ q. q) (word_keeps x.second t v) (split x v h))
extra_stays (state.Word Fact) x t v h = join (grown (state.Word Fact) x t) v (either (word_keeps x.first t v) (λ q. q) (split x v h))
extra_stays (state.More p) x t v h = h
extra_stays (state.After p) x t v h = h
extra_stays state.Done x t v h = h

-- ---- and nothing else becomes so but the new word

pub extra_back : (st : State) (x : Parts) (t v : Token) → ExtraIn (grown st x t) v → ExtraIn x v ⊎ (t ≡ v)
extra_back state.Label x t v h = inl h
extra_back state.Bars x t v h = inl h
extra_back (state.Name Body) x t v h = first_of x t v (left_back (name_back x.first t v) (split (grown (state.Name Body) x t) v h))
extra_back (state.Name Head) x t v h = first_of x t v (right_back (name_back x.second t v) (split (grown (state.Name Head) x t) v h))
extra_back (state.Name Fact) x t v h = first_of x t v (left_back (name_back x.first t v) (split (grown (state.Name Fact) x t) v h))
extra_back (state.Open p) x t v h = inl h
extra_back (state.Word Body) x t v h = first_of x t v (left_back (word_back x.first t v) (split (grown (state.Word Body) x t) v h))
extra_back (state.Word Head) x t v h = first_of x t v (right_back (word_back x.second t v) (split (grown (state.Word Head) x t) v h))
extra_back (state.Word Fact) x t v h = first_of x t v (left_back (word_back x.first t v) (split (grown (state.Word Fact) x t) v h))
extra_back (state.More p) x t v h = inl h
extra_back (state.After p) x t v h = inl h
extra_back state.Done x t v h = inl h
