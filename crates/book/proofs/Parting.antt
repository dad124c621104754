-- Each question to a book answers one thing, so adding and withdrawing have one outcome at most.
use Rattle.std.proofs.Common.{◌≡◌, ℕ, zero, suc, ◌<◌, ◌⊎◌, List, [], ◌∷◌, ◌++◌, map, length, take, sym, refl, ap, ◌∙◌, subst, inl, inr, arith, length-append}
use Rattle.std.proofs.lemmas.List.{take-take}
use Rattle.lists.specs.Places.{At, Holds, First, FirstAt, Pairwise}
use Rattle.lists.specs.Joins.{Joined}
use Rattle.lists.proofs.Numbered.{order, at_same, first_number, first_single}
use Rattle.lists.proofs.Joining.{first_at_single, joined_single, joined_longer}
use Rattle.questions.proofs.Parting.{first_no_single, all_or_first}
use Rattle.tokens.specs.Tokens.{Token}
use Rattle.patterns.specs.Patterns.{Written}
use Rattle.patterns.specs.Patterns.Line.{rule_line}
use Rattle.patterns.specs.declared.state.Form.TheVariants as forms
use Rattle.patterns.proofs.Shapes.{writes_single}
use Rattle.patterns.proofs.Parting as lines
use Rattle.theory.specs.Rules.{Atom, Rule}
use Rattle.naming.specs.Meaning.{Predicate, predicate_of, words_of, Learned, AtomMeans, RuleMeans}
use Rattle.book.specs.Book.{Book, Carries}
use Rattle.book.specs.Asking.{Asked, question_of, WrongColumns, OneMore, Yes, No, asked}
use Rattle.book.specs.Asking.Asked.{of_line, label_unused, columns, predicates, few_rules}
use Rattle.book.specs.Changing.{Adds, Withdraws}
use Rattle.book.specs.Law.{Determined}
use Rattle.book.proofs.Written.{one_label, one_list}

-- ---- one predicate more

-- what is joined before a new one is shorter than the whole
module _ {A B : Type 0} (f : B → A) where
  grows : (xs : List A) (ys : List B) (zs ws : List A) (k : ℕ) (y : B) → Joined xs (map f ys) zs → At ys k y → Joined xs (map f (take k ys)) ws → (Holds ws (f y) → ⊥) → length ws < length zs
  grows xs [] zs ws k y p h q new = absurd h
  grows xs (b ∷ ys) zs ws zero y (inl (have, p)) h q new = absurd (new (subst (λ z. Holds z (f y)) (sym q) (subst (λ z. Holds xs (f z)) h have)))
  grows xs (b ∷ ys) zs ws zero y (inr (_, p)) h q new = let n = joined_longer (xs ++ (f b ∷ [])) (map f ys) zs p in omega (arith, n, length-append xs (f b ∷ []), ap length q)
  grows xs (b ∷ ys) zs ws (suc k) y (inl (_, p)) h (inl (_, q)) new = grows xs ys zs ws k y p h q new
  grows xs (b ∷ ys) zs ws (suc k) y (inl (have, p)) h (inr (lack, q)) new = absurd (lack have)
  grows xs (b ∷ ys) zs ws (suc k) y (inr (lack, p)) h (inl (have, q)) new = absurd (lack have)
  grows xs (b ∷ ys) zs ws (suc k) y (inr (_, p)) h (inr (_, q)) new = grows (xs ++ (f b ∷ [])) ys zs ws k y p h q new

at_take : {A : Type 0} (n : ℕ) (xs : List A) (k : ℕ) (x : A) → At xs k x → k < n → At (take n xs) k x
at_take zero xs k x h l = absurd (omega arith)
at_take (suc n) [] k x h l = absurd h
at_take (suc n) (y ∷ ys) zero x h l = h
at_take (suc n) (y ∷ ys) (suc k) x h l = at_take n ys k x h (omega arith)

module _ (known : List Predicate) (atoms : List Written) where
  -- the 33rd comes once
  more_not : (k j : ℕ) (a b : Written) → OneMore known atoms k a → OneMore known atoms j b → k < j → ⊥
  more_not k j a b (here, ws, p, new, n) (there, zs, q, _, m) h =
      let lt = grows predicate_of known (take j atoms) zs ws k a q (at_take j atoms k a here h) (subst (λ z. Joined known (map predicate_of z) ws) (sym (take-take k j atoms (omega arith))) p) new in
      omega arith

  more_single : (k j : ℕ) (a b : Written) → OneMore known atoms k a → OneMore known atoms j b → a ≡ b
  more_single k j a b x y = cases (order k j)
    where
      cases : (k < j) ⊎ ((k ≡ j) ⊎ (j < k)) → a ≡ b
      cases (inl h) = absurd (more_not k j a b x y h)
      cases (inr (inl e)) = at_same atoms j a b (subst (λ n. At atoms n a) e x.0) y.0
      cases (inr (inr h)) = absurd (more_not j k b a y x h)

-- ---- each question

abbrev spot : Written → ℕ
spot a = a.predicate.place

yes_or_no : (b : Book) (line : List ℕ) (x : Asked) (p : ℕ) → Yes b line x → No b line x p → ⊥
yes_or_no b line (of_line x) p y n = lines.yes_or_no forms.Rule line x p y n
yes_or_no b line label_unused p (l, s, t, w, none) (m, u, v, i, e, o, c, _) = none i e (subst (λ (x : Token). Carries b x.text i e) (one_label line m l u v s t o w) c)
yes_or_no b line columns p (l, s, t, w, none) (m, u, v, k, a, o, f, _) =
    let g = subst (λ (x : List Written). First (WrongColumns b.known x) x k a) (one_list line m l u v s t o w) f in
    none k a g.here g.does
yes_or_no b line predicates p (l, s, t, after, w, learned, few) (m, u, v, k, a, o, more, _) =
    let (here, before, q, new, full) = subst (λ (x : List Written). OneMore b.known x k a) (one_list line m l u v s t o w) more in
    let lt = grows predicate_of b.known (s ++ t) after before k a learned here q new in
    omega arith
yes_or_no b line few_rules p y (n, _) = omega arith

no_single : (b : Book) (line : List ℕ) (x : Asked) (p q : ℕ) → No b line x p → No b line x q → p ≡ q
no_single b line (of_line x) p q m n = lines.no_single forms.Rule line x p q m n
no_single b line label_unused p q (l, s, t, i, e, w, c, f) (m, u, v, j, g, o, d, h) = f ∙ ap (λ (x : Token). x.place) (one_label line l m s t u v w o) ∙ sym h
no_single b line columns p q (l, s, t, k, a, w, f, e) (m, u, v, j, c, o, g, h) =
    e ∙ ap spot (first_single (WrongColumns b.known (u ++ v)) (u ++ v) k j a c (subst (λ (x : List Written). First (WrongColumns b.known x) x k a) (one_list line l m s t u v w o) f) g) ∙ sym h
no_single b line predicates p q (l, s, t, k, a, w, f, e) (m, u, v, j, c, o, g, h) =
    e ∙ ap spot (more_single b.known (u ++ v) k j a c (subst (λ (x : List Written). OneMore b.known x k a) (one_list line l m s t u v w o) f) g) ∙ sym h
no_single b line few_rules p q (_, e) (_, f) = e ∙ sym f

-- ---- the rule that a line means

pairs_single : {A B : Type 0} (R : A → B → Type 0) → ((a : A) (b c : B) → R a b → R a c → b ≡ c) → (xs : List A) (ys zs : List B) → Pairwise R xs ys → Pairwise R xs zs → ys ≡ zs
pairs_single R h [] [] [] p q = refl
pairs_single R h [] [] (z ∷ zs) p q = absurd q
pairs_single R h [] (y ∷ ys) zs p q = absurd p
pairs_single R h (x ∷ xs) [] zs p q = absurd p
pairs_single R h (x ∷ xs) (y ∷ ys) [] p q = absurd q
pairs_single R h (x ∷ xs) (y ∷ ys) (z ∷ zs) (a, p) (b, q) = let e = h x y z a b in let f = pairs_single R h xs ys zs p q in cc

same_atom : (a b : Atom) → a.predicate ≡ b.predicate → a.columns ≡ b.columns → a ≡ b
same_atom a b p v = ap (λ (x : ℕ). record { predicate = x; columns = a.columns }) p ∙ ap (λ (x : List ℕ). record { predicate = b.predicate; columns = x }) v

same_rule : (r q : Rule) → r.body ≡ q.body → r.head ≡ q.head → r ≡ q
same_rule r q p v = ap (λ (x : List Atom). record { body = x; head = r.head }) p ∙ ap (λ (x : List Atom). record { body = q.body; head = x }) v

atom_single : (known : List Predicate) (names : List (List ℕ)) (w : Written) (a b : Atom) → AtomMeans known names w a → AtomMeans known names w b → a ≡ b
atom_single known names w a b (p, x) (q, y) =
    same_atom a b (first_at_single known a.predicate b.predicate (predicate_of w) p q)
    (pairs_single (λ (t : Token) v. FirstAt names v t.text) (λ t i j m n. first_at_single names i j t.text m n) w.words a.columns b.columns x y)

rule_single : (known : List Predicate) (body head : List Written) (r q : Rule) → RuleMeans known body head r → RuleMeans known body head q → r ≡ q
rule_single known body head r q a b =
    let e = joined_single [] (words_of (body ++ head)) a.names b.names a.numbered b.numbered in
    let P : List (List ℕ) → List Written → List Atom → Type 0 = λ names ws us. Pairwise (AtomMeans known names) ws us in
    same_rule r q
    (pairs_single (AtomMeans known b.names) (atom_single known b.names) body r.body q.body (subst (λ n. P n body r.body) e a.the_body) b.the_body)
    (pairs_single (AtomMeans known b.names) (atom_single known b.names) head r.head q.head (subst (λ n. P n head r.head) e a.the_head) b.the_head)

-- ---- the book after

adds_single : (b : Book) (line : List ℕ) (after other : Book) → Adds b line after → Adds b line other → after ≡ other
adds_single b line after other x y =
    let e = writes_single forms.Rule line (rule_line x.label x.body x.head) (rule_line y.label y.body y.head) x.writes y.writes in
    let labels : x.label ≡ y.label = cc in
    let bodies : x.body ≡ y.body = cc in
    let tails : x.head ≡ y.head = cc in
    let atoms : x.body ++ x.head ≡ y.body ++ y.head = cc in
    let knowns = joined_single b.known (map predicate_of (y.body ++ y.head)) x.known y.known (subst (λ z. Learned b.known z x.known) atoms x.learned) y.learned in
    let moved = subst (λ k. RuleMeans k y.body y.head x.rule) knowns (subst (λ z. RuleMeans x.known z y.head x.rule) bodies (subst (λ z. RuleMeans x.known x.body z x.rule) tails x.means)) in
    let ruled = rule_single y.known y.body y.head x.rule y.rule moved y.means in
    let p = x.becomes in
    let q = y.becomes in
    cc

withdraws_single : (b : Book) (label : List ℕ) (after other : Book) → Withdraws b label after → Withdraws b label other → after ≡ other
withdraws_single b label after other x y =
    let n = first_number (λ z. z.label ≡ label) b.entries x.number y.number x.entry y.entry x.carries y.carries in
    let p = x.becomes in
    let q = y.becomes in
    cc

pub determined : (b : Book) → Determined b
determined b = record {
  turned = λ line. first_no_single (Yes b line) (No b line) question_of (yes_or_no b line) (no_single b line) asked;
  apart = λ line. all_or_first (Yes b line) (No b line) question_of (yes_or_no b line) asked;
  adds = adds_single b;
  withdraws = withdraws_single b;
  stands = λ label after none w. none w.number w.entry w.carries;
}
