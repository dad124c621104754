-- Each question to a sound book is answered, so a line passes or is turned away.
use Rattle.std.proofs.Common.{◌≡◌, ℕ, suc, ◌<◌, ◌≤◌, ◌≢◌, ◌⊎◌, List, [], ◌∷◌, ◌++◌, map, length, take, refl, ap, ◌∙◌, subst, inl, inr, arith, length-append}
use Rattle.std.proofs.lemmas.Bool.{cases_eq, cases_lt}
use Rattle.lists.specs.Places.{At, Holds}
use Rattle.lists.proofs.Deciding.{OrNot, Searched, search, same_text}
use Rattle.lists.proofs.Numbered.{first_single}
use Rattle.tokens.specs.Tokens.{Token}
use Rattle.questions.specs.Asking.{AllYes, FirstNo}
use Rattle.questions.specs.declared.question.Question.{Question}
use Rattle.patterns.specs.Patterns.{Written, Line, Writes}
use Rattle.patterns.specs.Patterns.Line.{rule_line, fact_line}
use Rattle.patterns.specs.declared.state.Form.TheVariants as forms
use Rattle.patterns.specs.Asking as lines
use Rattle.naming.specs.Meaning.{Predicate, predicate_of, Learned}
use Rattle.naming.proofs.Naming.{same_predicate}
use Rattle.book.specs.Book.{Book}
use Rattle.book.specs.Asking.{Asked, question_of, WritesRule, Wanted, WrongColumns, Yes, No}
use Rattle.book.specs.Asking.Asked.{of_line, label_unused, columns, predicates, few_rules}
use Rattle.book.specs.Law.{Decided}

same_or_other : (p q : Predicate) → OrNot (p ≡ q)
same_or_other p q = cases (same_text p.name q.name) (cases_eq p.columns q.columns)
  where
    cases : OrNot (p.name ≡ q.name) → (p.columns ≡ q.columns) ⊎ (p.columns ≢ q.columns) → OrNot (p ≡ q)
    cases (inl e) (inl f) = inl (same_predicate p q e f)
    cases (inr n) _ = inr (λ e. n (ap (λ x. x.name) e))
    cases (inl e) (inr n) = inr (λ f. n (ap (λ x. x.columns) f))

holds_or_not : (known : List Predicate) (p : Predicate) → OrNot (Holds known p)
holds_or_not known p = cases (search (λ q. q ≡ p) known (λ k q h. same_or_other q p))
  where
    cases : Searched (λ q. q ≡ p) known → OrNot (Holds known p)
    cases (inl (k, x, f)) = inl (k, subst (λ z. At known k z) f.does f.here)
    cases (inr none) = inr (λ (k, h). none k p h refl)

-- ---- the columns

wrong_or_not : (known : List Predicate) (atoms : List Written) (k : ℕ) (a : Written) → At atoms k a → OrNot (WrongColumns known atoms a)
wrong_or_not known atoms k a at = known_wrong (search Other known (λ i p h. other p))
  where
    name : List ℕ
    name = a.predicate.text

    Other : Predicate → Type 0
    Other p = (p.name ≡ name) × (length a.words ≢ p.columns)

    other : (p : Predicate) → OrNot (Other p)
    other p = cases (same_text p.name name) (cases_eq (length a.words) p.columns)
      where
        cases : OrNot (p.name ≡ name) → (length a.words ≡ p.columns) ⊎ (length a.words ≢ p.columns) → OrNot (Other p)
        cases (inl e) (inr n) = inl (e, n)
        cases (inr n) _ = inr (λ (e, _). n e)
        cases (inl e) (inl f) = inr (λ (_, n). n f)

    Same : Written → Type 0
    Same x = x.predicate.text ≡ name

    -- an atom of a new predicate
    new_wrong : ((i : ℕ) (p : Predicate) → At known i p → p.name ≡ name → ⊥) → Searched Same atoms → OrNot (WrongColumns known atoms a)
    new_wrong unknown (inr none) = absurd (none k a at refl)
    new_wrong unknown (inl (j, x, f)) = cases (cases_eq (length a.words) (length x.words))
      where
        cases : (length a.words ≡ length x.words) ⊎ (length a.words ≢ length x.words) → OrNot (WrongColumns known atoms a)
        cases (inr n) = inl (length x.words, inr ((λ (i, p, h, e). unknown i p h e), j, x, f, refl), n)
        cases (inl e) = inr (λ (n, w, ne). fits n w ne)
          where
            fits : (n : ℕ) → Wanted known atoms name n → (length a.words ≡ n → ⊥) → ⊥
            fits n (inl (i, p, h, q, _)) ne = unknown i p h q
            fits n (inr (_, i, y, g, q)) ne = ne (e ∙ ap (λ (z : Written). length z.words) (first_single Same atoms j i x y f g) ∙ q)

    right : ((i : ℕ) (p : Predicate) → At known i p → Other p → ⊥) → Searched (λ p. p.name ≡ name) known → OrNot (WrongColumns known atoms a)
    right none (inl (i, p, f)) = inr (λ (n, w, ne). fits n w ne)
      where
        fits : (n : ℕ) → Wanted known atoms name n → (length a.words ≡ n → ⊥) → ⊥
        fits n (inl (j, q, h, e, c)) ne = none j q h (e, λ d. ne (d ∙ c))
        fits n (inr (unknown, _, _, _, _)) ne = unknown (i, p, f.here, f.does)
    right none (inr unknown) = new_wrong unknown (search Same atoms (λ j x h. same_text x.predicate.text name))

    known_wrong : Searched Other known → OrNot (WrongColumns known atoms a)
    known_wrong (inl (i, p, f)) = inl (p.columns, inl (i, p, f.here, f.does.0, refl), f.does.1)
    known_wrong (inr none) = right none (search (λ p. p.name ≡ name) known (λ i p h. same_text p.name name))

-- ---- the predicates

-- the predicates of the atoms become known and are at most n; or one of them is one more
abbrev Fits : List Predicate → List Written → ℕ → Type 0
Fits known atoms n =
    ((after : List Predicate) × Learned known atoms after × (length after ≤ n))
    ⊎ ((k : ℕ) × (a : Written) × At atoms k a × (before : List Predicate) × Learned known (take k atoms) before × (Holds before (predicate_of a) → ⊥) × (length before ≡ n))

fits : (known : List Predicate) (atoms : List Written) (n : ℕ) → length known ≤ n → Fits known atoms n
fits known [] n l = inl (known, refl, l)
fits known (a ∷ atoms) n l = cases (holds_or_not known (predicate_of a)) (fits known atoms n l) (cases_lt (length known) n) (λ m. fits (known ++ (predicate_of a ∷ [])) atoms n (omega (arith, m, length-append known (predicate_of a ∷ []))))
  where
    p : Predicate
    p = predicate_of a

    there : Holds known p → Fits known atoms n → Fits known (a ∷ atoms) n
    there h (inl (after, j, few)) = inl (after, inl (h, j), few)
    there h (inr (k, c, at, before, j, new, full)) = inr (suc k, c, at, before, inl (h, j), new, full)

    next : (Holds known p → ⊥) → Fits (known ++ (p ∷ [])) atoms n → Fits known (a ∷ atoms) n
    next h (inl (after, j, few)) = inl (after, inr (h, j), few)
    next h (inr (k, c, at, before, j, new, full)) = inr (suc k, c, at, before, inr (h, j), new, full)

    cases : OrNot (Holds known p) → Fits known atoms n → (length known < n) ⊎ (n ≤ length known) → (length known < n → Fits (known ++ (p ∷ [])) atoms n) → Fits known (a ∷ atoms) n
    cases (inl h) same _ _ = there h same
    cases (inr h) _ (inl m) more = next h (more m)
    cases (inr h) _ (inr m) _ = inr (0, a, refl, known, refl, h, omega arith)

-- ---- each question

abbrev Answered : Book → List ℕ → Asked → Type 0
Answered b line x = Yes b line x ⊎ ((p : ℕ) × No b line x p)

module _ (b : Book) (line : List ℕ) (label : Token) (body head : List Written) (writes : WritesRule line label body head) where
  label_answered : Answered b line label_unused
  label_answered = cases (search (λ x. x.label ≡ label.text) b.entries (λ i e h. same_text e.label label.text))
    where
      cases : Searched (λ x. x.label ≡ label.text) b.entries → Answered b line label_unused
      cases (inl (i, e, f)) = inr (label.place, (label, body, head, i, e, writes, f, refl))
      cases (inr none) = inl (label, body, head, writes, λ i e f. none i e f.here f.does)

  columns_answered : Answered b line columns
  columns_answered = cases (search (WrongColumns b.known (body ++ head)) (body ++ head) (wrong_or_not b.known (body ++ head)))
    where
      cases : Searched (WrongColumns b.known (body ++ head)) (body ++ head) → Answered b line columns
      cases (inl (k, a, f)) = inr (a.predicate.place, (label, body, head, k, a, writes, f, refl))
      cases (inr none) = inl (label, body, head, writes, none)

  predicates_answered : length b.known ≤ 32 → Answered b line predicates
  predicates_answered few = cases (fits b.known (body ++ head) 32 few)
    where
      cases : Fits b.known (body ++ head) 32 → Answered b line predicates
      cases (inl (after, j, few)) = inl (label, body, head, after, writes, j, few)
      cases (inr (k, a, at, before, j, new, full)) = inr (a.predicate.place, (label, body, head, k, a, writes, (at, before, j, new, full), refl))

rules_answered : (b : Book) (line : List ℕ) → Answered b line few_rules
rules_answered b line = cases (cases_lt (length b.entries) 64)
  where
    cases : (length b.entries < 64) ⊎ (64 ≤ length b.entries) → Answered b line few_rules
    cases (inl l) = inl l
    cases (inr l) = inr (0, (l, refl))

-- ---- all of them

abbrev Turns : Book → List ℕ → List Asked → Type 0
Turns b line xs = AllYes (Yes b line) xs ⊎ ((q : Question) × (p : ℕ) × FirstNo (Yes b line) (No b line) question_of xs q p)

one_more : (b : Book) (line : List ℕ) (x : Asked) (xs : List Asked) → Answered b line x → Turns b line xs → Turns b line (x ∷ xs)
one_more b line x xs (inl y) (inl ys) = inl (y, ys)
one_more b line x xs (inl y) (inr (q, p, f)) = inr (q, p, inr (y, f))
one_more b line x xs (inr (p, n)) _ = inr (question_of x, p, inl (n, refl))

-- the questions on the line stand first
behind_line : (b : Book) (line : List ℕ) (xs : List lines.Asked) (ys : List Asked) → AllYes (lines.Yes forms.Rule line) xs → Turns b line ys → Turns b line (map of_line xs ++ ys)
behind_line b line [] ys _ t = t
behind_line b line (x ∷ xs) ys (y, all) t = one_more b line (of_line x) (map of_line xs ++ ys) (inl y) (behind_line b line xs ys all t)

line_first : (b : Book) (line : List ℕ) (xs : List lines.Asked) (ys : List Asked) (q : Question) (p : ℕ) → FirstNo (lines.Yes forms.Rule line) (lines.No forms.Rule line) lines.question_of xs q p → FirstNo (Yes b line) (No b line) question_of (map of_line xs ++ ys) q p
line_first b line [] ys q p f = absurd f
line_first b line (x ∷ xs) ys q p (inl n) = inl n
line_first b line (x ∷ xs) ys q p (inr (y, f)) = inr (y, line_first b line xs ys q p f)

pub decided : (b : Book) → length b.known ≤ 32 → (line : List ℕ) → Decided b line
decided b s line (inr (q, p, f)) = inr (q, p, line_first b line lines.asked (label_unused ∷ columns ∷ predicates ∷ few_rules ∷ []) q p f)
decided b s line (inl all) = behind_line b line lines.asked (label_unused ∷ columns ∷ predicates ∷ few_rules ∷ []) all (to_book all.1.1.1.0)
  where
    to_book : (l : Line) × Writes forms.Rule line l → Turns b line (label_unused ∷ columns ∷ predicates ∷ few_rules ∷ [])
    to_book (fact_line atom, (_, _, f)) = absurd f
    to_book (rule_line label body head, w) =
        one_more b line label_unused (columns ∷ predicates ∷ few_rules ∷ []) (label_answered b line label body head w)
        (one_more b line columns (predicates ∷ few_rules ∷ []) (columns_answered b line label body head w)
        (one_more b line predicates (few_rules ∷ []) (predicates_answered b line label body head w s)
        (one_more b line few_rules [] (rules_answered b line) (inl tt))))
