-- What a rule line that passes its own questions writes: few atoms and words, and short names.
use Rattle.std.proofs.Common.{◌≡◌, ℕ, zero, suc, ◌<◌, ◌≤◌, ◌⊎◌, List, [], ◌∷◌, ◌++◌, length, sym, refl, ap, subst, inl, inr, arith}
use Rattle.std.proofs.lemmas.Bool.{cases_lt}
use Rattle.lists.specs.Places.{At, Holds}
use Rattle.tokens.specs.Tokens.{Token}
use Rattle.tokens.specs.Tokens.Kind.{word}
use Rattle.tokens.proofs.Unique.{tokens_single}
use Rattle.patterns.specs.Patterns.{Written, Line, Is, Bracketed, OneAtom, Atoms, Follow, sides, TooMany}
use Rattle.patterns.specs.Patterns.Line.{rule_line, fact_line}
use Rattle.patterns.specs.declared.state.Form.TheVariants as forms
use Rattle.patterns.specs.Asking.{LongWord, Passes}
use Rattle.patterns.proofs.Shapes.{writes_single}
use Rattle.book.specs.Asking.{WritesRule}

-- ---- a line writes one label and one list of atoms

-- the label and the atoms of a line, if it is a rule line
abbrev labels_of : Line → List Token
labels_of (rule_line label body head) = label ∷ []
labels_of (fact_line atom) = []

abbrev atoms_of : Line → List Written
atoms_of (rule_line label body head) = body ++ head
atoms_of (fact_line atom) = []

module _ (line : List ℕ) (l m : Token) (s t u v : List Written) (a : WritesRule line l s t) (b : WritesRule line m u v) where
  pub one_label : l ≡ m
  one_label = let e = ap labels_of (writes_single forms.Rule line (rule_line l s t) (rule_line m u v) a b) in cc

  pub one_list : s ++ t ≡ u ++ v
  one_list = ap atoms_of (writes_single forms.Rule line (rule_line l s t) (rule_line m u v) a b)

-- ---- what the questions say

-- one to four atoms of one to four words, with predicates of at most 8 bytes
pub record WrittenSide (atoms : List Written) : Type 0 where
  pub some : 0 < length atoms
  pub few : length atoms ≤ 4
  pub word : (k : ℕ) (a : Written) → At atoms k a → 0 < length a.words
  pub words : (k : ℕ) (a : Written) → At atoms k a → length a.words ≤ 4
  pub short : (k : ℕ) (a : Written) → At atoms k a → length a.predicate.text ≤ 8

-- two such sides, and a label of at most 8 bytes
pub record WrittenWell (label : Token) (body head : List Written) : Type 0 where
  pub short : length label.text ≤ 8
  pub the_body : WrittenSide body
  pub the_head : WrittenSide head

-- ---- one or more

bracketed_some : (ws ts rest : List Token) → Bracketed ws ts rest → 0 < length ws
bracketed_some [] ts rest b = absurd b
bracketed_some (w ∷ []) ts rest b = omega arith
bracketed_some (w ∷ v ∷ ws) ts rest b = omega arith

atoms_some : (us : List Written) (ts rest : List Token) → Atoms us ts rest → 0 < length us
atoms_some [] ts rest b = absurd b
atoms_some (u ∷ []) ts rest b = omega arith
atoms_some (u ∷ v ∷ us) ts rest b = omega arith

-- ---- the predicates are words among the tokens

-- what is left stands among the tokens
bracketed_rest : (ws ts rest : List Token) (t : Token) → Bracketed ws ts rest → Holds rest t → Holds ts t
bracketed_rest [] ts rest t b h = absurd b
bracketed_rest (w ∷ []) ts rest t (z, _, _, e) (n, h) = (suc (suc n), subst (λ x. At x (suc (suc n)) t) (sym e) h)
bracketed_rest (w ∷ v ∷ ws) ts rest t (z, more, _, _, e, b) h =
    let (n, i) = bracketed_rest (v ∷ ws) more rest t b h in
    (suc (suc n), subst (λ x. At x (suc (suc n)) t) (sym e) i)

one_rest : (a : Written) (ts rest : List Token) (t : Token) → OneAtom a ts rest → Holds rest t → Holds ts t
one_rest a ts rest t (z, more, _, _, e, b) h =
    let (n, i) = bracketed_rest a.words more rest t b h in
    (suc (suc n), subst (λ x. At x (suc (suc n)) t) (sym e) i)

atoms_rest : (us : List Written) (ts rest : List Token) (t : Token) → Atoms us ts rest → Holds rest t → Holds ts t
atoms_rest [] ts rest t b h = absurd b
atoms_rest (u ∷ []) ts rest t b h = one_rest u ts rest t b h
atoms_rest (u ∷ v ∷ us) ts rest t (z, more, _, a, b) h =
    let (n, i) = atoms_rest (v ∷ us) more rest t b h in
    one_rest u ts (z ∷ more) t a (suc n, i)

-- an atom has a word or more, and its predicate is a word among the tokens
record Stands (ts : List Token) (a : Written) : Type 0 where
  pub some : 0 < length a.words
  pub named : Is word a.predicate
  pub held : Holds ts a.predicate

one_stands : (a : Written) (ts rest : List Token) → OneAtom a ts rest → Stands ts a
one_stands a ts rest (z, more, w, _, e, b) = record { some = bracketed_some a.words more rest b; named = w; held = (0, subst (λ x. At x 0 a.predicate) (sym e) refl) }

atoms_stand : (us : List Written) (ts rest : List Token) → Atoms us ts rest → (k : ℕ) (a : Written) → At us k a → Stands ts a
atoms_stand [] ts rest b k a h = absurd b
atoms_stand (u ∷ []) ts rest b zero a h = subst (λ x. Stands ts x) h (one_stands u ts rest b)
atoms_stand (u ∷ []) ts rest b (suc k) a h = absurd h
atoms_stand (u ∷ v ∷ us) ts rest (z, more, _, o, _) zero a h = subst (λ x. Stands ts x) h (one_stands u ts (z ∷ more) o)
atoms_stand (u ∷ v ∷ us) ts rest (z, more, _, o, b) (suc k) a h =
    let s = atoms_stand (v ∷ us) more rest b k a h in
    let (n, i) = s.held in
    record { some = s.some; named = s.named; held = one_rest u ts (z ∷ more) a.predicate o (suc n, i) }

-- ---- at most so many

at_most : {A : Type 0} (xs : List A) (n : ℕ) → ((x : A) → At xs n x → ⊥) → length xs ≤ n
at_most [] n none = omega arith
at_most (x ∷ xs) zero none = absurd (none x refl)
at_most (x ∷ xs) (suc n) none = let h = at_most xs n none in omega arith

-- the tokens have no long word
module _ (ts : List Token) (none : (k : ℕ) (t : Token) → At ts k t → LongWord t → ⊥) where
  short_word : (t : Token) → Is word t → Holds ts t → length t.text ≤ 8
  short_word t w (n, h) = cases (cases_lt 8 (length t.text))
    where
      cases : (8 < length t.text) ⊎ (length t.text ≤ 8) → length t.text ≤ 8
      cases (inl l) = absurd (none n t h (w, l))
      cases (inr l) = l

  -- side number n of a line without words too many
  side_well : (l : Line) (n : ℕ) (side : List Written) (from rest : List Token) → ((w : Token) → TooMany l w → ⊥) → At (sides l) n side → Atoms side from rest → ((t : Token) → Holds from t → Holds ts t) → WrittenSide side
  side_well l n side from rest fine at b within = record {
    some = atoms_some side from rest b;
    few = at_most side 4 (λ a h. fine a.predicate (n, side, 4, a, at, h, inl (omega arith, refl)));
    word = λ k a h. (atoms_stand side from rest b k a h).some;
    words = λ k a h. at_most a.words 4 (λ w i. fine w (n, side, k, a, at, h, inr (4, i, omega arith)));
    short = λ k a h. let s = atoms_stand side from rest b k a h in short_word a.predicate s.named (within a.predicate s.held);
  }

  well : (label : Token) (body head : List Written) → Follow forms.Rule ts (rule_line label body head) → ((w : Token) → TooMany (rule_line label body head) w → ⊥) → WrittenWell label body head
  well label body head (xs, y, ys, z, (o, w, _, e), b, _, h, _) fine = record {
    short = short_word label w (0, subst (λ x. At x 0 label) (sym e) refl);
    the_body = side_well (rule_line label body head) 0 body xs (y ∷ ys) fine refl b past;
    the_head = side_well (rule_line label body head) 1 head ys (z ∷ []) fine refl h (λ t (n, i). past t (atoms_rest body xs (y ∷ ys) t b (suc n, i)));
  }
    where
      past : (t : Token) → Holds xs t → Holds ts t
      past t (n, i) = (suc (suc n), subst (λ x. At x (suc (suc n)) t) (sym e) i)

pub written_well : (line : List ℕ) (label : Token) (body head : List Written) → Passes forms.Rule line → WritesRule line label body head → WrittenWell label body head
written_well line label body head (_, (_, ((us, u, none), (_, ((m, v, fine), _))))) (ts, t, f) =
    well ts (subst (λ x. ((k : ℕ) (w : Token) → At x k w → LongWord w → ⊥)) (tokens_single line us ts u t) none) label body head f
    (subst (λ x. ((w : Token) → TooMany x w → ⊥)) (writes_single forms.Rule line m (rule_line label body head) v (ts, t, f)) fine)
