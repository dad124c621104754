-- The questions on a line in their order, and what its tables write.
use Rattle.std.proofs.Common.{◌≡◌, ℕ, List, [], ◌∷◌, ◌++◌, map, length, Some, Ok, Err, Result, refl, sym, ap, ◌∙◌, subst, inl, inr, arith, Bor, length-append}
use Rattle.std.proofs.lemmas.List.{length-map}
use Rattle.questions.specs.declared.question.Refusal.{Refusal}
use Rattle.tokens.specs.Tokens.{Token}
use Rattle.patterns.specs.Patterns.{Written, Writes}
use Rattle.patterns.specs.declared.state.Form.{Form}
use Rattle.patterns.specs.Patterns.Line.{rule_line, fact_line}
use Rattle.patterns.specs.declared.state.Form.TheVariants as forms
use Rattle.patterns.specs.Asking.{Yes, Turned}
use Rattle.patterns.specs.Asking.Asked.{line_length, bytes, word_length}
use Rattle.bounded.specs.Bounded.{items}
use Rattle.patterns.specs.declared.reader.Tables.{Tables}
use Rattle.patterns.specs.declared.atom.Atom.{Atom}
use Rattle.lists.specs.Places.{At}
use Rattle.lists.proofs.Numbered.{at_next}
use Rattle.patterns.specs.Tables.{word_of, written, side_of, AtomPartOf, Last}
use Rattle.reading.specs.Lines.{Answers, Spells, Patterned, Read, RulePartOf}

pub turned_length : (form : Form) (s : List ℕ) (e : Refusal) → Answers form s line_length (Err e) → Turned form s e.question e.place
turned_length form s e a = inl a

pub turned_bytes : (form : Form) (s : List ℕ) (e : Refusal) → Yes form s line_length → Answers form s bytes (Err e) → Turned form s e.question e.place
turned_bytes form s e a b = inr (a, inl b)

pub turned_words : (form : Form) (s : List ℕ) (e : Refusal) → Yes form s line_length → Yes form s bytes → Answers form s word_length (Err e) → Turned form s e.question e.place
turned_words form s e a b c = inr (a, inr (b, inl c))

pub whole_read : (form : Form) (line : Bor (List ℕ)) (r : Result Tables Refusal) → Yes form line.now line_length → Yes form line.now bytes → Yes form line.now word_length → Patterned form line r → Read form line r
whole_read form line (Ok t) a b c (l, w, k, few) = ((a, (b, (c, ((l, w), (few, tt))))), (l, w, k, few))
whole_read form line (Err e) a b c (inl p) = inr (a, inr (b, inr (c, inl p)))
whole_read form line (Err e) a b c (inr (y, n, q)) = inr (a, inr (b, inr (c, inr (y, inl (n, q)))))

-- ---- what the tables of a line that is read write

pub rule_written : (line : Bor (List ℕ)) (t : Tables) → Spells forms.Rule line t → RulePartOf line (record { label = t.label; body = t.body; head = t.head }) × Writes forms.Rule line.now (rule_line (word_of t.label) (side_of t.body) (side_of t.head))
rule_written line t (rule_line a b h, w, k, _) =
    let same : rule_line (word_of t.label) (side_of t.body) (side_of t.head) ≡ rule_line a b h =
    ap (λ (x : Token). rule_line x (side_of t.body) (side_of t.head)) k.label.0 ∙ ap (λ (x : List Written). rule_line a x (side_of t.head)) k.first ∙ ap (λ (x : List Written). rule_line a b x) k.second in
    (record { label = k.label.1; body = k.body_part; head = k.head_part }, subst (λ x. Writes forms.Rule line.now x) (sym same) w)
rule_written line t (fact_line a, (ts, _, f), k, _) = absurd f

-- a side of one atom ends with it
only_atom : (before : List Atom) (d : Atom) (xs : List Atom) (a : Written) → xs ≡ before ++ (d ∷ []) → map written xs ≡ a ∷ [] → written d ≡ a
only_atom [] d xs a e q = let h = sym (ap (map written) e) ∙ q in cc
only_atom (b ∷ before) d xs a e q = absurd (let n = ap length (sym (ap (map written) e) ∙ q) in let m = length-map (before ++ (d ∷ [])) written in let k = length-append before (d ∷ []) in omega arith)

pub fact_written : (line : Bor (List ℕ)) (t : Tables) (d : Atom) → Last t.body (Some d) → Spells forms.Fact line t → AtomPartOf line d × Writes forms.Fact line.now (fact_line (written d))
fact_written line t d last (rule_line a b h, (ts, _, f), k, _) = absurd f
fact_written line t d (before, e) (fact_line a, w, k, _) =
    (k.body_part (length before) d (subst (λ y. At y (length before) d) (sym e) (at_next before [] d)), subst (λ x. Writes forms.Fact line.now (fact_line x)) (sym (only_atom before d (items t.body.atoms) a e k.first)) w)

only_one : (xs : List Atom) (a : Written) → map written xs ≡ a ∷ [] → (d : Atom) × (xs ≡ d ∷ [])
only_one [] a q = absurd (let n = ap length q in omega arith)
only_one (x ∷ []) a q = (x, refl)
only_one (x ∷ y ∷ xs) a q = absurd (let n = ap length q in omega arith)

-- a fact line has one atom
pub fact_one : (line : Bor (List ℕ)) (t : Tables) → Spells forms.Fact line t → (d : Atom) × (items t.body.atoms ≡ d ∷ [])
fact_one line t (rule_line a b h, (ts, _, f), k, _) = absurd f
fact_one line t (fact_line a, w, k, _) = only_one (items t.body.atoms) a k.first
