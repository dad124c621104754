-- Going along a line token by token, through the pattern machine, to its end.
use Rattle.std.proofs.Common.{◌≡◌, ℕ, zero, suc, ◌≤◌, List, [], ◌∷◌, ◌++◌, length, take, Some, None, Ok, Err, Option, Result, sym, refl, ap, ◌∙◌, subst, inl, inr, arith, Bor}
use Rattle.questions.specs.declared.question.Refusal.{Refusal}
use Rattle.questions.specs.declared.question.Question.TheVariants.{Pattern}
use Rattle.lists.specs.Places.{At}
use Rattle.lists.proofs.Numbered.{at_next, take_front}
use Rattle.tokens.specs.Tokens as plain
use Rattle.tokens.specs.Tokens.{token_at, Between, Tokens}
use Rattle.tokens.specs.Tokens.Between.{none}
use Rattle.tokens.specs.Lexing.{kind_of, Next}
use Rattle.tokens.specs.declared.token.Token.{Token}
use Rattle.tokens.proofs.Unique.{stray_or_tokens}
use Rattle.tokens.proofs.Steps.{between_blanks, between_snoc, next_token, stray_here}
use Rattle.patterns.specs.Patterns.{Line, Follow, Writes, Completes, TooMany}
use Rattle.patterns.specs.declared.state.Form.{Form}
use Rattle.patterns.specs.Patterns.Line.{rule_line, fact_line}
use Rattle.patterns.specs.Machine.{Draft, start, run}
use Rattle.patterns.specs.Machine.Draft.{at_label, at_bars, at_name, at_open, at_word, at_more, after, after_fact, done}
use Rattle.patterns.proofs.Machines as machines
use Rattle.patterns.proofs.Machines.{run_follows, follows_run, run_completes, completes_run, run_snoc, run_stuck, some_same}
use Rattle.patterns.specs.Asking.{No}
use Rattle.patterns.specs.Asking.Asked.{pattern}
use Rattle.patterns.specs.declared.state.State.TheVariants as state
use Rattle.patterns.specs.declared.reader.Tables.{Tables}
use Rattle.patterns.specs.declared.reader.Reader.{Reader}
use Rattle.patterns.specs.Drafts.{state_of, line_parts, parts, Keeps, ExtraIn, FirstExtra, Held, Shows, Fed, Finished}
use Rattle.reading.specs.Lines.{Spells, Patterned}
use Rattle.patterns.proofs.Feeding.{later}
use Rattle.patterns.proofs.Keeping.{keeps_few}

-- the reader stands for what lies before the place at
abbrev pub Along : Form → Bor (List ℕ) → Reader → ℕ → Type 0
Along form line r at = (ts : List plain.Token) × (d : Draft) × Between line.now at 0 ts × (run (start form) ts ≡ Some d) × Shows line r d at

pub along_start : (form : Form) (line : Bor (List ℕ)) (r : Reader) → Shows line r (start form) 0 → Along form line r 0
along_start form line r h = ([], start form, none refl, refl, h)

blank_shows : (line : Bor (List ℕ)) (r : Reader) (d : Draft) (i a : ℕ) → Shows line r d i → i ≤ a → Shows line r d a
blank_shows line r d i a h l = record { state = h.state; held = later line r.tables r.extra (parts d) i a h.held l }

pub along_more : (form : Form) (line m : Bor (List ℕ)) (i j : ℕ) (o : Option Token) (t : Token) (old new : Reader) → m ≡ line → o ≡ Some t
    → Along form line old i → Next line i j (Ok o) → Fed old t new (Ok tt) → Along form m new j
along_more form line m i j o t old new same some (ts, d, b, r, sh) next fed =
    let (a, blanks, is) = subst (λ x. Next line i j (Ok x)) some next in
    let s = line.now in
    let u = token_at s a j (kind_of t) in
    let (f, q, sh2) = fed line d i a j sh blanks.from is in
    subst (λ x. Along form x new j) (sym same) (ts ++ (u ∷ []), f, between_snoc s a j (kind_of t) ts (between_blanks s i a ts b blanks) is.lies, run_snoc (start form) d f ts u r q, sh2)

pub along_stray : (form : Form) (line m : Bor (List ℕ)) (i j : ℕ) (e : Refusal) (r : Reader) (us : List plain.Token) → line ≡ m → Tokens m.now us → Along form line r i → Next line i j (Err e) → ⊥
along_stray form line m i j e r us same all (ts, d, b, _, _) (_, _, blanks, nothing) =
    stray_or_tokens line.now e.place us (stray_here line.now e.place ts (between_blanks line.now i e.place ts b blanks) nothing) (subst (λ x. Tokens x.now us) (sym same) all)

-- the token cannot stand there
pub along_stuck : (form : Form) (line m : Bor (List ℕ)) (i j : ℕ) (o : Option Token) (t : Token) (old new : Reader) (e : Refusal) (us : List plain.Token) → line ≡ m → o ≡ Some t
    → Tokens m.now us → Along form line old i → Next line i j (Ok o) → Fed old t new (Err e) → No form m.now pattern e.place × (Pattern ≡ e.question)
along_stuck form line m i j o t old new e us same some all (ts, d, b, r, sh) next fed =
    let (a, blanks, is) = subst (λ x. Next line i j (Ok x)) some next in
    let s = line.now in
    let u = token_at s a j (kind_of t) in
    let every = subst (λ x. Tokens x.now us) (sym same) all in
    let (halt, why, at) = fed line d i a j sh blanks.from is in
    let (rest, q) = next_token s a j (kind_of t) ts us every (between_blanks s i a ts b blanks) is.lies in
    let before : take (length ts) us ≡ ts = ap (take (length ts)) q ∙ take_front ts (u ∷ rest) in
    let through : take (suc (length ts)) us ≡ ts ++ (u ∷ []) = ap (take (suc (length ts))) q ∙ one_more ts u rest in
    subst (λ x. No form x.now pattern e.place × (Pattern ≡ e.question)) same (
      (
        us,
        every,
        inl (record {
          number = length ts;
          token = u;
          here = subst (λ x. At x (length ts) u) (sym q) (at_next ts rest u);
          place = at;
          before = subst (Completes form) (sym before) (run_completes form ts d r);
          stuck = λ c. never form ts u (run_stuck (start form) d ts u r halt) (subst (Completes form) through c);
        }),
      ),
      sym why,
    )
  where
    one_more : (xs : List plain.Token) (x : plain.Token) (ys : List plain.Token) → take (suc (length xs)) (xs ++ (x ∷ ys)) ≡ xs ++ (x ∷ [])
    one_more [] x ys = refl
    one_more (y ∷ xs) x ys = ap (λ (k : List plain.Token). y ∷ k) (one_more xs x ys)

    never : (form : Form) (xs : List plain.Token) (x : plain.Token) → run (start form) (xs ++ (x ∷ [])) ≡ None → Completes form (xs ++ (x ∷ [])) → ⊥
    never form xs x h c = let (f, q) = completes_run form (xs ++ (x ∷ [])) c in machines.none f (sym h ∙ q)

-- ---- the line's end

-- a draft in the last state is a whole line
finished : (d : Draft) → state_of d ≡ state.Done → (l : Line) × (d ≡ done l)
finished at_label e = absurd (let z : ◌≡◌ {A = ℕ} 0 1 = cc in omega arith)
finished (at_bars l) e = absurd (let z : ◌≡◌ {A = ℕ} 0 1 = cc in omega arith)
finished (at_name c) e = absurd (let z : ◌≡◌ {A = ℕ} 0 1 = cc in omega arith)
finished (at_open c p) e = absurd (let z : ◌≡◌ {A = ℕ} 0 1 = cc in omega arith)
finished (at_word c p ws) e = absurd (let z : ◌≡◌ {A = ℕ} 0 1 = cc in omega arith)
finished (at_more c p ws) e = absurd (let z : ◌≡◌ {A = ℕ} 0 1 = cc in omega arith)
finished (after s as_read) e = absurd (let z : ◌≡◌ {A = ℕ} 0 1 = cc in omega arith)
finished (after_fact a) e = absurd (let z : ◌≡◌ {A = ℕ} 0 1 = cc in omega arith)
finished (done l) e = (l, refl)

-- a word too many of the parts of a line is one of the line
to_line : (l : Line) (w : plain.Token) → ExtraIn (line_parts l) w → TooMany l w
to_line (rule_line a b h) w x = x
to_line (fact_line a) w (zero, side, k, v, h, i, o) = (0, side, k, v, h, i, o)
to_line (fact_line a) w (suc zero, side, k, v, h, i, o) = absurd (subst (λ y. At y k v) (sym h) i)
to_line (fact_line a) w (suc (suc n), side, k, v, h, i, o) = absurd h

of_line : (l : Line) (w : plain.Token) → TooMany l w → ExtraIn (line_parts l) w
of_line (rule_line a b h) w x = x
of_line (fact_line a) w (zero, side, k, v, h, i, o) = (0, side, k, v, h, i, o)
of_line (fact_line a) w (suc n, side, k, v, h, i, o) = absurd h

whole : (form : Form) (line : Bor (List ℕ)) (ts : List plain.Token) (d : Draft) (r : Reader) → run (start form) ts ≡ Some d → Shows line r d (length line.now) → r.state ≡ state.Done
    → (l : Line) × Follow form ts l × Held line r.tables r.extra (line_parts l) (length line.now)
whole form line ts d r h sh q =
    let (l, e) = finished d (sym sh.state ∙ q) in
    (l, run_follows form ts l (h ∙ ap (λ (x : Draft). Some x) e), subst (λ x. Held line r.tables r.extra (parts x) (length line.now)) e sh.held)

pub along_end : (form : Form) (line m : Bor (List ℕ)) (i j : ℕ) (o : Option Token) (r : Reader) (n : ℕ) (x : Result Tables Refusal) → line ≡ m → ((t : Token) → o ≡ Some t → ⊥)
    → n ≡ length m.now → Along form line r i → Next line i j (Ok o) → Finished r n x → Patterned form m x
along_end form line m i j (Some t) r n x same some len a next f = absurd (some t refl)
along_end form line m i j None r n (Ok t) same some len (ts, d, b, h, sh) (blanks, _) (q, e, k) =
    let s = line.now in
    let at_end = blank_shows line r d i (length s) sh blanks.from in
    let (l, f, held) = whole form line ts d r h at_end q in
    let keeps : Keeps line t (line_parts l) = subst (λ y. Keeps line y (line_parts l)) (sym k) (subst (λ y. Held line r.tables y (line_parts l) (length s)) e held) in
    let writes : Writes form s l = (ts, between_blanks s i (length s) ts b blanks, f) in
    subst (λ y. Spells form y t) same (l, writes, keeps, (l, writes, λ w too. keeps_few line t (line_parts l) w keeps (of_line l w too)))
along_end form line m i j None r n (Err e) same some len (ts, d, b, h, sh) (blanks, _) (inl (q, why, at)) =
    let s = line.now in
    subst (λ y. Patterned form y (Err e)) same (inl (
      (
        ts,
        between_blanks s i (length s) ts b blanks,
        inr (record {
          going = run_completes form ts d h;
          short = λ l f. q (sh.state ∙ ap state_of (some_same d (done l) (sym h ∙ follows_run form ts l f)));
          place = at ∙ len ∙ ap (λ (y : Bor (List ℕ)). length y.now) (sym same);
        }),
      ),
      sym why,
    ))
along_end form line m i j None r n (Err e) same some len (ts, d, b, h, sh) (blanks, _) (inr (q, extra, why)) =
    let s = line.now in
    let at_end = blank_shows line r d i (length s) sh blanks.from in
    let (l, f, held) = whole form line ts d r h at_end q in
    let first : FirstExtra (line_parts l) (length s) e.place = subst (λ y. Held line r.tables y (line_parts l) (length s)) extra held in
    let writes : Writes form s l = (ts, between_blanks s i (length s) ts b blanks, f) in
    let least : (v : plain.Token) → TooMany l v → first.word.place ≤ v.place = λ v too. (let a = first.least v (of_line l v too) in let p = first.place in omega arith) in
    subst (λ y. Patterned form y (Err e)) same (inr ((l, writes), (l, first.word, writes, to_line l first.word first.extra, least, first.place), sym why))
