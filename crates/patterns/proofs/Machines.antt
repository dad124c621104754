-- The state machine accepts exactly the pattern, and goes on exactly as long as the pattern can be completed.
use Rattle.std.proofs.Common.{◌≡◌, ℕ, ◌⊎◌, List, [], ◌∷◌, ◌++◌, Some, None, Option, sym, refl, ap, ◌∙◌, subst, inl, inr, append_assoc, arith}
use Rattle.tokens.specs.Tokens.{Kind, Token}
use Rattle.tokens.specs.Tokens.Kind.{word, bars, arrow, opens, closes, comma, stop}
use Rattle.patterns.specs.Patterns.{Written, Line, Is, Bracketed, OneAtom, Atoms, Follow, Completes}
use Rattle.patterns.specs.declared.state.Form.{Form}
use Rattle.patterns.specs.Patterns.Line.{rule_line, fact_line}
use Rattle.patterns.specs.declared.state.Form.TheVariants as forms
use Rattle.patterns.specs.Machine.{Side, Context, Draft, start, atom_of, closed, by_kind, move, step, and_then, run, MachineExact}
use Rattle.patterns.specs.Machine.Side.{body, head}
use Rattle.patterns.specs.Machine.Context.{in_side, in_fact}
use Rattle.patterns.specs.Machine.Draft.{at_label, at_bars, at_name, at_open, at_word, at_more, after, after_fact, done}

-- ---- what follows the pattern is accepted

-- a token of a known kind moves the draft
takes : (d e : Draft) (t : Token) (ts : List Token) (k : Kind) → Is k t → move d t k ≡ Some e → run d (t ∷ ts) ≡ run e ts
takes d e t ts k q m = ap (λ (x : Option Draft). and_then x (λ f. run f ts)) (ap (move d t) q ∙ m)

bracketed_run : (c : Context) (p : Token) (ws vs ts rest : List Token) → Bracketed vs ts rest → run (at_word c p ws) ts ≡ run (closed c (atom_of p (ws ++ vs))) rest
bracketed_run c p ws [] ts rest b = absurd b
bracketed_run c p ws (v ∷ []) ts rest (z, w, q, e) =
    ap (run (at_word c p ws)) e ∙ takes (at_word c p ws) (at_more c p (ws ++ (v ∷ []))) v (z ∷ rest) word w refl
    ∙ takes (at_more c p (ws ++ (v ∷ []))) (closed c (atom_of p (ws ++ (v ∷ [])))) z rest closes q refl
bracketed_run c p ws (v ∷ u ∷ vs) ts rest (z, more, w, q, e, b) =
    ap (run (at_word c p ws)) e ∙ takes (at_word c p ws) (at_more c p (ws ++ (v ∷ []))) v (z ∷ more) word w refl
    ∙ takes (at_more c p (ws ++ (v ∷ []))) (at_word c p (ws ++ (v ∷ []))) z more comma q refl
    ∙ bracketed_run c p (ws ++ (v ∷ [])) (u ∷ vs) more rest b
    ∙ ap (λ (x : List Token). run (closed c (atom_of p x)) rest) (append_assoc ws (v ∷ []) (u ∷ vs))

atom_run : (c : Context) (a : Written) (ts rest : List Token) → OneAtom a ts rest → run (at_name c) ts ≡ run (closed c a) rest
atom_run c a ts rest (z, more, w, q, e, b) =
    ap (run (at_name c)) e ∙ takes (at_name c) (at_open c a.predicate) a.predicate (z ∷ more) word w refl
    ∙ takes (at_open c a.predicate) (at_word c a.predicate []) z more opens q refl
    ∙ bracketed_run c a.predicate [] a.words more rest b

comma_run : (s : Side) (as_read : List Written) (z : Token) (more : List Token) → Is comma z → run (after s as_read) (z ∷ more) ≡ run (at_name (in_side s as_read)) more
comma_run (body l) as_read z more q = takes (after (body l) as_read) (at_name (in_side (body l) as_read)) z more comma q refl
comma_run (head l b) as_read z more q = takes (after (head l b) as_read) (at_name (in_side (head l b) as_read)) z more comma q refl

atoms_run : (s : Side) (before as_read : List Written) (ts rest : List Token) → Atoms as_read ts rest → run (at_name (in_side s before)) ts ≡ run (after s (before ++ as_read)) rest
atoms_run s before [] ts rest h = absurd h
atoms_run s before (a ∷ []) ts rest h = atom_run (in_side s before) a ts rest h
atoms_run s before (a ∷ b ∷ bs) ts rest (z, more, q, h, k) =
    atom_run (in_side s before) a ts (z ∷ more) h ∙ comma_run s (before ++ (a ∷ [])) z more q
    ∙ atoms_run s (before ++ (a ∷ [])) (b ∷ bs) more rest k
    ∙ ap (λ (x : List Written). run (after s x) rest) (append_assoc before (a ∷ []) (b ∷ bs))

pub follows_run : (form : Form) (ts : List Token) (l : Line) → Follow form ts l → run (start form) ts ≡ Some (done l)
follows_run forms.Rule ts (rule_line l b h) (xs, y, ys, z, (o, w, q, e), bs, iy, hs, iz) =
    ap (run at_label) e ∙ takes at_label (at_bars l) l (o ∷ xs) word w refl
    ∙ takes (at_bars l) (at_name (in_side (body l) [])) o xs bars q refl
    ∙ atoms_run (body l) [] b xs (y ∷ ys) bs
    ∙ takes (after (body l) b) (at_name (in_side (head l b) [])) y ys arrow iy refl
    ∙ atoms_run (head l b) [] h ys (z ∷ []) hs
    ∙ takes (after (head l b) h) (done (rule_line l b h)) z [] stop iz refl
follows_run forms.Rule ts (fact_line a) f = absurd f
follows_run forms.Fact ts (rule_line l b h) f = absurd f
follows_run forms.Fact ts (fact_line a) (z, h, iz) = atom_run in_fact a ts (z ∷ []) h ∙ takes (after_fact a) (done (fact_line a)) z [] stop iz refl

-- ---- what is accepted follows the pattern: what each draft still owes

abbrev Tail : Side → List Written → List Token → Line → Type 0
Tail (body l) as_read rest m = (y : Token) × (ys : List Token) × (h : List Written) × (z : Token) × Is arrow y × (rest ≡ y ∷ ys) × Atoms h ys (z ∷ []) × Is stop z × (rule_line l as_read h ≡ m)
Tail (head l b) as_read rest m = (z : Token) × Is stop z × (rest ≡ z ∷ []) × (rule_line l b as_read ≡ m)

abbrev Named : Side → List Written → List Token → Line → Type 0
Named s before ts m = (more : List Written) × (rest : List Token) × Atoms more ts rest × Tail s (before ++ more) rest m

abbrev Ended : Side → List Written → List Token → Line → Type 0
Ended s as_read ts m = Tail s as_read ts m ⊎ ((z : Token) × (xs : List Token) × Is comma z × (ts ≡ z ∷ xs) × Named s as_read xs m)

abbrev Closes : Context → Written → List Token → Line → Type 0
Closes (in_side s before) a rest m = Ended s (before ++ (a ∷ [])) rest m
Closes in_fact a rest m = (z : Token) × Is stop z × (rest ≡ z ∷ []) × (fact_line a ≡ m)

abbrev Filled : Context → Token → List Token → List Token → Line → Type 0
Filled c p ws ts m = (vs : List Token) × (rest : List Token) × Bracketed vs ts rest × Closes c (atom_of p (ws ++ vs)) rest m

abbrev Begun : Context → List Token → Line → Type 0
Begun c ts m = (a : Written) × (rest : List Token) × OneAtom a ts rest × Closes c a rest m

abbrev Owed : Draft → List Token → Line → Type 0
Owed at_label ts m = Follow forms.Rule ts m
Owed (at_bars l) ts m = (z : Token) × (xs : List Token) × Is bars z × (ts ≡ z ∷ xs) × Named (body l) [] xs m
Owed (at_name c) ts m = Begun c ts m
Owed (at_open c p) ts m = (z : Token) × (xs : List Token) × Is opens z × (ts ≡ z ∷ xs) × Filled c p [] xs m
Owed (at_word c p ws) ts m = Filled c p ws ts m
Owed (at_more c p ws) ts m =
    ((z : Token) × (rest : List Token) × Is closes z × (ts ≡ z ∷ rest) × Closes c (atom_of p ws) rest m)
    ⊎ ((z : Token) × (xs : List Token) × Is comma z × (ts ≡ z ∷ xs) × Filled c p ws xs m)
Owed (after s as_read) ts m = Ended s as_read ts m
Owed (after_fact a) ts m = (z : Token) × Is stop z × (ts ≡ z ∷ []) × (fact_line a ≡ m)
Owed (done l) ts m = (ts ≡ []) × (l ≡ m)

pub none : {A : Type 0} (x : A) → ◌≡◌ {A = Option A} None (Some x) → ⊥
none x h = let z : ◌≡◌ {A = ℕ} 0 1 = cc in omega arith

-- an atom and what follows it are one more atom of the side
named : (s : Side) (before : List Written) (ts : List Token) (m : Line) → Begun (in_side s before) ts m → Named s before ts m
named s before ts m (a, rest, h, inl t) = (a ∷ [], rest, h, t)
named s before ts m (a, rest, h, inr (z, xs, q, e, ([], r, k, t))) = absurd k
named s before ts m (a, rest, h, inr (z, xs, q, e, (b ∷ bs, r, k, t))) =
    (a ∷ b ∷ bs, r, (z, xs, q, subst (λ x. OneAtom a ts x) e h, k), subst (λ x. Tail s x r m) (append_assoc before (a ∷ []) (b ∷ bs)) t)

-- a word and what it owes
filled : (c : Context) (p : Token) (ws : List Token) (t : Token) (ts : List Token) (m : Line) → Is word t → Owed (at_more c p (ws ++ (t ∷ []))) ts m → Filled c p ws (t ∷ ts) m
filled c p ws t ts m w (inl (z, rest, q, e, h)) = (t ∷ [], rest, (z, w, q, ap (λ (x : List Token). t ∷ x) e), h)
filled c p ws t ts m w (inr (z, xs, q, e, ([], rest, b, h))) = absurd b
filled c p ws t ts m w (inr (z, xs, q, e, (v ∷ vs, rest, b, h))) =
    (t ∷ v ∷ vs, rest, (z, xs, w, q, ap (λ (x : List Token). t ∷ x) e, b), subst (λ x. Closes c (atom_of p x) rest m) (append_assoc ws (t ∷ []) (v ∷ vs)) h)

begun : (c : Context) (t : Token) (ts : List Token) (m : Line) → Is word t → Owed (at_open c t) ts m → Begun c (t ∷ ts) m
begun c t ts m w (z, xs, q, e, (vs, rest, b, h)) = (atom_of t vs, rest, (z, xs, w, q, ap (λ (x : List Token). t ∷ x) e, b), h)

headed : (l : Token) (b : List Written) (t : Token) (ts : List Token) (m : Line) → Is arrow t → Owed (at_name (in_side (head l b) [])) ts m → Tail (body l) b (t ∷ ts) m
headed l b t ts m q g =
    let (h, rest, k, (z, iz, e, same)) = named (head l b) [] ts m g in
    (t, ts, h, z, q, refl, subst (λ x. Atoms h ts x) e k, iz, same)

labelled : (l : Token) (ts : List Token) (m : Line) → Is word l → Owed (at_bars l) ts m → Follow forms.Rule (l ∷ ts) m
labelled l ts m w (o, xs, q, e, (b, rest, k, (y, ys, h, z, iy, f, g, iz, same))) =
    subst (λ x. Follow forms.Rule (l ∷ ts) x) same (xs, y, ys, z, (o, w, q, ap (λ (x : List Token). l ∷ x) e), subst (λ x. Atoms b xs x) f k, iy, g, iz)

stopped : (a : List Token) (t : Token) → a ≡ [] → t ∷ a ≡ t ∷ []
stopped a t e = ap (λ (x : List Token). t ∷ x) e

-- by the kind of a token
pub pick : {A : Type 0} (P : Kind → A → Type 0) (k : Kind) (w b a o c m s : A) → P word w → P bars b → P arrow a → P opens o → P closes c → P comma m → P stop s → P k (by_kind k w b a o c m s)
pick P word w b a o c m s p q r t u v x = p
pick P bars w b a o c m s p q r t u v x = q
pick P arrow w b a o c m s p q r t u v x = r
pick P opens w b a o c m s p q r t u v x = t
pick P closes w b a o c m s p q r t u v x = u
pick P comma w b a o c m s p q r t u v x = v
pick P stop w b a o c m s p q r t u v x = x

-- what a draft owes at the token t, if the draft behind it is accepted
abbrev Owes : Draft → Token → List Token → Line → Kind → Option Draft → Type 0
Owes d t ts m k x = Is k t → and_then x (λ e. run e ts) ≡ Some (done m) → Owed d (t ∷ ts) m

never : (d : Draft) (t : Token) (ts : List Token) (m : Line) (k : Kind) → Owes d t ts m k None
never d t ts m k q h = absurd (none (done m) h)

one : (t : Token) (ts : List Token) (d : Draft) (m : Line) → ((e : Draft) → run e ts ≡ Some (done m) → Owed e ts m) → Owes d t ts m t.kind (move d t t.kind)
one t ts at_label m go = let n = never at_label t ts m in pick (Owes at_label t ts m) t.kind _ _ _ _ _ _ _ (λ q h. labelled t ts m q (go (at_bars t) h)) (n bars) (n arrow) (n opens) (n closes) (n comma) (n stop)
one t ts (at_bars l) m go = let n = never (at_bars l) t ts m in pick (Owes (at_bars l) t ts m) t.kind _ _ _ _ _ _ _ (n word) (λ q h. (t, ts, q, refl, named (body l) [] ts m (go (at_name (in_side (body l) [])) h))) (n arrow) (n opens) (n closes) (n comma) (n stop)
one t ts (at_name c) m go = let n = never (at_name c) t ts m in pick (Owes (at_name c) t ts m) t.kind _ _ _ _ _ _ _ (λ q h. begun c t ts m q (go (at_open c t) h)) (n bars) (n arrow) (n opens) (n closes) (n comma) (n stop)
one t ts (at_open c p) m go = let n = never (at_open c p) t ts m in pick (Owes (at_open c p) t ts m) t.kind _ _ _ _ _ _ _ (n word) (n bars) (n arrow) (λ q h. (t, ts, q, refl, go (at_word c p []) h)) (n closes) (n comma) (n stop)
one t ts (at_word c p ws) m go = let n = never (at_word c p ws) t ts m in pick (Owes (at_word c p ws) t ts m) t.kind _ _ _ _ _ _ _ (λ q h. filled c p ws t ts m q (go (at_more c p (ws ++ (t ∷ []))) h)) (n bars) (n arrow) (n opens) (n closes) (n comma) (n stop)
one t ts (at_more (in_side s before) p ws) m go = let d = at_more (in_side s before) p ws in let n = never d t ts m in pick (Owes d t ts m) t.kind _ _ _ _ _ _ _ (n word) (n bars) (n arrow) (n opens) (λ q h. inl (t, ts, q, refl, go (after s (before ++ (atom_of p ws ∷ []))) h)) (λ q h. inr (t, ts, q, refl, go (at_word (in_side s before) p ws) h)) (n stop)
one t ts (at_more in_fact p ws) m go = let d = at_more in_fact p ws in let n = never d t ts m in pick (Owes d t ts m) t.kind _ _ _ _ _ _ _ (n word) (n bars) (n arrow) (n opens) (λ q h. inl (t, ts, q, refl, go (after_fact (atom_of p ws)) h)) (λ q h. inr (t, ts, q, refl, go (at_word in_fact p ws) h)) (n stop)
one t ts (after (body l) b) m go = let d = after (body l) b in let n = never d t ts m in pick (Owes d t ts m) t.kind _ _ _ _ _ _ _ (n word) (n bars) (λ q h. inl (headed l b t ts m q (go (at_name (in_side (head l b) [])) h))) (n opens) (n closes) (λ q h. inr (t, ts, q, refl, named (body l) b ts m (go (at_name (in_side (body l) b)) h))) (n stop)
one t ts (after (head l b) a) m go = let d = after (head l b) a in let n = never d t ts m in pick (Owes d t ts m) t.kind _ _ _ _ _ _ _ (n word) (n bars) (n arrow) (n opens) (n closes) (λ q h. inr (t, ts, q, refl, named (head l b) a ts m (go (at_name (in_side (head l b) a)) h))) (λ q h. let (e, f) = go (done (rule_line l b a)) h in inl (t, q, stopped ts t e, f))
one t ts (after_fact a) m go = let d = after_fact a in let n = never d t ts m in pick (Owes d t ts m) t.kind _ _ _ _ _ _ _ (n word) (n bars) (n arrow) (n opens) (n closes) (n comma) (λ q h. let (e, f) = go (done (fact_line a)) h in (t, q, stopped ts t e, f))
one t ts (done l) m go = never (done l) t ts m t.kind

pub some_same : {A : Type 0} (x y : A) → ◌≡◌ {A = Option A} (Some x) (Some y) → x ≡ y
some_same x y e = cc

ended : (d : Draft) (m : Line) → ◌≡◌ {A = Option Draft} (Some d) (Some (done m)) → Owed d [] m
ended d m h = subst (λ x. Owed x [] m) (sym (some_same d (done m) h)) (refl, refl)

owed : (ts : List Token) (d : Draft) (m : Line) → run d ts ≡ Some (done m) → Owed d ts m
owed [] d m h = ended d m h
owed (t ∷ ts) d m h = one t ts d m (λ e k. owed ts e m k) refl h

pub run_follows : (form : Form) (ts : List Token) (l : Line) → run (start form) ts ≡ Some (done l) → Follow form ts l
run_follows forms.Rule ts l h = owed ts at_label l h
run_follows forms.Fact ts l h = fact (owed ts (at_name in_fact) l h)
  where
    fact : Begun in_fact ts l → Follow forms.Fact ts l
    fact (a, rest, k, (z, q, e, same)) = subst (λ x. Follow forms.Fact ts x) same (z, subst (λ x. OneAtom a ts x) e k, q)

-- ---- every draft can be completed

run_append : (d e : Draft) (ts us : List Token) → run d ts ≡ Some e → run d (ts ++ us) ≡ run e us
run_append d e [] us h = ap (λ (x : Draft). run x us) (some_same d e h)
run_append d e (t ∷ ts) us h = go (λ f. run_append f e ts us) (step d t) h
  where
    go : ((f : Draft) → run f ts ≡ Some e → run f (ts ++ us) ≡ run e us) → (x : Option Draft) → and_then x (λ f. run f ts) ≡ Some e → and_then x (λ f. run f (ts ++ us)) ≡ run e us
    go on None q = absurd (none e q)
    go on (Some f) q = on f q

run_front : (d e : Draft) (ts us : List Token) → run d (ts ++ us) ≡ Some e → (f : Draft) × (run d ts ≡ Some f)
run_front d e [] us h = (d, refl)
run_front d e (t ∷ ts) us h = go (λ f. run_front f e ts us) (step d t) h
  where
    go : ((f : Draft) → run f (ts ++ us) ≡ Some e → (g : Draft) × (run f ts ≡ Some g)) → (x : Option Draft) → and_then x (λ f. run f (ts ++ us)) ≡ Some e → (g : Draft) × (and_then x (λ f. run f ts) ≡ Some g)
    go on None q = absurd (none e q)
    go on (Some f) q = on f q

abbrev of : Kind → Token
of k = record { kind = k; place = 0; text = [] }

abbrev Finished : Draft → Type 0
Finished d = (more : List Token) × (l : Line) × (run d more ≡ Some (done l))

-- one token more
then : (d e : Draft) (k : Kind) → move d (of k) k ≡ Some e → Finished e → Finished d
then d e k m (more, l, h) = (of k ∷ more, l, takes d e (of k) more k refl m ∙ h)

finish_after : (s : Side) (as_read : List Written) → Finished (after s as_read)
finish_after (head l b) as_read = (of stop ∷ [], rule_line l b as_read, refl)
finish_after (body l) as_read = (of arrow ∷ of word ∷ of opens ∷ of word ∷ of closes ∷ of stop ∷ [], rule_line l as_read (atom_of (of word) (of word ∷ []) ∷ []), refl)

finish_closed : (c : Context) (a : Written) → Finished (closed c a)
finish_closed (in_side s before) a = finish_after s (before ++ (a ∷ []))
finish_closed in_fact a = (of stop ∷ [], fact_line a, refl)

finish_more : (c : Context) (p : Token) (ws : List Token) → Finished (at_more c p ws)
finish_more c p ws = then (at_more c p ws) (closed c (atom_of p ws)) closes refl (finish_closed c (atom_of p ws))

finish_word : (c : Context) (p : Token) (ws : List Token) → Finished (at_word c p ws)
finish_word c p ws = then (at_word c p ws) (at_more c p (ws ++ (of word ∷ []))) word refl (finish_more c p (ws ++ (of word ∷ [])))

finish_open : (c : Context) (p : Token) → Finished (at_open c p)
finish_open c p = then (at_open c p) (at_word c p []) opens refl (finish_word c p [])

finish_name : (c : Context) → Finished (at_name c)
finish_name c = then (at_name c) (at_open c (of word)) word refl (finish_open c (of word))

finish_bars : (l : Token) → Finished (at_bars l)
finish_bars l = then (at_bars l) (at_name (in_side (body l) [])) bars refl (finish_name (in_side (body l) []))

finish : (d : Draft) → Finished d
finish at_label = then at_label (at_bars (of word)) word refl (finish_bars (of word))
finish (at_bars l) = finish_bars l
finish (at_name c) = finish_name c
finish (at_open c p) = finish_open c p
finish (at_word c p ws) = finish_word c p ws
finish (at_more c p ws) = finish_more c p ws
finish (after s as_read) = finish_after s as_read
finish (after_fact a) = (of stop ∷ [], fact_line a, refl)
finish (done l) = ([], l, refl)

pub run_completes : (form : Form) (ts : List Token) (d : Draft) → run (start form) ts ≡ Some d → Completes form ts
run_completes form ts d h = let (more, l, q) = finish d in (more, l, run_follows form (ts ++ more) l (run_append (start form) d ts more h ∙ q))

pub completes_run : (form : Form) (ts : List Token) → Completes form ts → (d : Draft) × (run (start form) ts ≡ Some d)
completes_run form ts (more, l, f) = run_front (start form) (done l) ts more (follows_run form (ts ++ more) l f)

pub machine_exact : (form : Form) → MachineExact form
machine_exact form = record {
  accepts = λ ts l. (run_follows form ts l, follows_run form ts l);
  goes_on = λ ts. ((λ (d, h). run_completes form ts d h), completes_run form ts);
}

-- ---- one token further

pub run_snoc : (d e f : Draft) (ts : List Token) (t : Token) → run d ts ≡ Some e → step e t ≡ Some f → run d (ts ++ (t ∷ [])) ≡ Some f
run_snoc d e f ts t h q = run_append d e ts (t ∷ []) h ∙ ap (λ (x : Option Draft). and_then x (λ g. run g [])) q

pub run_stuck : (d e : Draft) (ts : List Token) (t : Token) → run d ts ≡ Some e → step e t ≡ None → run d (ts ++ (t ∷ [])) ≡ None
run_stuck d e ts t h q = run_append d e ts (t ∷ []) h ∙ ap (λ (x : Option Draft). and_then x (λ g. run g [])) q
