-- The reader's state and tables go along with the drafts of the pattern machine.
use Rattle.std.proofs.Common.{◌≡◌, ℕ, ◌-◌, ◌≤◌, List, [], ◌∷◌, ◌++◌, Some, None, Ok, Option, sym, refl, ap, ◌∙◌, subst, arith, Bor}
use Rattle.std.specs.Option.{option_map}
use Rattle.tokens.specs.Tokens as plain
use Rattle.tokens.specs.Tokens.{Kind, token_at}
use Rattle.tokens.specs.Tokens.Kind.{word, bars, arrow, opens, closes, comma, stop}
use Rattle.tokens.specs.Lexing.{kind_of, Is}
use Rattle.tokens.specs.declared.token.Token.{Token}
use Rattle.tokens.specs.declared.token.Word.{Word}
use Rattle.tokens.specs.declared.token.Token.TheVariants as token
use Rattle.tokens.specs.declared.token.Token.TheVariants.{Bars, Arrow, Open, Close, Comma, Stop}
use Rattle.tokens.proofs.Unique.{lies_longer}
use Rattle.patterns.specs.Patterns.{Written}
use Rattle.patterns.specs.Patterns.Line.{rule_line, fact_line}
use Rattle.patterns.specs.Machine.{Context, Draft, move, closed, atom_of}
use Rattle.patterns.specs.Machine.Side.{body, head}
use Rattle.patterns.specs.Machine.Context.{in_side, in_fact}
use Rattle.patterns.specs.Machine.Draft.{at_label, at_bars, at_name, at_open, at_word, at_more, after, after_fact, done}
use Rattle.patterns.proofs.Machines.{pick, none, some_same}
use Rattle.patterns.specs.declared.reader.Tables.{Tables}
use Rattle.patterns.specs.declared.reader.Reader.{Reader}
use Rattle.patterns.specs.declared.state.State.{State}
use Rattle.lists.specs.Parts.{Part}
use Rattle.patterns.specs.Tables.{word_of, PartOf}
use Rattle.patterns.specs.Drafts.{go, state_of, Parts, with_atom, parts, grown, Held, Noted, Same, Advanced, Fed}
use Rattle.patterns.proofs.Growing.{push_last}

-- ---- the state of a draft goes as the draft goes

abbrev Alike : Draft → Kind → Option Draft → Type 0
Alike d k x = go (state_of d) k ≡ option_map state_of x

simulates : (d : Draft) (t : plain.Token) (k : Kind) → Alike d k (move d t k)
simulates at_label t k = pick (Alike at_label) k _ _ _ _ _ _ _ refl refl refl refl refl refl refl
simulates (at_bars l) t k = pick (Alike (at_bars l)) k _ _ _ _ _ _ _ refl refl refl refl refl refl refl
simulates (at_name c) t k = pick (Alike (at_name c)) k _ _ _ _ _ _ _ refl refl refl refl refl refl refl
simulates (at_open c p) t k = pick (Alike (at_open c p)) k _ _ _ _ _ _ _ refl refl refl refl refl refl refl
simulates (at_word c p ws) t k = pick (Alike (at_word c p ws)) k _ _ _ _ _ _ _ refl refl refl refl refl refl refl
simulates (at_more (in_side s before) p ws) t k = pick (Alike (at_more (in_side s before) p ws)) k _ _ _ _ _ _ _ refl refl refl refl refl refl refl
simulates (at_more in_fact p ws) t k = pick (Alike (at_more in_fact p ws)) k _ _ _ _ _ _ _ refl refl refl refl refl refl refl
simulates (after (body l) as_read) t k = pick (Alike (after (body l) as_read)) k _ _ _ _ _ _ _ refl refl refl refl refl refl refl
simulates (after (head l b) as_read) t k = pick (Alike (after (head l b) as_read)) k _ _ _ _ _ _ _ refl refl refl refl refl refl refl
simulates (after_fact a) t k = pick (Alike (after_fact a)) k _ _ _ _ _ _ _ refl refl refl refl refl refl refl
simulates (done l) t k = refl

-- the draft that a state stands for
went : (d : Draft) (t : plain.Token) (k : Kind) (u : State) → go (state_of d) k ≡ Some u → (f : Draft) × (move d t k ≡ Some f) × (u ≡ state_of f)
went d t k u h = found (move d t k) (sym (simulates d t k) ∙ h)
  where
    found : (x : Option Draft) → option_map state_of x ≡ Some u → (f : Draft) × (x ≡ Some f) × (u ≡ state_of f)
    found None q = absurd (none u q)
    found (Some f) q = (f, refl, sym (some_same (state_of f) u q))

-- ---- the parts of a draft grow by words alone

abbrev grown_by : Kind → State → Parts → plain.Token → Parts
grown_by word st x t = grown st x t
grown_by bars st x t = x
grown_by arrow st x t = x
grown_by opens st x t = x
grown_by closes st x t = x
grown_by comma st x t = x
grown_by stop st x t = x

abbrev Grew : Draft → plain.Token → Kind → Option Draft → Type 0
Grew d t k x = (f : Draft) → x ≡ Some f → parts f ≡ grown_by k (state_of d) (parts d) t

no_draft : (d : Draft) (t : plain.Token) (k : Kind) → Grew d t k None
no_draft d t k f h = absurd (none f h)

to : (d : Draft) (t : plain.Token) (k : Kind) (e : Draft) → parts e ≡ grown_by k (state_of d) (parts d) t → Grew d t k (Some e)
to d t k e q f h = ap parts (sym (some_same e f h)) ∙ q

named : (c : Context) (t : plain.Token) → parts (at_open c t) ≡ grown (state_of (at_name c)) (parts (at_name c)) t
named (in_side (body l) before) t = refl
named (in_side (head l b) before) t = refl
named in_fact t = refl

worded : (c : Context) (p : plain.Token) (ws : List plain.Token) (t : plain.Token) → parts (at_more c p (ws ++ (t ∷ []))) ≡ grown (state_of (at_word c p ws)) (parts (at_word c p ws)) t
worded (in_side (body l) before) p ws t = ap (λ (x : List Written). record { label = l ∷ []; first = x; second = [] }) (sym (push_last before (atom_of p ws) t))
worded (in_side (head l b) before) p ws t = ap (λ (x : List Written). record { label = l ∷ []; first = b; second = x }) (sym (push_last before (atom_of p ws) t))
worded in_fact p ws t = refl

ended : (c : Context) (a : Written) → parts (closed c a) ≡ with_atom c a
ended (in_side s before) a = refl
ended in_fact a = refl

grew : (d : Draft) (t : plain.Token) (k : Kind) → Grew d t k (move d t k)
grew at_label t k = let n = no_draft at_label t in pick (Grew at_label t) k _ _ _ _ _ _ _ (to at_label t word (at_bars t) refl) (n bars) (n arrow) (n opens) (n closes) (n comma) (n stop)
grew (at_bars l) t k = let n = no_draft (at_bars l) t in pick (Grew (at_bars l) t) k _ _ _ _ _ _ _ (n word) (to (at_bars l) t bars (at_name (in_side (body l) [])) refl) (n arrow) (n opens) (n closes) (n comma) (n stop)
grew (at_name c) t k = let n = no_draft (at_name c) t in pick (Grew (at_name c) t) k _ _ _ _ _ _ _ (to (at_name c) t word (at_open c t) (named c t)) (n bars) (n arrow) (n opens) (n closes) (n comma) (n stop)
grew (at_open c p) t k = let n = no_draft (at_open c p) t in pick (Grew (at_open c p) t) k _ _ _ _ _ _ _ (n word) (n bars) (n arrow) (to (at_open c p) t opens (at_word c p []) refl) (n closes) (n comma) (n stop)
grew (at_word c p ws) t k = let n = no_draft (at_word c p ws) t in pick (Grew (at_word c p ws) t) k _ _ _ _ _ _ _ (to (at_word c p ws) t word (at_more c p (ws ++ (t ∷ []))) (worded c p ws t)) (n bars) (n arrow) (n opens) (n closes) (n comma) (n stop)
grew (at_more c p ws) t k = let n = no_draft (at_more c p ws) t in pick (Grew (at_more c p ws) t) k _ _ _ _ _ _ _ (n word) (n bars) (n arrow) (n opens) (to (at_more c p ws) t closes (closed c (atom_of p ws)) (ended c (atom_of p ws))) (to (at_more c p ws) t comma (at_word c p ws) refl) (n stop)
grew (after (body l) as_read) t k = let d = after (body l) as_read in let n = no_draft d t in pick (Grew d t) k _ _ _ _ _ _ _ (n word) (n bars) (to d t arrow (at_name (in_side (head l as_read) [])) refl) (n opens) (n closes) (to d t comma (at_name (in_side (body l) as_read)) refl) (n stop)
grew (after (head l b) as_read) t k = let d = after (head l b) as_read in let n = no_draft d t in pick (Grew d t) k _ _ _ _ _ _ _ (n word) (n bars) (n arrow) (n opens) (n closes) (to d t comma (at_name (in_side (head l b) as_read)) refl) (to d t stop (done (rule_line l b as_read)) refl)
grew (after_fact a) t k = let d = after_fact a in let n = no_draft d t in pick (Grew d t) k _ _ _ _ _ _ _ (n word) (n bars) (n arrow) (n opens) (n closes) (n comma) (to d t stop (done (fact_line a)) refl)
grew (done l) t k = no_draft (done l) t k

-- ---- one token

-- what is held stays so at a later place
pub later : (line : Bor (List ℕ)) (t : Tables) (extra : Option ℕ) (x : Parts) (at e : ℕ) → Held line t extra x at → at ≤ e → Held line t extra x e
later line t None x at e h l = h
later line t (Some p) x at e h l = record { word = h.word; extra = h.extra; place = h.place; least = h.least; reached = let b = h.reached in omega arith }

-- what is held is held in the same tables
held_same : (line : Bor (List ℕ)) (old new : Reader) (x : Parts) (at : ℕ) → Same old new → Held line old.tables old.extra x at → Held line new.tables new.extra x at
held_same line old new x at same h = subst (λ t. Held line t new.extra x at) (sym same.tables) (subst (λ e. Held line old.tables e x at) (sym same.extra) h)

-- a word token is the token that lies there, and the line's own memory
worded_as : (line : Bor (List ℕ)) (w : Word) (a e : ℕ) → Is line a e (token.Word w) → word_of w ≡ token_at line.now a e word
worded_as line w a e is = ap (λ (x : ℕ). record { kind = word; place = x; text = w.text.now }) is.place ∙ ap (λ (x : List ℕ). record { kind = word; place = a; text = x }) is.borrows.holds

part_of : (line : Bor (List ℕ)) (w : Word) (a e : ℕ) → Is line a e (token.Word w) → PartOf line w
part_of line w a e is = subst (λ n. Part line w.text w.place n) (sym is.borrows.long) (subst (λ n. Part line w.text n (e - a)) (sym is.place) is.borrows)

pub fed_word : (old mid new : Reader) (w : Word) → Advanced old (token.Word w) mid (Ok tt) → Same old mid → Noted old.state w mid new → new.state ≡ mid.state → Fed old (token.Word w) new (Ok tt)
fed_word old mid new w adv same noted st line d at a e sh l is =
    let s = line.now in
    let t = token_at s a e word in
    let (f, m, u) = went d t word mid.state (subst (λ x. go x word ≡ Some mid.state) sh.state adv) in
    let place : w.place ≡ a = is.place in
    let more = noted line (parts d) at (part_of line w a e is) (held_same line old mid (parts d) at same sh.held) (omega arith) in
    let grown_as : grown old.state (parts d) (word_of w) ≡ parts f =
    ap (λ (x : State). grown x (parts d) (word_of w)) sh.state ∙ ap (grown (state_of d) (parts d)) (worded_as line w a e is) ∙ sym (grew d t word f m) in
    let e_after = lies_longer s a e word is.lies in
    (f, m, record { state = st ∙ u; held = later line new.tables new.extra (parts f) w.place e (subst (λ x. Held line new.tables new.extra x w.place) grown_as more) (omega arith) })

-- a token that is no word
mark_held : (t : Token) → ((w : Word) → t ≡ token.Word w → ⊥) → (st : State) (x : Parts) (u : plain.Token) → grown_by (kind_of t) st x u ≡ x
mark_held (token.Word w) n st x u = absurd (n w refl)
mark_held (Bars p) n st x u = refl
mark_held (Arrow p) n st x u = refl
mark_held (Open p) n st x u = refl
mark_held (Close p) n st x u = refl
mark_held (Comma p) n st x u = refl
mark_held (Stop p) n st x u = refl

pub fed_mark : (old new : Reader) (t : Token) → ((w : Word) → t ≡ token.Word w → ⊥) → Advanced old t new (Ok tt) → Same old new → Fed old t new (Ok tt)
fed_mark old new t no_word adv same line d at a e sh l is =
    let s = line.now in
    let u = token_at s a e (kind_of t) in
    let (f, m, q) = went d u (kind_of t) new.state (subst (λ x. go x (kind_of t) ≡ Some new.state) sh.state adv) in
    let kept : parts d ≡ parts f = sym (mark_held t no_word (state_of d) (parts d) u) ∙ sym (grew d u (kind_of t) f m) in
    let e_after = lies_longer s a e (kind_of t) is.lies in
    (f, m, record { state = q; held = later line new.tables new.extra (parts f) at e (subst (λ x. Held line new.tables new.extra x at) kept (held_same line old new (parts d) at same sh.held)) (omega arith) })
