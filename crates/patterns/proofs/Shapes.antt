-- Tokens write one line at most, and break the pattern at one place at most.
use Rattle.std.proofs.Common.{◌≡◌, ℕ, zero, suc, ◌<◌, ◌≤◌, ◌⊎◌, List, [], ◌∷◌, ◌++◌, take, drop, Some, Option, sym, refl, ap, ◌∙◌, subst, inl, inr, append_assoc, arith, take-append-drop}
use Rattle.lists.specs.Places.{At}
use Rattle.lists.proofs.Numbered.{order, at_same}
use Rattle.tokens.specs.Tokens.{Token}
use Rattle.tokens.proofs.Unique.{tokens_single}
use Rattle.patterns.specs.Patterns.{Line, Follow, Writes, Completes, Misplaced, Breaks}
use Rattle.patterns.specs.declared.state.Form.{Form}
use Rattle.patterns.specs.Machine.{Draft}
use Rattle.patterns.specs.Machine.Draft.{done}
use Rattle.patterns.proofs.Machines.{follows_run}

done_same : (l m : Line) → ◌≡◌ {A = Option Draft} (Some (done l)) (Some (done m)) → l ≡ m
done_same l m e = cc

pub follow_single : (form : Form) (ts : List Token) (l m : Line) → Follow form ts l → Follow form ts m → l ≡ m
follow_single form ts l m f g = done_same l m (sym (follows_run form ts l f) ∙ follows_run form ts m g)

pub writes_single : (form : Form) (s : List ℕ) (l m : Line) → Writes form s l → Writes form s m → l ≡ m
writes_single form s l m (ts, t, f) (us, u, g) = follow_single form us l m (subst (λ k. Follow form k l) (tokens_single s ts us t u) f) g

-- a beginning of what can be completed can be completed
completes_first : (form : Form) (ts us : List Token) → Completes form (ts ++ us) → Completes form ts
completes_first form ts us (more, l, f) = (us ++ more, l, subst (λ k. Follow form k l) (append_assoc ts us more) f)

begins : {A : Type 0} (m n : ℕ) (ts : List A) → m ≤ n → (us : List A) × (take n ts ≡ take m ts ++ us)
begins zero n ts h = (take n ts, refl)
begins (suc m) zero ts h = absurd (omega arith)
begins (suc m) (suc n) [] h = ([], refl)
begins (suc m) (suc n) (t ∷ ts) h = let (us, e) = begins m n ts (omega arith) in (us, ap (λ (k : List _). t ∷ k) e)

completes_less : (form : Form) (m n : ℕ) (ts : List Token) → m ≤ n → Completes form (take n ts) → Completes form (take m ts)
completes_less form m n ts h c = let (us, e) = begins m n ts h in completes_first form (take m ts) us (subst (λ k. Completes form k) e c)

completes_take : (form : Form) (m : ℕ) (ts : List Token) → Completes form ts → Completes form (take m ts)
completes_take form m ts c = completes_first form (take m ts) (drop m ts) (subst (λ k. Completes form k) (sym (take-append-drop m ts)) c)

append_none : {A : Type 0} (ts : List A) → ts ++ [] ≡ ts
append_none [] = refl
append_none (t ∷ ts) = ap (λ (k : List _). t ∷ k) (append_none ts)

follow_completes : (form : Form) (ts : List Token) (l : Line) → Follow form ts l → Completes form ts
follow_completes form ts l f = ([], l, subst (λ k. Follow form k l) (sym (append_none ts)) f)

pub breaks_or_follows : (form : Form) (s : List ℕ) (ts : List Token) (l : Line) (p : ℕ) → Follow form ts l → Breaks form s ts p → ⊥
breaks_or_follows form s ts l p f (inl b) = b.stuck (completes_take form (suc b.number) ts (follow_completes form ts l f))
breaks_or_follows form s ts l p f (inr b) = b.short l f

misplaced_single : (form : Form) (ts : List Token) (p q : ℕ) → Misplaced form ts p → Misplaced form ts q → p ≡ q
misplaced_single form ts p q a b = cases (order a.number b.number)
  where
    cases : (a.number < b.number) ⊎ ((a.number ≡ b.number) ⊎ (b.number < a.number)) → p ≡ q
    cases (inl l) = absurd (a.stuck (completes_less form (suc a.number) b.number ts (omega arith) b.before))
    cases (inr (inl same)) = let tu = at_same ts b.number a.token b.token (subst (λ i. At ts i a.token) same a.here) b.here in a.place ∙ ap (λ (x : Token). x.place) tu ∙ sym b.place
    cases (inr (inr l)) = absurd (b.stuck (completes_less form (suc b.number) a.number ts (omega arith) a.before))

pub breaks_single : (form : Form) (s : List ℕ) (ts : List Token) (p q : ℕ) → Breaks form s ts p → Breaks form s ts q → p ≡ q
breaks_single form s ts p q (inl a) (inl b) = misplaced_single form ts p q a b
breaks_single form s ts p q (inl a) (inr b) = absurd (a.stuck (completes_take form (suc a.number) ts b.going))
breaks_single form s ts p q (inr a) (inl b) = absurd (b.stuck (completes_take form (suc b.number) ts a.going))
breaks_single form s ts p q (inr a) (inr b) = a.place ∙ sym b.place
