-- Decimal numbers, digit by digit.
use Rattle.std.proofs.Common.{◌≡◌, ℕ, ◌+◌, ◌-◌, ◌*◌, ◌<◌, ◌≤◌, ◌⊎◌, List, [], ◌∷◌, ◌++◌, length, get_or, take, drop, sym, refl, ap, ◌∙◌, subst, inl, inr, arith, take-append-drop}
use Rattle.std.proofs.lemmas.List.{take_more, take_all}
use Rattle.lists.specs.Places.{At}
use Rattle.lists.proofs.Numbered.{at_snoc, get_at}
use Rattle.patterns.specs.Asking.{Digit, worth, Number, GoodNumber}

worth_snoc : (n : ℕ) (ds : List ℕ) (d : ℕ) → worth n (ds ++ (d ∷ [])) ≡ 10 * worth n ds + (d - 48)
worth_snoc n [] d = refl
worth_snoc n (x ∷ ds) d = worth_snoc (10 * n + (x - 48)) ds d

worth_grows : (n : ℕ) (ds : List ℕ) → n ≤ worth n ds
worth_grows n [] = omega arith
worth_grows n (x ∷ ds) = let h = worth_grows (10 * n + (x - 48)) ds in omega arith

worth_append : (n : ℕ) (ds es : List ℕ) → worth n (ds ++ es) ≡ worth (worth n ds) es
worth_append n [] es = refl
worth_append n (x ∷ ds) es = worth_append (10 * n + (x - 48)) ds es

-- the first i bytes are digits, and what they make is n
pub record Begun (text : List ℕ) (i n : ℕ) : Type 0 where
  pub digits : (j d : ℕ) → At (take i text) j d → Digit d
  pub value : worth 0 (take i text) ≡ n
  pub small : n ≤ 32767

pub begun_none : (text : List ℕ) → Begun text 0 0
begun_none text = record { digits = λ j d h. absurd h; value = refl; small = omega arith }

-- one digit more
more : (text : List ℕ) (i n : ℕ) → i < length text → worth 0 (take i text) ≡ n → worth 0 (take (i + 1) text) ≡ 10 * n + (get_or text i 0 - 48)
more text i n l v = ap (worth 0) (take_more text i 0 l) ∙ worth_snoc 0 (take i text) (get_or text i 0) ∙ ap (λ (x : ℕ). 10 * x + (get_or text i 0 - 48)) v

pub begun_more : (text : List ℕ) (i n m : ℕ) → i < length text → Digit (get_or text i 0) → m ≡ 10 * n + (get_or text i 0 - 48) → m ≤ 32767 → Begun text i n → Begun text (i + 1) m
begun_more text i n m l g q s h = record {
  digits = λ j x there. cases j x (at_snoc (take i text) (get_or text i 0) j x (subst (λ (y : List ℕ). At y j x) (take_more text i 0 l) there));
  value = more text i n l h.value ∙ sym q;
  small = s;
}
  where
    cases : (j x : ℕ) → At (take i text) j x ⊎ ((j ≡ length (take i text)) × (get_or text i 0 ≡ x)) → Digit x
    cases j x (inl there) = h.digits j x there
    cases j x (inr (_, same)) = subst Digit same g

pub begun_all : (text : List ℕ) (i n : ℕ) → 0 < length text → length text ≤ i → Begun text i n → Number text n
begun_all text i n some l h =
    let all = take_all i text l in
    (record { some = some; digits = subst (λ (x : List ℕ). (j d : ℕ) → At x j d → Digit d) all h.digits; value = subst (λ (x : List ℕ). worth 0 x ≡ n) all h.value }, h.small)

pub no_digit : (text : List ℕ) (i : ℕ) → i < length text → (Digit (get_or text i 0) → ⊥) → GoodNumber text → ⊥
no_digit text i l g (n, (h, _)) = g (h.digits i (get_or text i 0) (get_at text i 0 l))

-- a front that is too large makes the whole too large
pub too_large : (text : List ℕ) (i n : ℕ) → i < length text → Digit (get_or text i 0) → Begun text i n → 32767 < 10 * n + (get_or text i 0 - 48) → GoodNumber text → ⊥
too_large text i n l g b big (m, (h, small)) =
    let front = more text i n l b.value in
    let whole : worth 0 text ≡ worth (10 * n + (get_or text i 0 - 48)) (drop (i + 1) text) =
    ap (worth 0) (sym (take-append-drop (i + 1) text)) ∙ worth_append 0 (take (i + 1) text) (drop (i + 1) text) ∙ ap (λ (x : ℕ). worth x (drop (i + 1) text)) front in
    let up = worth_grows (10 * n + (get_or text i 0 - 48)) (drop (i + 1) text) in
    let v = h.value in
    omega arith
