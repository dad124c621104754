-- The values of a fact line, word by word.
use Rattle.std.proofs.Common.{◌≡◌, ℕ, ◌+◌, ◌<◌, ◌≤◌, List, [], ◌∷◌, ◌++◌, map, length, get_or, take, Some, None, Ok, Err, Option, MatchOption, sym, ap, ◌∙◌, subst, arith, length-append}
use Rattle.std.proofs.lemmas.List.{take_more, take_all}
use Rattle.questions.specs.declared.question.Refusal.{Refusal}
use Rattle.questions.specs.declared.question.Question.TheVariants.{Numbers}
use Rattle.lists.specs.Places.{At, First, Pairwise}
use Rattle.tokens.specs.Tokens.{Token}
use Rattle.patterns.specs.Asking.{Number, GoodNumber}
use Rattle.bounded.specs.Bounded.{items}
use Rattle.bounded.specs.declared.Bounded.{Bounded}
use Rattle.tokens.specs.declared.token.Word.{Word}
use Rattle.patterns.specs.Tables.{word_of}
use Rattle.lists.proofs.Mapped.{map_snoc, at_map_get, at_map_front, pairs_snoc, pairs_at}
use Rattle.reading.specs.declared.line.FactLine.{FactLine}
use Rattle.reading.specs.Numbers.{words_of, Valued, Asks}

-- a word is a number
abbrev Means : Token → ℕ → Type 0
Means w n = Number w.text n

-- what was told of a word's bytes
pub told_number : (text : List ℕ) (o : Option ℕ) (n : ℕ) → o ≡ Some n → MatchOption o (GoodNumber text → ⊥) (λ m. Number text m) → Number text n
told_number text o n e h = subst (λ (x : Option ℕ). MatchOption x (GoodNumber text → ⊥) (λ m. Number text m)) e h

pub told_none : (text : List ℕ) (o : Option ℕ) → o ≡ None → MatchOption o (GoodNumber text → ⊥) (λ m. Number text m) → GoodNumber text → ⊥
told_none text o e h = subst (λ (x : Option ℕ). MatchOption x (GoodNumber text → ⊥) (λ m. Number text m)) e h

-- the first i words are numbers, and these are their values
pub record Front (ws : List Word) (i : ℕ) (ns : List ℕ) : Type 0 where
  pub count : length ns ≡ i
  pub pairs : Pairwise Means (map word_of (take i ws)) ns

pub front_more : (ws : List Word) (i : ℕ) (d : Word) (ns ms : List ℕ) (n : ℕ) → i < length ws → Front ws i ns → Number (get_or ws i d).text.now n → ms ≡ ns ++ (n ∷ []) → Front ws (i + 1) ms
front_more ws i d ns ms n l f h e = record {
  count = let c = f.count in let q = ap length e ∙ length-append ns (n ∷ []) in omega arith;
  pairs = subst (Pairwise Means (map word_of (take (i + 1) ws))) (sym e) (subst (λ (xs : List Token). Pairwise Means xs (ns ++ (n ∷ []))) (sym split) (pairs_snoc Means (map word_of (take i ws)) ns (word_of (get_or ws i d)) n f.pairs h));
}
  where
    split : map word_of (take (i + 1) ws) ≡ map word_of (take i ws) ++ (word_of (get_or ws i d) ∷ [])
    split = ap (map word_of) (take_more ws i d l) ∙ map_snoc word_of (take i ws) (get_or ws i d)

all_good : (ws : List Token) (ns : List ℕ) → Pairwise Means ws ns → (k : ℕ) (w : Token) → At ws k w → GoodNumber w.text
all_good ws ns p k w h = pairs_at Means ws ns k w p h

pub front_all : {N : ℕ} (f : FactLine) (ws : List Word) (i : ℕ) (v : Bounded ℕ N) → ws ≡ items f.atom.words → length ws ≤ i → Front ws i (items v) → Valued f (Ok v) × Asks f (Ok v)
front_all f ws i v e l h =
    let p : Valued f (Ok v) = subst (λ (x : List Word). Pairwise Means (map word_of x) (items v)) (take_all i ws l ∙ e) h.pairs in
    (p, λ line w. (_, w, all_good (words_of f) (items v) p))

-- of a refusal the type is the same for every N; the checker wants one named
pub front_bad : (f : FactLine) (ws : List Word) (i : ℕ) (d : Word) (ns : List ℕ) (e : Refusal) → ws ≡ items f.atom.words → i < length ws → Front ws i ns
    → (GoodNumber (get_or ws i d).text.now → ⊥) → e.question ≡ Numbers → e.place ≡ (get_or ws i d).place → Valued {N = 4} f (Err e) × Asks {N = 4} f (Err e)
front_bad f ws i d ns e q l h bad why at =
    let w = word_of (get_or ws i d) in
    let first : First (λ x. GoodNumber x.text → ⊥) (words_of f) i w = subst (λ (x : List Word). First (λ y. GoodNumber y.text → ⊥) (map word_of x) i w) q (record {
      here = at_map_get word_of ws i d l;
      does = bad;
      earlier = λ j y less there not. not (all_good (map word_of (take i ws)) ns h.pairs j y (at_map_front word_of ws i j y less there));
    }) in
    ((i, w, first, at, why), λ line writes. ((_, i, w, writes, first, at), why))
