use Rattle.std.proofs.Common.{◌≡◌, ℕ, ◌+◌, ◌≤◌, ◌<◌, List, ◌∷◌, ◌++◌, [], map, length, get_or, take, ap, sym, subst, ◌∙◌, arith, length-take, rules}
use Rattle.std.proofs.Math.ListN.{length-map}
use Rattle.std.proofs.lemmas.Bool.{false≢true}
use Rattle.std.proofs.lemmas.List.{take_more}
use Rattle.lists.specs.Places.{FirstAt}
use Rattle.lists.specs.Joins.{Joined}
use Rattle.lists.proofs.Mapped.{map_snoc}
use Rattle.tokens.specs.Tokens.{Token}
use Rattle.tokens.specs.declared.token.Word.{Word}
use Rattle.patterns.specs.Tables.{word_of}
use Rattle.naming.specs.Names.{names_of}
use Rattle.naming.specs.Numbering.{WordsNumbered}
use Rattle.naming.proofs.Sides.{words_more, words_long}
use Rattle.naming.proofs.numbering.number_words.Goals as goal

module _ (ws : List Word) (i : ℕ) (l : i < length ws) where
  counted : length (map word_of (take i ws)) ≡ i
  counted = omega (arith, length-map (take i ws) word_of, length-take i ws)

  more : (before mid after : List (List ℕ)) (numbers : List ℕ) (v : ℕ) (d : Word) → WordsNumbered (map word_of (take i ws)) before mid numbers → Joined mid ((get_or ws i d).text.now ∷ []) after → FirstAt after v (get_or ws i d).text.now
      → WordsNumbered (map word_of (take (i + 1) ws)) before after (numbers ++ (v ∷ []))
  more before mid after numbers v d n joined first =
      subst (λ (k : List Token). WordsNumbered k before after (numbers ++ (v ∷ []))) (sym (ap (map word_of) (take_more ws i d l) ∙ map_snoc word_of (take i ws) (get_or ws i d)))
      (words_more (map word_of (take i ws)) before mid after numbers (word_of (get_or ws i d)) v n joined first)

pub returns-in_err-number : goal.returns-in_err-number
returns-in_err-number c =
    let long = words_long _ _ _ _ c.loop-word.invariant in
    let count = counted c.args.words.now c.loop-word.word-index c.loop-word-test.true in
    let full = c.in_err-number.ensures in
    let most : length c.args.words.now ≤ 4 → 28 < length (names_of c.args.variables.now) = λ few. omega arith in
    search rules

pub returns-in_err-push : goal.returns-in_err-push
returns-in_err-push c =
    let long = words_long _ _ _ _ c.loop-word.invariant in
    let count = counted c.args.words.now c.loop-word.word-index c.loop-word-test.true in
    let most : length c.args.words.now ≤ 4 → 28 < length (names_of c.args.variables.now) = λ few. absurd (false≢true (c.in_err-push.ensures.fits.1 (omega arith))) in
    search rules

pub loop-word-preserved : goal.loop-word-preserved
loop-word-preserved c = rw c.in_ok-push.ensures.items (more c.args.words.now c.loop-word.word-index c.loop-word-test.true _ _ _ _ _ _ c.loop-word.invariant c.in_ok-number.ensures.0 c.in_ok-number.ensures.1)
