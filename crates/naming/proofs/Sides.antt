-- Numbering the words of an atom, the atoms of a side, and the two sides of a rule.
use Rattle.std.proofs.Common.{◌≡◌, ℕ, ◌+◌, ◌*◌, ◌≤◌, List, [], ◌∷◌, ◌++◌, map, length, Some, None, Option, sym, refl, ap, ◌∙◌, subst, append_assoc, inl, inr, append-nil, length-append, arith}
use Rattle.std.proofs.Math.ListN.{length-map}
use Rattle.lists.specs.Places.{At, FirstAt, Pairwise}
use Rattle.lists.specs.Joins.{Joined}
use Rattle.lists.proofs.Joining.{first_stays, joined_twice}
use Rattle.lists.proofs.Mapped.{map_snoc, pairs_snoc, pairs_grow, pairs_length}
use Rattle.lists.proofs.Numbered.{at_below}
use Rattle.tokens.specs.Tokens.{Token}
use Rattle.patterns.specs.Patterns.{Written}
use Rattle.theory.specs.Rules as plain
use Rattle.rules.specs.Views.{plain_atom, plain_side, plain_rule, AtomMade, SideMade}
use Rattle.rules.specs.declared.name.Name.{Name}
use Rattle.rules.specs.declared.rule.Atom.{Atom}
use Rattle.rules.specs.declared.rule.Side.{Side}
use Rattle.naming.specs.Meaning.{Predicate, predicate_of, words_of, AtomMeans, RuleMeans}
use Rattle.naming.specs.Numbering.{WordsNumbered, AtomNumbered, SideNumbered}

abbrev texts : List Token → List (List ℕ)
texts ws = map (λ t. t.text) ws

-- joining adds no more than is joined
pub joined_most : {A : Type 0} (xs ys zs : List A) → Joined xs ys zs → length zs ≤ length xs + length ys
joined_most xs [] zs e = omega (arith, ap length e)
joined_most xs (y ∷ ys) zs (inl (held, j)) = omega (arith, joined_most xs ys zs j)
joined_most xs (y ∷ ys) zs (inr (new, j)) = omega (arith, joined_most (xs ++ (y ∷ [])) ys zs j, length-append xs (y ∷ []))

-- one word more
pub words_more : (ws : List Token) (before mid after : List (List ℕ)) (numbers : List ℕ) (w : Token) (v : ℕ) → WordsNumbered ws before mid numbers → Joined mid (w.text ∷ []) after → FirstAt after v w.text
    → WordsNumbered (ws ++ (w ∷ [])) before after (numbers ++ (v ∷ []))
words_more ws before mid after numbers w v n joined first = record {
  pairs = pairs_snoc _ ws numbers w v (pairs_grow (λ u k. FirstAt mid k u.text) (λ u k. FirstAt after k u.text) (λ u k f. first_stays mid (w.text ∷ []) after k u.text joined f) ws numbers n.pairs) first;
  joined = subst (λ (k : List (List ℕ)). Joined before k after) (sym (map_snoc (λ (u : Token). u.text) ws w)) (joined_twice before (texts ws) (w.text ∷ []) mid after n.joined joined);
}

pub words_long : (ws : List Token) (before after : List (List ℕ)) (numbers : List ℕ) → WordsNumbered ws before after numbers → (length numbers ≡ length ws) × (length after ≤ length before + length ws)
words_long ws before after numbers n =
    (sym (pairs_length (λ (t : Token) (v : ℕ). FirstAt after v t.text) ws numbers n.pairs), omega (arith, joined_most before (texts ws) after n.joined, length-map ws (λ (t : Token). t.text)))

-- an atom of a known predicate and of numbered words
pub atom_numbered : (known : List Predicate) (w : Written) (before after : List (List ℕ)) (numbers : List ℕ) (p : ℕ) (r : Option Atom) → FirstAt known p (predicate_of w) → WordsNumbered w.words before after numbers
    → length w.words ≤ 4 → AtomMade p numbers r → AtomNumbered known w before after r
atom_numbered known w before after numbers p None first n few made = λ small able.
    let below = at_below known p (predicate_of w) first.0 in
    let long = pairs_length (λ (t : Token) (v : ℕ). FirstAt after v t.text) w.words numbers n.pairs in
    let some = able.0 in
    let most = small.0 in
    absurd (made (omega arith) (omega arith) (omega arith))
atom_numbered known w before after numbers p (Some a) first n few (e, f) =
    ((subst (λ (k : ℕ). FirstAt known k (predicate_of w)) (sym e) first, subst (λ (ks : List ℕ). Pairwise (λ (t : Token) (v : ℕ). FirstAt after v t.text) w.words ks) (sym f) n.pairs), n.joined, few)

words_append : (xs ys : List Written) → words_of (xs ++ ys) ≡ words_of xs ++ words_of ys
words_append [] ys = refl
words_append (x ∷ xs) ys =
    ap (λ (k : List (List ℕ)). texts x.words ++ k) (words_append xs ys) ∙ sym (append_assoc (texts x.words) (words_of xs) (words_of ys))

-- an atom's meaning stands when more names are joined
means_stays : (known : List Predicate) (mid ys after : List (List ℕ)) (w : Written) (a : plain.Atom) → Joined mid ys after → AtomMeans known mid w a → AtomMeans known after w a
means_stays known mid ys after w a joined (p, pairs) =
    (p, pairs_grow (λ (t : Token) (v : ℕ). FirstAt mid v t.text) (λ (t : Token) (v : ℕ). FirstAt after v t.text) (λ t v f. first_stays mid ys after v t.text joined f) w.words a.columns pairs)

-- the first atoms, of at most four words each, are numbered
pub record Begun (known : List Predicate) (ws : List Written) (before after : List (List ℕ)) (made : List Atom) : Type 0 where
  pub pairs : Pairwise (AtomMeans known after) ws (map plain_atom made)
  pub joined : Joined before (words_of ws) after
  pub few : length (words_of ws) ≤ 4 * length ws

module _ (known : List Predicate) (ws : List Written) (before mid : List (List ℕ)) (made : List Atom) (b : Begun known ws before mid made) where
  pub begun_more : (after : List (List ℕ)) (w : Written) (a : Atom) → AtomNumbered known w mid after (Some a) → Begun known (ws ++ (w ∷ [])) before after (made ++ (a ∷ []))
  begun_more after w a (means, joined, few) =
      let R = AtomMeans known after in
      let old : Pairwise R ws (map plain_atom made) = pairs_grow (AtomMeans known mid) R (λ x y n. means_stays known mid (texts w.words) after x y joined n) ws (map plain_atom made) b.pairs in
      let words = words_append ws (w ∷ []) ∙ ap (λ (k : List (List ℕ)). words_of ws ++ k) (append-nil (texts w.words)) in
      record {
        pairs = subst (λ (k : List plain.Atom). Pairwise R (ws ++ (w ∷ [])) k) (sym (map_snoc plain_atom made a)) (pairs_snoc R ws (map plain_atom made) w (plain_atom a) old means);
        joined = subst (λ (k : List (List ℕ)). Joined before k after) (sym words) (joined_twice before (words_of ws) (texts w.words) mid after b.joined joined);
        few = omega (arith, b.few, ap length words, length-append (words_of ws) (texts w.words), length-append ws (w ∷ []), length-map w.words (λ (t : Token). t.text));
      }

  pub begun_long : (length made ≡ length ws) × (length mid ≤ length before + 4 * length ws)
  begun_long =
      let long = pairs_length (AtomMeans known mid) ws (map plain_atom made) b.pairs in
      (omega (arith, length-map made plain_atom), omega (arith, b.few, joined_most before (words_of ws) mid b.joined))

  -- an atom behind them that cannot be numbered
  pub begun_stuck : (after : List (List ℕ)) (atoms : List Written) (i : ℕ) (w : Written) → length ws ≤ i → length atoms ≤ 4 → At atoms i w → AtomNumbered known w mid after None → SideNumbered known atoms before after None
  begun_stuck after atoms i w behind few at none = λ small all.
      let most = none small (all.1 i w at) in
      let long = begun_long in
      let inside = at_below atoms i w at in
      omega arith

  pub begun_all : (r : Option Side) → length ws ≤ 4 → SideMade made r → SideNumbered known ws before mid r
  begun_all None few stuck = λ small all.
      let some = all.0 in
      let same = begun_long.0 in
      absurd (stuck (omega arith) (omega arith))
  begun_all (Some d) few same = (subst (λ (k : List Atom). Pairwise (AtomMeans known mid) ws (map plain_atom k)) (sym same) b.pairs, b.joined, omega (arith, b.few))

pub rule_numbered : (known : List Predicate) (body head : List Written) (mid after : List (List ℕ)) (label : Name) (b h : Side) → SideNumbered known body [] mid (Some b) → SideNumbered known head mid after (Some h) → RuleMeans known body head (plain_rule (record { label = label; body = b; head = h }))
rule_numbered known body head mid after label b h (p, j, few) (q, k, less) = record {
  names = after;
  numbered = subst (λ (ws : List (List ℕ)). Joined [] ws after) (sym (words_append body head)) (joined_twice [] (words_of body) (words_of head) mid after j k);
  the_body = pairs_grow (AtomMeans known mid) (AtomMeans known after) (λ w a m. means_stays known mid (words_of head) after w a k m) body (plain_side b) p;
  the_head = q;
}
