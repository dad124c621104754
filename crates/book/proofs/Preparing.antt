-- The questions of adding in their order, and what is prepared once they are answered.
use Rattle.std.proofs.Common.{◌≡◌, ℕ, ◌+◌, ◌≤◌, List, [], ◌∷◌, ◌++◌, map, length, take, Some, None, Err, Option, sym, refl, ap, ◌∙◌, subst, inl, inr, ⊎_elim, arith}
use Rattle.std.proofs.Math.Logic.{∥∥₁_elim}
use Rattle.std.proofs.Math.Bridge.{le_prop}
use Rattle.std.proofs.Math.Nat.{ℕ_set}
use Rattle.std.proofs.lemmas.List.{take_all}
use Rattle.lists.specs.Places.{At, Holds}
use Rattle.lists.proofs.Elements.{map_at, at_behind, at_either}
use Rattle.lists.proofs.Numbered.{at_left, at_below}
use Rattle.lists.proofs.Joining.{joined_has}
use Rattle.questions.specs.Asking as asking
use Rattle.questions.specs.declared.question.Question.{Question}
use Rattle.questions.specs.declared.question.Question.TheVariants.{Predicates, Rules}
use Rattle.questions.specs.declared.question.Refusal.{Refusal}
use Rattle.tokens.specs.Tokens.{Token}
use Rattle.patterns.specs.Patterns.{Written}
use Rattle.patterns.specs.Asking as lines
use Rattle.patterns.specs.declared.state.Form.TheVariants as forms
use Rattle.rules.specs.Views.{plain_rule}
use Rattle.rules.specs.declared.rule.Rule.{Rule}
use Rattle.naming.specs.Meaning.{predicate_of, Learned}
use Rattle.naming.specs.Names.{predicates_of}
use Rattle.naming.specs.Numbering.{Distinct, AllNameable, RuleNumbered}
use Rattle.book.specs.Book as plain
use Rattle.book.specs.Book.{Sound}
use Rattle.book.specs.Asking.{WritesRule, question_of, Yes, No, Turned, Passes}
use Rattle.book.specs.Asking.Asked.{label_unused, columns, predicates, few_rules}
use Rattle.book.specs.Changing.{Adds}
use Rattle.book.specs.Learning.{AllShort, Extra, Learnt, LineLearned}
use Rattle.book.specs.Views.{plain_entry}
use Rattle.book.specs.declared.learning.Learning.{Learning}
use Rattle.book.proofs.Clashing.{columns_right}
use Rattle.book.proofs.Written.{WrittenSide, WrittenWell, written_well}

-- what a sound book has, read off the type
pub few_known : (b : plain.Book) → ∥ Sound b ∥₁ → length b.known ≤ 32
few_known b s = ∥∥₁_elim s le_prop (λ x. x.few)

pub known_names : (b : plain.Book) → ∥ Sound b ∥₁ → Distinct b.known
known_names b s i j p q x y e = ∥∥₁_elim s (ℕ_set i j) (λ z. z.names i j p q x y e)

module _ (b : plain.Book) (line : List ℕ) where
  pub turned_line : (q : Question) (p : ℕ) → lines.Turned forms.Rule line q p → Turned b line q p
  turned_line q p (inl n) = inl n
  turned_line q p (inr (y, inl n)) = inr (y, inl n)
  turned_line q p (inr (y, inr (z, inl n))) = inr (y, inr (z, inl n))
  turned_line q p (inr (y, inr (z, inr (u, inl n)))) = inr (y, inr (z, inr (u, inl n)))
  turned_line q p (inr (y, inr (z, inr (u, inr (v, inl n))))) = inr (y, inr (z, inr (u, inr (v, inl n))))
  turned_line q p (inr (y, inr (z, inr (u, inr (v, inr (w, n)))))) = absurd n

  module _ (passes : lines.Passes forms.Rule line) where
    behind : (q : Question) (p : ℕ) → asking.FirstNo (Yes b line) (No b line) question_of (label_unused ∷ columns ∷ predicates ∷ few_rules ∷ []) q p → Turned b line q p
    behind q p n = let (y, (z, (u, (v, (w, _))))) = passes in inr (y, inr (z, inr (u, inr (v, inr (w, n)))))

    pub turned_label : (e : Refusal) → No b line label_unused e.place → e.question ≡ question_of label_unused → Turned b line e.question e.place
    turned_label e n q = behind e.question e.place (inl (n, sym q))

    module _ (label : Yes b line label_unused) where
      pub turned_columns : (e : Refusal) → No b line columns e.place → e.question ≡ question_of columns → Turned b line e.question e.place
      turned_columns e n q = behind e.question e.place (inr (label, inl (n, sym q)))

      module _ (right : Yes b line columns) where
        pub turned_predicates : (p : ℕ) → No b line predicates p → Turned b line Predicates p
        turned_predicates p n = behind Predicates p (inr (label, inr (right, inl (n, refl))))

        module _ (few : Yes b line predicates) where
          pub turned_rules : No b line few_rules 0 → Turned b line Rules 0
          turned_rules n = behind Rules 0 (inr (label, inr (right, inr (few, inl (n, refl)))))

          pub passes_all : Yes b line few_rules → Passes b line
          passes_all room = let (y, (z, (u, (v, (w, _))))) = passes in (y, (z, (u, (v, (w, (label, (right, (few, (room, tt)))))))))

-- the line writes the label, the body and the head
module _ (b : plain.Book) (line : List ℕ) (label : Token) (body head : List Written) (writes : WritesRule line label body head) (passes : lines.Passes forms.Rule line) where
  well : WrittenWell label body head
  well = written_well line label body head passes writes

  pub short_atoms : AllShort (body ++ head)
  short_atoms k w at = ⊎_elim (λ (j, h). well.the_body.short j w h) (λ (j, h). well.the_head.short j w h) (at_either body head k w at)

  pub yes_label : ((i : ℕ) (e : plain.Entry) → plain.Carries b label.text i e → ⊥) → Yes b line label_unused
  yes_label none = (label, body, head, writes, none)

  pub no_columns : (e : Refusal) → LineLearned b.known body head (Err e) → No b line columns e.place
  no_columns e (k, w, first, q, p) = (label, body, head, k, w, writes, first, p)

  -- the predicates of the line are learned
  module _ (l : Learning) (learnt : Learnt b.known (body ++ head) l) where
    pub yes_columns : Yes b line columns
    yes_columns = (
      label,
      body,
      head,
      writes,
      λ k a at wrong.
          let all : take (length (body ++ head)) (body ++ head) ≡ body ++ head = take_all (length (body ++ head)) (body ++ head) (omega arith) in
          columns_right b.known (body ++ head) (length (body ++ head)) (predicates_of l.known) (subst (λ (xs : List Written). Learned b.known xs (predicates_of l.known)) (sym all) learnt.joined) learnt.names k a (at_below (body ++ head) k a at) at wrong,
    )

    pub no_predicates : (p : ℕ) → l.extra ≡ Some p → No b line predicates p
    no_predicates p e = let (k, a, one, f) = subst (λ (x : Option ℕ). Extra b.known (body ++ head) (predicates_of l.known) x) e learnt.extra in (label, body, head, k, a, writes, one, f)

    module _ (none : l.extra ≡ None) where
      pub few_learned : length (predicates_of l.known) ≤ 32
      few_learned = subst (λ (x : Option ℕ). Extra b.known (body ++ head) (predicates_of l.known) x) none learnt.extra

      pub yes_predicates : Yes b line predicates
      yes_predicates = (label, body, head, predicates_of l.known, writes, learnt.joined, few_learned)

      nameable : (side : List Written) → WrittenSide side → ((k : ℕ) (w : Written) → At side k w → Holds (body ++ head) w) → AllNameable (predicates_of l.known) side
      nameable side fine within =
          (fine.some, λ k w at. let (j, there) = within k w at in (fine.word k w at, joined_has b.known (map predicate_of (body ++ head)) (predicates_of l.known) learnt.joined (predicate_of w) (mapped (body ++ head) j w there)))
        where
          mapped : (xs : List Written) (j : ℕ) (w : Written) → At xs j w → Holds (map predicate_of xs) (predicate_of w)
          mapped xs j w at = (j, map_at predicate_of xs j w at)

      pub numbered_some : RuleNumbered (predicates_of l.known) label.text body head None → ⊥
      numbered_some stuck = stuck (few_learned, learnt.names) (nameable body well.the_body (λ k w at. (k, at_left body head k w at))) (nameable head well.the_head (λ k w at. (length body + k, at_behind body head k (length body + k) w refl at)))

      pub adds_so : (rule : Rule) → RuleNumbered (predicates_of l.known) label.text body head (Some rule) → Adds b line (record { entries = b.entries ++ (plain_entry rule ∷ []); known = predicates_of l.known })
      adds_so rule (means, spelled) = record {
        label = label;
        body = body;
        head = head;
        writes = writes;
        known = predicates_of l.known;
        learned = learnt.joined;
        rule = plain_rule rule;
        means = means;
        becomes = ap (λ (text : List ℕ). record { entries = b.entries ++ (record { label = text; rule = plain_rule rule } ∷ []); known = predicates_of l.known }) (spelled ∙ take_all 8 label.text well.short);
      }
