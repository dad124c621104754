use Rattle.std.proofs.Common.{ℕ, ◌≡◌, ◌<◌, ◌≤◌, List, [], ◌∷◌, ◌++◌, length, vec_items, Err, Some, None, Option, IsSome, refl, ap, subst, arith}
use Rattle.std.proofs.Math.ListN.{length-map}
use Rattle.std.proofs.lemmas.Result.{err_from_is_err_and}
use Rattle.questions.specs.declared.question.Question.TheVariants.{Predicates, Rules}
use Rattle.questions.specs.declared.question.Refusal.{Refusal}
use Rattle.tokens.specs.Tokens.{Token}
use Rattle.patterns.specs.Patterns.{Written, Writes}
use Rattle.patterns.specs.Tables.{word_of, side_of}
use Rattle.patterns.specs.Asking as lines
use Rattle.patterns.specs.declared.state.Form.TheVariants as forms
use Rattle.reading.specs.Lines.{rule_of}
use Rattle.reading.specs.declared.line.RuleLine.{RuleLine}
use Rattle.rules.specs.declared.rule.Rule.{Rule}
use Rattle.naming.specs.Names.{predicates_of}
use Rattle.naming.specs.Meaning.{Predicate}
use Rattle.naming.specs.Numbering.{RuleNumbered}
use Rattle.naming.specs.declared.predicate.Predicates as declared
use Rattle.book.specs.Book as plain
use Rattle.book.specs.Asking.{Turned, Passes}
use Rattle.book.specs.Changing.{Adds}
use Rattle.book.specs.Learning.{Learnt, LineLearned}
use Rattle.book.specs.Views.{plain_entry, book_of}
use Rattle.book.specs.declared.learning.Learning.{Learning}
use Rattle.book.proofs.Preparing.{few_known, known_names, turned_line, turned_label, turned_columns, turned_predicates, turned_rules, passes_all, short_atoms, yes_label, no_columns, yes_columns, no_predicates, yes_predicates, numbered_some, adds_so}
use Rattle.book.proofs.book.Book.prepare.Goals as goal

pub returns-in_err-written : goal.returns-in_err-written
returns-in_err-written c =
    let e = c.in_err-written.field-0.0 in
    let p = err_from_is_err_and c.from_residual.result c.from_residual.ensures.1 in
    rw (p.1, p.2) (turned_line c.args.self.now c.args.line.now e.question e.place c.in_err-written.ensures.read)

pub returns-in_err-check_label : goal.returns-in_err-check_label
returns-in_err-check_label c =
    let b = c.args.self.now in
    let rule = c.in_ok-written.written in
    let (_, passes, writes) = c.in_ok-written.ensures.read in
    let e = c.in_err-check_label.field-0.0 in
    let (i, x, carries, q, at) = c.in_err-check_label.ensures in
    let r = c.from_residual-in_err-check_label in
    let p = err_from_is_err_and r.result r.ensures.1 in
    rw (p.1, p.2) (turned_label b c.args.line.now passes e (word_of rule.label, side_of rule.body, side_of rule.head, i, x, writes, carries, at) q)

pub learn-requires : goal.learn-requires
learn-requires c =
    let b = book_of c.self.inside.rules.items c.self.inside.known in
    let rule = c.in_ok-written.written in
    let (_, passes, writes) = c.in_ok-written.ensures.read in
    record {
      few = few_known b c.self.invariant.1;
      names = known_names b c.self.invariant.1;
      short = short_atoms b c.args.line.now (word_of rule.label) (side_of rule.body) (side_of rule.head) writes passes;
    }

-- the line that is read, of a label that no standing rule carries
module _ (b : plain.Book) (s : List ℕ) (rule : RuleLine) (passes : lines.Passes forms.Rule s) (writes : Writes forms.Rule s (rule_of rule)) (free : (i : ℕ) (e : plain.Entry) → plain.Carries b (word_of rule.label).text i e → ⊥) (known : declared.Predicates) (same : predicates_of known ≡ b.known) where
  abbrev label : Token
  label = word_of rule.label

  abbrev body : List Written
  body = side_of rule.body

  abbrev head : List Written
  head = side_of rule.head

  turned_wrong : (e : Refusal) → LineLearned (predicates_of known) body head (Err e) → Turned b s e.question e.place
  turned_wrong e stuck =
      let wrong = subst (λ (k : List Predicate). LineLearned k body head (Err e)) same stuck in
      turned_columns b s passes (yes_label b s label body head writes passes free) e (no_columns b s label body head writes passes e wrong) wrong.3

  module _ (l : Learning) (learned : Learnt (predicates_of known) (body ++ head) l) where
    learnt : Learnt b.known (body ++ head) l
    learnt = subst (λ (k : List Predicate). Learnt k (body ++ head) l) same learned

    turned_many : (p : ℕ) → l.extra ≡ Some p → Turned b s Predicates p
    turned_many p e = turned_predicates b s passes (yes_label b s label body head writes passes free) (yes_columns b s label body head writes passes l learnt) p (no_predicates b s label body head writes passes l learnt p e)

    module _ (none : l.extra ≡ None) where
      turned_full : 64 ≤ length b.entries → Turned b s Rules 0
      turned_full full = turned_rules b s passes (yes_label b s label body head writes passes free) (yes_columns b s label body head writes passes l learnt) (yes_predicates b s label body head writes passes l learnt none) (full, refl)

      there_is : (r : Option Rule) → RuleNumbered (predicates_of l.known) label.text body head r → IsSome r
      there_is None stuck = absurd (numbered_some b s label body head writes passes l learnt none stuck)
      there_is (Some r) numbered = refl

      prepared : (r : Rule) → length b.entries < 64 → RuleNumbered (predicates_of l.known) label.text body head (Some r) → Passes b s × Adds b s (record { entries = b.entries ++ (plain_entry r ∷ []); known = predicates_of l.known })
      prepared r room numbered =
          (passes_all b s passes (yes_label b s label body head writes passes free) (yes_columns b s label body head writes passes l learnt) (yes_predicates b s label body head writes passes l learnt none) room, adds_so b s label body head writes passes l learnt none r numbered)

pub returns-in_err-learning : goal.returns-in_err-learning
returns-in_err-learning c =
    let (_, passes, writes) = c.in_ok-written.ensures.read in
    let r = c.from_residual-in_err-learning in
    let p = err_from_is_err_and r.result r.ensures.1 in
    rw (p.1, p.2) (turned_wrong c.args.self.now c.args.line.now c.in_ok-written.written passes writes c.in_ok-check_label.ensures c.self.inside.known (ap (λ (x : plain.Book). x.known) c.self.view_is) c.in_err-learning.field-0.0 c.in_err-learning.ensures)

pub returns-in-Some : goal.returns-in-Some
returns-in-Some c =
    let (_, passes, writes) = c.in_ok-written.ensures.read in
    rw (c.at.ensures.question, c.at.ensures.place)
    (turned_many c.args.self.now c.args.line.now c.in_ok-written.written passes writes c.in_ok-check_label.ensures c.self.inside.known (ap (λ (x : plain.Book). x.known) c.self.view_is) c.in_ok-learning.learning c.in_ok-learning.ensures c.in-Some.place c.in-Some.is)

pub returns-then-len-ge-RULES : goal.returns-then-len-ge-RULES
returns-then-len-ge-RULES c =
    let b = c.args.self.now in
    let xs = c.self.inside.rules in
    let same = ap (λ (x : plain.Book). length x.entries) c.self.view_is in
    let (_, passes, writes) = c.in_ok-written.ensures.read in
    let many = c.if-len-ge-RULES.true in
    rw (c.at-then-len-ge-RULES.ensures.question, c.at-then-len-ge-RULES.ensures.place)
    (turned_full b c.args.line.now c.in_ok-written.written passes writes c.in_ok-check_label.ensures c.self.inside.known (ap (λ (x : plain.Book). x.known) c.self.view_is) c.in_ok-learning.learning c.in_ok-learning.ensures c.in_default.is (omega (arith, c.len.ensures, xs.ok.0, length-map (vec_items xs) plain_entry)))

pub unwrap-rule-requires : goal.unwrap-rule-requires
unwrap-rule-requires c =
    let (_, passes, writes) = c.in_ok-written.ensures.read in
    there_is c.args.self.now c.args.line.now c.in_ok-written.written passes writes c.in_ok-check_label.ensures c.self.inside.known (ap (λ (x : plain.Book). x.known) c.self.view_is) c.in_ok-learning.learning c.in_ok-learning.ensures c.in_default.is c.number_rule.result c.number_rule.ensures

pub returns : goal.returns
returns c =
    let b = c.args.self.now in
    let xs = c.self.inside.rules in
    let same = ap (λ (x : plain.Book). length x.entries) c.self.view_is in
    let rule = c.in_ok-written.written in
    let l = c.in_ok-learning.learning in
    let (_, passes, writes) = c.in_ok-written.ensures.read in
    prepared b c.args.line.now rule passes writes c.in_ok-check_label.ensures c.self.inside.known (ap (λ (x : plain.Book). x.known) c.self.view_is) l c.in_ok-learning.ensures c.in_default.is c.unwrap-rule.result
    (omega (arith, c.len.ensures, c.if-len-ge-RULES.false, xs.ok.0, length-map (vec_items xs) plain_entry))
    (subst (λ (r : Option Rule). RuleNumbered (predicates_of l.known) rule.label.text.now (side_of rule.body) (side_of rule.head) r) c.unwrap-rule.ensures c.number_rule.ensures)
