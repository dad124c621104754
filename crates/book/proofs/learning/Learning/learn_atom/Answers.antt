use Rattle.std.proofs.Common.{ℕ, ◌≡◌, ◌≤◌, List, length, take, sym, ap, ◌∙◌, subst}
use Rattle.std.proofs.Math.ListN.{length-map}
use Rattle.std.proofs.lemmas.List.{take_all}
use Rattle.bounded.specs.Bounded.{items}
use Rattle.tokens.specs.declared.token.Word.{Word}
use Rattle.patterns.specs.Tables.{written, word_of}
use Rattle.patterns.specs.declared.atom.Atom.{Atom}
use Rattle.naming.specs.Names.{predicates_of}
use Rattle.book.specs.Learning.{NewLearned}
use Rattle.book.specs.declared.learning.Learning.{Learning}
use Rattle.book.proofs.Atomwise.{learnt_same, learnt_new, named_there}
use Rattle.book.proofs.learning.Learning.learn_atom.Goals as goal

many : (a : Atom) (ws : List Word) → ws ≡ items a.words → length ws ≡ length (written a).words
many a ws e = ap (λ (k : List Word). length k) e ∙ sym (length-map (items a.words) word_of)

new_learned : (a : Atom) (word : Word) (n : ℕ) (l m : Learning) → word ≡ a.predicate → n ≡ length (written a).words → length a.predicate.text.now ≤ 8 → NewLearned (take 8 word.text.now) n word.place l m → NewLearned a.predicate.text.now (length (written a).words) a.predicate.place l m
new_learned a word n l m e f short new =
    subst (λ (k : List ℕ). NewLearned k (length (written a).words) a.predicate.place l m) (take_all 8 a.predicate.text.now short)
    (subst (λ (k : ℕ). NewLearned (take 8 a.predicate.text.now) k a.predicate.place l m) f (subst (λ (w : Word). NewLearned (take 8 w.text.now) n w.place l m) e new))

pub returns-else-known-columns-clause-learned : goal.returns-else-known-columns-clause-learned
returns-else-known-columns-clause-learned c =
    let a = c.args.atom.now in
    let l = c.args.self.now in
    let first = c.in-Some.ensures in
    let spelled = ap (λ (w : Word). w.text.now) c.predicate-word.ensures in
    learnt_same (written a) l (named_there (written a) (predicates_of l.known) _ _ first.here (first.does ∙ spelled) (c.if-known-columns.false ∙ many a c.words-columns.result.now c.words-columns.ensures.words))

pub returns-in-None-clause-learned : goal.returns-in-None-clause-learned
returns-in-None-clause-learned c =
    let a = c.args.atom.now in
    let l = c.args.self.now in
    let m = c.learn_new.new.self in
    let spelled = ap (λ (w : Word). w.text.now) c.predicate-word.ensures in
    learnt_new (written a) l m (λ i p at e. c.in-None.ensures i p at (e ∙ sym spelled))
    (new_learned a c.predicate-word.result (length c.words-columns.result.now) l m c.predicate-word.ensures (many a c.words-columns.result.now c.words-columns.ensures.words) c.requires.short c.learn_new.ensures)
