use Rattle.std.proofs.Common.{Ok, sym, subst}
use Rattle.tokens.specs.declared.token.Token.{Token}
use Rattle.patterns.specs.Drafts.{Advanced, Fed}
use Rattle.patterns.proofs.Feeding.{fed_word, fed_mark}
use Rattle.patterns.proofs.reader.Reader.feed.Goals as goal

pub returns-in-Word-clause-fed : goal.returns-in-Word-clause-fed
returns-in-Word-clause-fed c =
    let old = c.args.self.now in
    let mid = c.advance.new.self in
    let new = c.note.new.self in
    let a = c.in_ok-advance.ensures in
    subst (λ (t : Token). Fed old t new (Ok tt)) (sym c.in-Word.is) (fed_word old mid new c.in-Word.word (subst (λ (t : Token). Advanced old t mid (Ok tt)) c.in-Word.is a.advanced) a.same c.note.ensures.noted c.note.ensures.state)

pub returns-in_default : goal.returns-in_default
returns-in_default c = let a = c.in_ok-advance.ensures in record { fed = fed_mark c.args.self.now c.advance.new.self c.args.token c.in_default.not-Word a.advanced a.same; unmoved = tt }
