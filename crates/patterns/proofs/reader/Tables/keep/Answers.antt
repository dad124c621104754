use Rattle.std.proofs.Common.{sym, subst}
use Rattle.patterns.specs.declared.state.State.{State}
use Rattle.patterns.specs.Drafts.{Kept}
use Rattle.patterns.proofs.Keeping.{with_body, with_head, name_in_body, name_in_head, word_in_body, word_in_head}
use Rattle.patterns.proofs.reader.Tables.keep.Goals as goal

pub returns-in-Head : goal.returns-in-Head
returns-in-Head c =
    let t = c.args.self.now in
    subst (λ (st : State). Kept st c.args.word t (with_head t c.begin.new.self) c.begin.result) (sym c.in-Name.is) (name_in_head c.in-Name.part c.args.word t c.begin.new.self c.begin.result c.in-Head.is c.begin.ensures)

pub returns-in-Body : goal.returns-in-Body
returns-in-Body c =
    let t = c.args.self.now in
    let b = c.begin-in-Body in
    subst (λ (st : State). Kept st c.args.word t (with_body t b.new.self) b.result) (sym c.in-Name.is) (name_in_body c.in-Name.part c.args.word t b.new.self b.result c.in-Body.is b.ensures)

pub returns-in-Head-part : goal.returns-in-Head-part
returns-in-Head-part c =
    let t = c.args.self.now in
    subst (λ (st : State). Kept st c.args.word t (with_head t c.add.new.self) c.add.result) (sym c.in-Word.is) (word_in_head c.in-Word.part c.args.word t c.add.new.self c.add.result c.in-Head-part.is c.add.ensures)

pub returns-in-Body-part : goal.returns-in-Body-part
returns-in-Body-part c =
    let t = c.args.self.now in
    let b = c.add-in-Body-part in
    subst (λ (st : State). Kept st c.args.word t (with_body t b.new.self) b.result) (sym c.in-Word.is) (word_in_body c.in-Word.part c.args.word t b.new.self b.result c.in-Body-part.is b.ensures)
