use Rattle.std.proofs.Common.{not, ap, sym, subst, ◌∙◌}
use Rattle.patterns.specs.declared.reader.Reader.{Reader}
use Rattle.patterns.specs.Drafts.{Noted}
use Rattle.patterns.proofs.Keeping.{note_kept, note_extra, note_gone}
use Rattle.patterns.proofs.reader.Reader.note.Goals as goal
use Rattle.patterns.proofs.reader.Reader.note.Goals.{else-is_none-via-then-is_none+else-is_err, else-is_none-via-else-is_none}

pub returns-then-is_err-clause-noted : goal.returns-then-is_err-clause-noted
returns-then-is_err-clause-noted c =
    let old = c.args.self.now in
    note_extra c.args.state c.args.word old.tables c.keep.new.self old.extra c.keep.result (c.is_none.ensures ∙ ap not c.if-is_none.true) (sym c.is_err.ensures.value ∙ c.if-is_err.true) c.keep.ensures

pub returns-else-is_none-clause-noted : goal.returns-else-is_none-clause-noted
returns-else-is_none-clause-noted c =
    let old = c.args.self.now in
    elim c.else-is_none.branch [
      | else-is_none-via-then-is_none+else-is_err w ↦
          subst (λ (r : Reader). Noted c.args.state c.args.word old r) (sym w.self-is) (note_kept c.args.state c.args.word old.tables w.keep.new.self old.extra w.keep.result (c.is_none.ensures ∙ ap not w.if-is_none.true) (sym w.is_err.ensures.value ∙ w.if-is_err.false) w.keep.ensures)
      | else-is_none-via-else-is_none w ↦ subst (λ (r : Reader). Noted c.args.state c.args.word old r) (sym w.self-is) (note_gone c.args.state c.args.word old.tables old.extra (c.is_none.ensures ∙ ap not w.if-is_none.false))
    ]
