use Rattle.std.proofs.Common.{◌≡◌, ℕ, ◌-◌, List, length, Bor}
use Rattle.patterns.specs.declared.state.Form.{Form}
use Rattle.patterns.specs.Machine.{start}
use Rattle.patterns.specs.Drafts.{Shows}
use Rattle.reading.proofs.Completing.{Along}
use Rattle.reading.proofs.read.read_pattern.Given as goal

abbrev pub invariant-loop-token : goal.invariant-loop-token
invariant-loop-token l =
    (l.lexer.line ≡ l.initial.lexer.line)
    × ((form : Form) → ((line : Bor (List ℕ)) → Shows line l.initial.reader (start form) 0) → Along form l.lexer.line l.reader l.lexer.at)

abbrev pub decreases-loop-token : goal.decreases-loop-token
decreases-loop-token l = length l.lexer.line.now - l.lexer.at
