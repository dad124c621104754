use Rattle.std.proofs.Common.{◌≡◌, ◌-◌, length}
use Rattle.reading.proofs.Scanning.{Scanned}
use Rattle.reading.proofs.checks.check_words.Given as goal

abbrev pub invariant-loop-token : goal.invariant-loop-token
invariant-loop-token l = (l.lexer.line ≡ l.initial.lexer.line) × Scanned l.lexer.line.now l.lexer.at

abbrev pub decreases-loop-token : goal.decreases-loop-token
decreases-loop-token l = length l.lexer.line.now - l.lexer.at
