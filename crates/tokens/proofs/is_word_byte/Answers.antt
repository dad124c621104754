use Rattle.std.proofs.Common.{rules}
use Rattle.tokens.specs.Tokens.{word_byte}
use Rattle.tokens.proofs.is_word_byte.Goals as goal

pub returns-then-is_ascii_alphanumeric : goal.returns-then-is_ascii_alphanumeric
unfolding word_byte
returns-then-is_ascii_alphanumeric c = search rules

pub returns-else-is_ascii_alphanumeric : goal.returns-else-is_ascii_alphanumeric
unfolding word_byte
returns-else-is_ascii_alphanumeric c = search rules
