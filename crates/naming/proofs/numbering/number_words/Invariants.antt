use Rattle.std.proofs.Common.{map, take}
use Rattle.bounded.specs.Bounded.{items}
use Rattle.patterns.specs.Tables.{word_of}
use Rattle.naming.specs.Names.{names_of}
use Rattle.naming.specs.Numbering.{WordsNumbered}
use Rattle.naming.proofs.numbering.number_words.Given as goal

abbrev pub invariant-loop-word : goal.invariant-loop-word
invariant-loop-word l = WordsNumbered (map word_of (take l.word-index l.words)) (names_of l.initial.variables) (names_of l.variables) (items l.numbers)
