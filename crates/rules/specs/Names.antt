-- What a name that is kept spells.
use Rattle.std.specs.Prelude.{ℕ, List}
use Rattle.bounded.specs.Bounded.{items}
use Rattle.rules.specs.declared.name.Name.{Name}

abbrev pub text_of : Name → List ℕ
text_of n = items n.bytes
