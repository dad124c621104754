-- Occurrences in memory, as the definitions have them.
use Rattle.std.specs.Prelude.{ℕ}
use Rattle.dependencies.specs.declared.occurrence.Occurrence.{Occurrence}

-- an occurrence as a pair of variable and position
abbrev pub pair : Occurrence → ℕ × ℕ
pair o = (o.variable, o.position)
