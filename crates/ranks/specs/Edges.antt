-- What an edge adds to the special edges on a walk, and the edge that a byte says.
use Rattle.std.specs.Prelude.{ℕ, ◌==◌, if◌then◌else◌, List, map, Some, None, Option}
use Rattle.ranks.specs.declared.edge.Edge.{Edge}
use Rattle.ranks.specs.declared.edge.Edge.TheVariants.{Normal, Special}

abbrev pub adds : Edge → ℕ
adds Normal = 0
adds Special = 1

-- 1 is a normal edge, 2 a special one, and any other byte no edge
abbrev pub edge_of : ℕ → Option Edge
edge_of byte = if byte == 1 then Some Normal else (if byte == 2 then Some Special else None)

-- the edges that a table of bytes says
abbrev pub edges_of : List ℕ → List (Option Edge)
edges_of bytes = map edge_of bytes
