-- Lists of edges multiplied by a number.
use Rattle.std.specs.Prelude.{List, map}
use lib.IntN.{ℤ}
use Rattle.plane.specs.Edge.{Edge}
use Rattle.plane.specs.Scale.{scaled_edge}

abbrev pub scaled_edges : ℤ → List Edge → List Edge
scaled_edges k es = map (scaled_edge k) es
