-- What an edge sees of a list of edges.
use Rattle.std.specs.Prelude.{Bool, List}
use Rattle.plane.specs.Edge.{Edge}
use Rattle.plane.specs.Vector.{from_to}
use Rattle.plane_lists.specs.Lists.EdgeList.{crossing_count}
use Rattle.plane_lists.specs.Lists.Node.{away}
use Rattle.plane_lists.specs.Lists.Parity.{is_even}

-- the ray that runs along e from the point that e leaves crosses an even number of the edges that don't end there
abbrev pub sees_even : List Edge → Edge → Bool
sees_even es e = is_even (crossing_count (from_to e.from e.to) e.from (away e.from es))
