-- Cyclic lists with other beginnings.
use Rattle.std.specs.Prelude.{All, List, slice_index_or, ◌≢◌}
use Rattle.std.specs.declared.cmp.Ordering.TheVariants.{Less}
use Rattle.osm_geom.specs.declared.edge.Edge.{Edge}
use Rattle.osm_geom.specs.Point.{point_cmp}

-- no edge leaves a lesser point than the first one does
abbrev pub BeginsLeast : List Edge → Type 0
BeginsLeast es = All (λ e. point_cmp e.from (slice_index_or es 0 e).from ≢ Less) es
