-- The lesser of two starts of edges. No public contract cites this.
use Rattle.std.specs.Prelude.{List, slice_index_or, ℕ, ◌≡◌, ◌≢◌, ◌⊎◌}
use Rattle.std.specs.declared.cmp.Ordering.TheVariants.{Less}
use Rattle.osm_geom.specs.declared.edge.Edge.{Edge}
use Rattle.osm_geom.specs.Point.{point_cmp}

-- i is the second place if its edge leaves the lesser point, and otherwise the first
abbrev pub IsLesserStart : List Edge → ℕ → ℕ → ℕ → Type 0
IsLesserStart es first second i = ((i ≡ second) × ((d : Edge) → point_cmp (slice_index_or es second d).from (slice_index_or es first d).from ≡ Less)) ⊎ ((i ≡ first) × ((d : Edge) → point_cmp (slice_index_or es second d).from (slice_index_or es first d).from ≢ Less))
