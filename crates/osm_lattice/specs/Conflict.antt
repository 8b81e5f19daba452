-- How two segments conflict.
use Rattle.std.specs.Prelude.{Bool, if◌then◌else◌, Option, Some, None}
use Rattle.std.specs.Ordering.{is_eq}
use Rattle.plane.specs.Conflict.{overlaps, crosses}
use Rattle.osm_lattice.specs.declared.seg.Seg.{Seg}
use Rattle.osm_lattice.specs.declared.conflicts.Kind.{Kind}
use Rattle.osm_lattice.specs.declared.conflicts.Kind.TheVariants.{Crossing, Overlap}
use Rattle.osm_lattice.specs.Seg.{seg_cmp, edge_of}

-- s and t share more than one point
unfoldable pub are_overlapping : Seg → Seg → Bool
are_overlapping s t = overlaps (edge_of s) (edge_of t)

-- s and t share one point, which is not an end of both
unfoldable pub are_crossing : Seg → Seg → Bool
are_crossing s t = crosses (edge_of s) (edge_of t)

-- how two segments conflict, if they do: two equal ones don't
abbrev pub conflict_of : Seg → Seg → Option Kind
conflict_of s t =
    if is_eq (seg_cmp s t) then None
    else (if are_overlapping s t then Some Overlap else (if are_crossing s t then Some Crossing else None))
