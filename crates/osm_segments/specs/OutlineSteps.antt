-- How an outline is recognized. No public contract cites this.
use Rattle.std.specs.Prelude.{List}
use Rattle.osm_lattice.specs.declared.seg.Seg.{Seg}
use Rattle.osm_segments.specs.declared.outline.Told.{Told}
use Rattle.osm_segments.specs.declared.outline.Told.TheVariants.{Whole, Sorted, Faulty}
use Rattle.osm_segments.specs.Outlines.{IsOutline}
use Rattle.osm_segments.specs.Sweep.{AreByEnds}

-- what was found out about segments is right
abbrev pub IsTold : List Seg → Told → Type 0
IsTold segs Whole = IsOutline segs
IsTold segs (Sorted ends) = IsOutline segs × AreByEnds segs ends.items
IsTold segs Faulty = IsOutline segs → ⊥
