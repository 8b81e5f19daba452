-- Segments of which rings can be made.
use Rattle.std.specs.Prelude.{List, [], ◌≡◌, Result, Ok, Err, Vec}
use Rattle.std.specs.declared.alloc.Global.{Global}
use Rattle.osm_lattice.specs.declared.seg.Seg.{Seg}
use Rattle.osm_lattice.specs.Seg.{seg_cmp}
use Rattle.lists.specs.Rising.{IsRising}
use Rattle.osm_segments.specs.Counts.{HasEvenNodes}
use Rattle.osm_segments.specs.Pairs.{conflicts_of}

-- Segments in strict order. No two conflict, and an even number of them end at each location.
pub record IsOutline (segs : List Seg) : Type 0 where
  pub rising : IsRising seg_cmp segs
  pub clear : conflicts_of segs ≡ []
  pub even : HasEvenNodes segs

-- the outline of these segments if they are one, and otherwise the same segments
abbrev pub IsOutlineOf : List Seg → Result (List Seg) (Vec Seg Global) → Type 0
IsOutlineOf segs (Ok outline) = (outline ≡ segs) × IsOutline segs
IsOutlineOf segs (Err left) = (left.items ≡ segs) × (IsOutline segs → ⊥)
