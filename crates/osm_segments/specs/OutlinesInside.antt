-- The fields of an outline. No public contract cites them.
use Rattle.std.specs.Prelude.{IfSome}
use Rattle.osm_segments.specs.declared.outline.Outline.TheInside.{Inside}
use Rattle.osm_segments.specs.Outlines.{IsOutline}
use Rattle.osm_segments.specs.Sweep.{AreByEnds}

-- the segments are an outline, and the list by upper ends has the same ones
pub record IsOutlineInside (outline : Inside) : Type 0 where
  pub whole : IsOutline outline.segs.items
  pub by_ends : IfSome outline.ends (λ ends. AreByEnds outline.segs.items ends.items)
