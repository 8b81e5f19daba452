use Rattle.std.proofs.Common.{◌≡◌, ◌++◌, ℤ, List, length}
use Rattle.osm_lattice.specs.declared.seg.Seg.{Seg}
use Rattle.osm_area.specs.RoleWalk.{HaveSegments, notes_along}
use Rattle.osm_area.proofs.role_notes.add_all.Given as goal

-- what is noted and what is to be noted by the others to come are all
abbrev pub invariant-loop-member : goal.invariant-loop-member
invariant-loop-member l = record {
  segments : (along : ℤ → List Seg) → HaveSegments along l.ways.ids.now l.ways.counts.now l.ways.segs.now → HaveSegments along l.behind.ids.now l.behind.counts.now l.behind.segs.now;
  notes : (along : ℤ → List Seg) → HaveSegments along l.ways.ids.now l.ways.counts.now l.ways.segs.now
      → l.notes ++ notes_along l.lines.polygons.now along l.rest l.behind.ids.now ≡ l.fn.notes ++ notes_along l.lines.polygons.now along l.members l.ways.ids.now;
}

abbrev pub decreases-loop-member : goal.decreases-loop-member
decreases-loop-member l = length l.rest
