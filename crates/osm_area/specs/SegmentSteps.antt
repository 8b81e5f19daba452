-- Segments along locations, as the functions that add them see them. No public contract cites them.
use Rattle.std.specs.Prelude.{List, [], Option, None, Some}
use Rattle.std.specs.List.{cons_option}
use Rattle.osm_lattice.specs.declared.loc.Loc.{Loc}
use Rattle.osm_lattice.specs.declared.seg.Seg.{Seg}
use Rattle.osm_lattice.specs.Seg.{segment_between}

-- the segment from the location before to this one, if there is one
abbrev pub step_from : Option Loc → Loc → List Seg
step_from None at = []
step_from (Some before) at = cons_option (segment_between before at) []
