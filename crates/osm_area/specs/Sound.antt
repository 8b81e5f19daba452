-- What a candidate needs to have an area.
use Rattle.std.specs.Prelude.{List, [], None, Option, Some, ◌≡◌, ◌≢◌}
use Rattle.osm_lattice.specs.declared.seg.Seg.{Seg}
use Rattle.osm_elements.specs.declared.object.Object.{Object}
use Rattle.osm_elements.specs.declared.object.ObjectRef.{ObjectRef}
use Rattle.osm_segments.specs.Counts.{AreSurvivors}
use Rattle.osm_segments.specs.Pairs.{conflicts_of}
use Rattle.osm_segments.specs.Counts.{HasEvenNodes}
use Rattle.osm_area.specs.Missing.{missing}
use Rattle.osm_area.specs.Segments.{candidate_segments}

-- No part is missing, and some of the segments survive.
-- No two survivors conflict, and an even number of them end at each location.
pub record IsSoundGiven (missing : List ObjectRef) (segments : List Seg) : Type 0 where
  pub complete : missing ≡ []
  pub survivors : List Seg
  pub survive : AreSurvivors segments survivors
  pub some : survivors ≢ []
  pub clear : conflicts_of survivors ≡ []
  pub even : HasEvenNodes survivors

abbrev pub IsSound : List Object → ObjectRef → Type 0
IsSound objects candidate = IsSoundGiven (missing objects candidate) (candidate_segments objects candidate)

-- the surviving segments of a sound candidate; none if it isn't sound
abbrev pub IsOutlineFor : List Object → ObjectRef → Option (List Seg) → Type 0
IsOutlineFor objects candidate None = IsSound objects candidate → ⊥
IsOutlineFor objects candidate (Some outline) = IsSound objects candidate × AreSurvivors (candidate_segments objects candidate) outline
