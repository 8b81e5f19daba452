-- Which candidates' areas hold a location, and which have it on them.
use Rattle.std.specs.Prelude.{◌≡◌, ◌⊎◌, ◌%◌, Bool, true, false, List, [], ◌∷◌}
use Rattle.plane.specs.RayCrossing.{is_off}
use Rattle.plane.specs.Vector.{east}
use Rattle.plane_lists.specs.Lists.EdgeList.{crossing_count}
use Rattle.lists.specs.Member.{In}
use Rattle.osm_lattice.specs.declared.loc.Loc.{Loc}
use Rattle.osm_lattice.specs.declared.seg.Seg.{Seg}
use Rattle.osm_lattice.specs.Loc.{vector_of}
use Rattle.osm_lattice.specs.Seg.{edge_of}
use Rattle.osm_sides.specs.Survivors.{plane_edges_of}
use Rattle.osm_elements.specs.declared.object.Object.{Object}
use Rattle.osm_elements.specs.declared.object.ObjectRef.{ObjectRef}
use Rattle.osm_objects.specs.declared.choice.Choice.{Choice}
use Rattle.osm_objects.specs.Candidates.{candidates}
use Rattle.osm_area.specs.Problems.{SurvivorsAre}
use Rattle.osm_area.specs.Segments.{candidate_segments}
use Rattle.osm_area.specs.Sound.{IsSound}
use Rattle.area_locate.specs.declared.found.Found.{Found}
use Rattle.area_locate.specs.declared.found.Hit.{Hit}

-- ---- a location and segments

-- p lies on one of the segments, at an end of it or between its ends
abbrev pub IsOn : Loc → List Seg → Type 0
IsOn p survivors = (s : Seg) × In s survivors × (is_off (vector_of p) (edge_of s) ≡ false)

-- p lies on none of them, and a ray from it crosses an odd number of them
abbrev pub IsIn : Loc → List Seg → Type 0
IsIn p survivors = (IsOn p survivors → ⊥) × (crossing_count east (vector_of p) (plane_edges_of survivors) % 2 ≡ 1)

-- ---- a location and a candidate

-- the candidate has an area, and p is on it: on a segment that survives of the candidate's
abbrev pub HasOn : List Object → ObjectRef → Loc → Type 0
HasOn objects candidate p = IsSound objects candidate × SurvivorsAre (candidate_segments objects candidate) (IsOn p)

-- the candidate has an area, and p is in it
abbrev pub Holds : List Object → ObjectRef → Loc → Type 0
Holds objects candidate p = IsSound objects candidate × SurvivorsAre (candidate_segments objects candidate) (IsIn p)

-- either of the two, as a hit tells them
abbrev pub IsHit : List Object → ObjectRef → Loc → (on : Bool) → Type 0
IsHit objects candidate p true = HasOn objects candidate p
IsHit objects candidate p false = Holds objects candidate p

-- ---- locations and candidates

-- one hit for each candidate whose area holds p or has it on it, in order, and no others
abbrev pub AreHits : List Object → Loc → List ObjectRef → List Hit → Type 0
AreHits objects p [] hits = hits ≡ []
AreHits objects p (candidate ∷ candidates) hits =
    ((on : Bool) × IsHit objects candidate p on × (others : List Hit) × AreHits objects p candidates others
    × (hits ≡ record { of = candidate; on = on } ∷ others))
    ⊎ (((on : Bool) → IsHit objects candidate p on → ⊥) × AreHits objects p candidates hits)

-- one entry for each of the points, in order, with its hits
abbrev pub AreFoundAmong : List Object → List ObjectRef → List Loc → List Found → Type 0
AreFoundAmong objects candidates [] found = found ≡ []
AreFoundAmong objects candidates (p ∷ points) found =
    (hits : List Hit) × AreHits objects p candidates hits × (others : List Found) × AreFoundAmong objects candidates points others
    × (found ≡ record { at = p; hits = hits } ∷ others)

-- the same, for the candidates that a choice takes among the objects of an input
abbrev pub AreFound : Choice → List Object → List Loc → List Found → Type 0
AreFound choice objects points found = AreFoundAmong objects (candidates choice objects) points found
