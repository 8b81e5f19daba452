-- Notes on roles that differ from what the geometry says.
use Rattle.std.specs.Prelude.{Bool, false, ◌&&◌, if◌then◌else◌, List, [], map, find, bytes_eq, codes, ℕ, ℤ, Option, None, Some}
use Rattle.std.specs.List.{filter_map, flat_map, list_any}
use Rattle.std.specs.Option.{option_map_or}
use Rattle.std.specs.Ordering.{int_eq, is_eq}
use Rattle.osm_geom.specs.declared.edge.Carrier.{Carrier}
use Rattle.osm_geom.specs.declared.edge.Carrier.TheVariants.{OfSeg, Vertical, Horizontal}
use Rattle.osm_geom.specs.declared.edge.Edge.{Edge}
use Rattle.osm_lattice.specs.declared.seg.Seg.{Seg}
use Rattle.osm_lattice.specs.Seg.{seg_cmp}
use Rattle.osm_elements.specs.declared.object.Member.{Member}
use Rattle.osm_elements.specs.declared.object.Object.{Object}
use Rattle.osm_elements.specs.declared.object.ObjectKind.{ObjectKind}
use Rattle.osm_elements.specs.declared.object.ObjectKind.TheVariants.{Node, Way, Relation}
use Rattle.osm_elements.specs.declared.object.ObjectRef.{ObjectRef}
use Rattle.osm_objects.specs.declared.problem.Note.{Note}
use Rattle.osm_objects.specs.declared.problem.Note.TheVariants.{InnerInOuter, OuterInInner}
use Rattle.osm_objects.specs.Object.{same_kind}
use Rattle.osm_objects.specs.Objects.{relation_of}
use Rattle.osm_nest.specs.declared.polygon.Polygon.{Polygon}
use Rattle.osm_area.specs.MemberWays.{member_ways}
use Rattle.osm_area.specs.Segments.{way_segments}

-- ---- roles

abbrev pub members_by : List Object → ObjectKind → ℤ → List Member
members_by objects Node id = []
members_by objects Way id = []
members_by objects Relation id = option_map_or (λ r. r.members) (relation_of objects id) []

-- the members of a relation; nothing else has any
abbrev pub members_of : List Object → ObjectRef → List Member
members_of objects candidate = members_by objects candidate.kind candidate.id

abbrev pub mentions : ℤ → Member → Bool
mentions way member = same_kind member.kind Way && int_eq member.id way

-- the first of the members that names this way has this role
abbrev pub is_first_role : List ℕ → List Member → ℤ → Bool
is_first_role role members way = option_map_or (λ m. bytes_eq m.role role) (find (mentions way) members) false

-- ---- rings

abbrev pub outers : List Polygon → List (List Edge)
outers polygons = map (λ polygon. polygon.outer) polygons

abbrev pub inners : List Polygon → List (List Edge)
inners polygons = flat_map (λ polygon. polygon.inners) polygons

-- the carrier is the segment
abbrev pub carries : Seg → Carrier → Bool
carries s (OfSeg t) = is_eq (seg_cmp t s)
carries s (Vertical c) = false
carries s (Horizontal d) = false

-- some edge of the rings runs along the segment
abbrev pub is_in_rings : List (List Edge) → Seg → Bool
is_in_rings rings s = list_any (list_any (λ (e : Edge). carries s e.carrier)) rings

-- some segment of the way lies in one of the rings
abbrev pub lies_in : List Object → List (List Edge) → ℤ → Bool
lies_in objects rings way = list_any (is_in_rings rings) (way_segments objects way)

-- ---- notes

-- the role inner of a way that lies in an outer ring, or the role outer of one that lies in an inner ring
abbrev pub role_note : List Object → List Member → List Polygon → ℤ → Option Note
role_note objects members polygons way =
    if is_first_role (codes "inner") members way && lies_in objects (outers polygons) way then Some (InnerInOuter way)
    else if is_first_role (codes "outer") members way && lies_in objects (inners polygons) way then Some (OuterInInner way)
    else None

-- the notes on these ways, in order
abbrev pub role_notes_of : List Object → ObjectRef → List ℤ → List Polygon → List Note
role_notes_of objects candidate ways polygons = filter_map (role_note objects (members_of objects candidate) polygons) ways

-- the notes on the member ways, in order of first mention
abbrev pub role_notes : List Object → ObjectRef → List Polygon → List Note
role_notes objects candidate polygons = role_notes_of objects candidate (member_ways objects candidate) polygons
