-- Notes on roles, found by one walk along the members. No public contract cites this.
use Rattle.std.specs.Prelude.{Bool, false, ◌≡◌, ◌++◌, if◌then◌else◌, List, [], ◌∷◌, length, map, ℕ, ℤ, Option, None}
use Rattle.std.specs.List.{cons_option, flat_map, list_any}
use Rattle.osm_lattice.specs.declared.seg.Seg.{Seg}
use Rattle.osm_elements.specs.declared.object.Member.{Member}
use Rattle.osm_objects.specs.declared.problem.Note.{Note}
use Rattle.osm_nest.specs.declared.polygon.Polygon.{Polygon}
use Rattle.osm_area.specs.RoleKinds.{note_on, role_named}
use Rattle.osm_area.specs.Roles.{inners, is_in_rings, mentions, outers}

-- these are the segments of ways, one way after the other, and how many each has, if `along` gives those of a way
abbrev pub HaveSegments : (along : ℤ → List Seg) (ways : List ℤ) (counts : List ℕ) (segs : List Seg) → Type 0
HaveSegments along ways counts segs = (segs ≡ flat_map along ways) × (counts ≡ map (λ way. length (along way)) ways)

-- the member is the first of the ways
abbrev pub mentions_first : Member → List ℤ → Bool
mentions_first member [] = false
mentions_first member (way ∷ ways) = mentions way member

-- the note on a way that is mentioned in this role and has these segments
abbrev pub note_along : List Polygon → List ℕ → ℤ → List Seg → Option Note
note_along polygons role way segs = note_on (role_named role) way (list_any (is_in_rings (outers polygons)) segs) (list_any (is_in_rings (inners polygons)) segs)

-- the note on the first of the ways, if the member is that one
abbrev pub note_at : List Polygon → (along : ℤ → List Seg) → Member → List ℤ → Option Note
note_at polygons along member [] = None
note_at polygons along member (way ∷ ways) = if mentions way member then note_along polygons member.role way (along way) else None

-- the ways that are left after the member
abbrev pub ways_behind : Member → List ℤ → List ℤ
ways_behind member [] = []
ways_behind member (way ∷ ways) = if mentions way member then ways else way ∷ ways

-- the notes on ways that are in order of first mention
abbrev pub notes_along : List Polygon → (along : ℤ → List Seg) → List Member → List ℤ → List Note
notes_along polygons along [] ways = []
notes_along polygons along (member ∷ members) ways = cons_option (note_at polygons along member ways) (notes_along polygons along members (ways_behind member ways))

-- one member changes these ways and notes to those ways and notes
abbrev pub IsMemberStep : List Polygon → (along : ℤ → List Seg) → Member → (ways : List ℤ) (counts : List ℕ) (segs : List Seg) → (behind : List ℤ) (counts_behind : List ℕ) (segs_behind : List Seg) → (old new : List Note) → Type 0
IsMemberStep polygons along member ways counts segs behind counts_behind segs_behind old new =
    HaveSegments along ways counts segs → (behind ≡ ways_behind member ways) × HaveSegments along behind counts_behind segs_behind × (new ≡ old ++ cons_option (note_at polygons along member ways) [])
