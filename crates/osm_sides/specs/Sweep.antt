-- The sweep that directs segments: the heights that it reaches, the segments that leave there, the status of a row, and the directions so far.
use Rattle.std.specs.Prelude.{Bool, List, false, insert, length, map, not, slice_index_or, take, true, ℕ, ℤ, ◌+◌, ◌<◌, ◌≡◌, ◌≤◌}
use Rattle.std.specs.List.{AllWithin}
use lib.Signed.{lt_z}
use Rattle.plane.specs.Vector.{Vector}
use Rattle.lists.specs.Member.{In}
use Rattle.plane_lists.specs.Statuses.Leaving.{Remains}
use Rattle.plane_lists.specs.Statuses.Status.{IsStatus}
use Rattle.osm_geom.specs.declared.edge.Carrier.TheVariants.{OfSeg}
use Rattle.osm_geom.specs.declared.edge.Edge.{Edge}
use Rattle.osm_lattice.specs.declared.seg.Seg.{Seg}
use Rattle.osm_lattice.specs.Seg.{edge_of}
use Rattle.osm_sides.specs.Directions.{first_end, last_end}
use Rattle.osm_sides.specs.SideTests.{counted, level}

abbrev pub ends_above : ℤ → Seg → Bool
ends_above y t = lt_z y t.b.y

abbrev pub begins_by : ℤ → Seg → Bool
begins_by y t = not (lt_z y t.a.y)

-- none ends below an earlier one
abbrev pub EndsNeverFall : List Seg → Type 0
EndsNeverFall ends = (i j : ℕ) (d : Seg) → i ≤ j → j < length ends → lt_z (slice_index_or ends j d).b.y (slice_index_or ends i d).b.y ≡ false

-- they are in order of the heights of their upper ends, and each of the segments that isn't horizontal is among them
pub record AreEnds (segs ends : List Seg) : Type 0 where
  pub whole : (t : Seg) → In t segs → level t ≡ false → In t ends
  pub rise : EndsNeverFall ends

-- what remained of any status while its items left does so when the next one has left too
abbrev pub NextHasLeft : ℤ → List Seg → ℕ → List Seg → List Seg → Type 0
NextHasLeft y ends next before after =
    (old : List Seg) → Remains (ends_above y) ends next old before → Remains (ends_above y) ends (next + 1) old after

-- s comes before the segments that are right of it just above its lower end
pub record IsEntered (s : Seg) (old new : List Seg) : Type 0 where
  pub place : ℕ
  pub within : place ≤ length old
  pub before : AllWithin (λ t. not (counted s t) ≡ true) old 0 place
  pub after : AllWithin (λ t. not (counted s t) ≡ false) old place (length old)
  pub is : new ≡ insert old place s

-- The sweep has reached the height of p: the first k of the segments begin by it and the others don't, and the status is that of all segments.
pub record IsSweptTo (p : Vector) (segs : List Seg) (k : ℕ) (status : List Seg) : Type 0 where
  pub begun : AllWithin (λ t. begins_by p.y t ≡ true) segs 0 k
  pub later : AllWithin (λ t. begins_by p.y t ≡ false) segs k (length segs)
  pub is : IsStatus edge_of p segs status

-- The sweep has reached some height: the first k of the segments begin by it, and none of the ends before a place is above it.
pub record IsSweptFrom (segs ends : List Seg) (k next : ℕ) (status : List Seg) : Type 0 where
  pub height : Vector
  pub swept : IsSweptTo height segs k status
  pub ended : AllWithin (λ t. ends_above height.y t ≡ false) ends 0 next

-- the segments from one place up to another begin at its height
pub record IsRow (segs : List Seg) (from to : ℕ) (p : Vector) (status : List Seg) : Type 0 where
  pub more : from < to
  pub within : to ≤ length segs
  pub level : AllWithin (λ t. t.a.y ≡ p.y) segs from to
  pub swept : IsSweptTo p segs to status

-- one edge for each of the first k segments, in order, with its odd side on the left
pub record AreDirectedTo (segs : List Seg) (k : ℕ) (edges : List Edge) : Type 0 where
  pub carriers : map (λ (e : Edge). e.carrier) edges ≡ map OfSeg (take k segs)
  pub firsts : map (λ (e : Edge). e.from) edges ≡ map (first_end segs) (take k segs)
  pub lasts : map (λ (e : Edge). e.to) edges ≡ map (last_end segs) (take k segs)
