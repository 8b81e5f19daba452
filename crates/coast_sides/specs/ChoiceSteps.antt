-- Steps of the choice: rings in order of rank, and which segments are blocked by those that are kept.
use Rattle.std.specs.Prelude.{◌≡◌, ◌<◌, ◌&&◌, ◌||◌, ℕ, Bool, true, not, List, [], All, AllPairs, Contains, Option, Some, None, Vec, length, is_some}
use Rattle.std.specs.BTreeMap.{BTreeMap, get}
use Rattle.std.specs.declared.alloc.Global.{Global}
use Rattle.std.specs.List.{filter_map, list_any, slice_get}
use Rattle.std.specs.Ordering.{is_eq}
use Rattle.osm_lattice.specs.declared.seg.Seg.{Seg}
use Rattle.osm_lattice.specs.Conflict.{conflict_of}
use Rattle.osm_lattice.specs.Seg.{seg_cmp}
use Rattle.osm_segments.specs.declared.pairs.Pair.{Pair}
use Rattle.coast_rings.specs.declared.ring.CoastRing.{CoastRing}
use Rattle.coast_sides.specs.declared.ranking.Rank.{Rank}
use Rattle.coast_sides.specs.Choice.{outranks}
use Rattle.coast_sides.specs.Segments.{segments_round}
use Rattle.coast_sides.specs.Sorting.{conflicts_with}

-- ---- in order of rank

-- the rank of the ring at a place
abbrev pub ring_rank : ℕ → CoastRing → Rank
ring_rank place ring = record { locations = record { 0 = length ring.path }; name = ring.name; place = place }

-- the rings at places
abbrev pub rings_at : List CoastRing → List ℕ → List CoastRing
rings_at rings places = filter_map (slice_get rings) places

-- at these places stands each of the rings, and each of them outranks every later one
pub record AreByRank (rings : List CoastRing) (places : List ℕ) : Type 0 where
  pub within : All (λ k. k < length rings) places
  pub each : (ring : CoastRing) → Contains rings ring → Contains (rings_at rings places) ring
  pub ranked : AllPairs (λ a b. outranks a b ≡ true) (rings_at rings places)

-- ---- foes

abbrev pub is_same_segment : Seg → Seg → Bool
is_same_segment s t = is_eq (seg_cmp s t)

-- s and t are the segments of a pair
abbrev pub are_paired : Seg → Seg → Pair → Bool
are_paired s t pair = (is_same_segment pair.first s && is_same_segment pair.second t) || (is_same_segment pair.second s && is_same_segment pair.first t)

-- the segments of a list, if there is one
abbrev pub segments_in : Option (Vec Seg Global) → List Seg
segments_in None = []
segments_in (Some v) = v.items

-- t is a foe that is known of s
abbrev pub knows : BTreeMap Seg (Vec Seg Global) → Seg → Seg → Bool
knows foes s t = list_any (λ u. is_same_segment u t) (segments_in (get seg_cmp foes s))

-- no segment of a ring is blocked
abbrev pub is_free : (Seg → Bool) → CoastRing → Bool
is_free blocked ring = not (list_any blocked (segments_round ring.path))

-- Of these segments those are blocked that conflict with one of `held`; of each, each other one that conflicts with it is blocked or
-- known; and what is known of a segment conflicts with it.
pub record AreBlocked (segs held : List Seg) (known : Seg → Seg → Bool) (blocked : Seg → Bool) : Type 0 where
  pub found : (t : Seg) → Contains segs t → blocked t ≡ conflicts_with held t
  pub left : (s t : Seg) → Contains segs s → Contains segs t → is_some (conflict_of s t) ≡ true → (blocked t || known s t) ≡ true
  pub right : (s t : Seg) → known s t ≡ true → is_some (conflict_of s t) ≡ true
