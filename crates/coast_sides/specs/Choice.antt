-- Which of some rings are kept: long ones before short ones.
use Rattle.std.specs.Prelude.{◌≡◌, ◌&&◌, ◌||◌, Bool, not, List, Contains, filter, length, nat_eq, nat_lt, int_lt}
use Rattle.std.specs.List.{list_any}
use Rattle.coast_rings.specs.declared.ring.CoastRing.{CoastRing}
use Rattle.coast_sides.specs.Segments.{segments_round}
use Rattle.coast_sides.specs.Sorting.{conflicts_with}

-- a ring has more locations than another, or as many and the lesser name
abbrev pub outranks : CoastRing → CoastRing → Bool
outranks a b = nat_lt (length b.path) (length a.path) || (nat_eq (length a.path) (length b.path) && int_lt a.name b.name)

-- a segment of the one conflicts with a segment of the other
abbrev pub rings_conflict : CoastRing → CoastRing → Bool
rings_conflict a b = list_any (conflicts_with (segments_round b.path)) (segments_round a.path)

-- one of these rings is kept, outranks the ring and conflicts with it
abbrev pub is_beaten : (CoastRing → Bool) → List CoastRing → CoastRing → Bool
is_beaten is_kept rings ring = list_any (λ foe. is_kept foe && (outranks foe ring && rings_conflict foe ring)) rings

-- a ring is kept exactly where no kept ring that outranks it conflicts with it
abbrev pub KeepsUnbeaten : List CoastRing → (CoastRing → Bool) → Type 0
KeepsUnbeaten rings is_kept = (ring : CoastRing) → Contains rings ring → is_kept ring ≡ not (is_beaten is_kept rings ring)

-- those that are kept, and the others, which are left out, both in order
pub record AreChosen (rings kept left_out : List CoastRing) : Type 0 where
  pub is_kept : CoastRing → Bool
  pub exact : KeepsUnbeaten rings is_kept
  pub keeps : kept ≡ filter is_kept rings
  pub leaves : left_out ≡ filter (λ ring. not (is_kept ring)) rings
