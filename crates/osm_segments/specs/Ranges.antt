-- Segments over strips of the tilted plane: which are left of which, and which pairs have been settled there.
-- No public contract cites this.
use Rattle.std.specs.Prelude.{◌≡◌, ◌⊎◌, ◌<◌, ◌<ℤ◌, ◌≤ℤ◌, ℕ, ℤ, AllPairs, Contains, List, None, Some, length}
use Rattle.std.specs.declared.cmp.Ordering.{Ordering}
use Rattle.std.specs.Ordering.{nat_cmp, on, then_cmp}
use Rattle.plane.specs.Height.{distance_right}
use Rattle.plane.specs.Sign.{Plus, Sign, sign}
use Rattle.plane.specs.Vector.{cross}
use Rattle.osm_lattice.specs.declared.loc.Loc.{Loc}
use Rattle.osm_lattice.specs.declared.seg.Seg.{Seg}
use Rattle.osm_lattice.specs.Conflict.{conflict_of}
use Rattle.osm_segments.specs.declared.pairs.Pair.{Pair}
use Rattle.osm_segments.specs.declared.places.Places.{Places}
use Rattle.osm_segments.specs.declared.ranges.strips.SegAt.{SegAt}
use Rattle.osm_segments.specs.declared.ranges.strips.Strip.{Strip}
use Rattle.osm_segments.specs.Places.{pair_at}
use Rattle.osm_segments.specs.Tilted.{tilted, tilted_point}

-- how high p lies in the tilted plane
abbrev pub height : Loc → ℤ
height p = (tilted_point p).y

-- Plus if t is right of s at the height of v
unfoldable pub side_at : Loc → Seg → Seg → Sign
side_at v s t = sign (cross (distance_right (tilted_point v) (tilted s)) (distance_right (tilted_point v) (tilted t)))

-- s is left of t at the height of v
abbrev pub IsLeftAt : Loc → Seg → Seg → Type 0
IsLeftAt v s t = side_at v s t ≡ Plus

-- both begin at p
abbrev pub BeginTogether : Loc → Seg → Seg → Type 0
BeginTogether p s t = (s.a ≡ p) × (t.a ≡ p)

-- both end at q
abbrev pub EndTogether : Loc → Seg → Seg → Type 0
EndTogether q s t = (s.b ≡ q) × (t.b ≡ q)

-- s is left of t from p up to q. At one of the two heights they may have a common end instead
abbrev pub RunsLeft : Loc → Loc → Seg → Seg → Type 0
RunsLeft p q s t =
    (IsLeftAt p s t × (IsLeftAt q s t ⊎ EndTogether q s t)) ⊎ (BeginTogether p s t × IsLeftAt q s t)

-- each is left of all later ones over the strip
abbrev pub StandInRow : Strip → List SegAt → Type 0
StandInRow strip row = AllPairs (λ s t. RunsLeft strip.low strip.high s.seg t.seg) row

-- from p up to q both run within the strip
pub record BothRun (strip : Strip) (s t : Seg) (p q : Loc) : Type 0 where
  pub rises : height p <ℤ height q
  pub above : height strip.low ≤ℤ height p
  pub below : height q ≤ℤ height strip.high
  pub first_begins : height s.a ≤ℤ height p
  pub first_ends : height q ≤ℤ height s.b
  pub second_begins : height t.a ≤ℤ height p
  pub second_ends : height q ≤ℤ height t.b

-- wherever both run within the strip, one is left of the other
abbrev pub RunClear : Strip → Seg → Seg → Type 0
RunClear strip s t = (p q : Loc) → BothRun strip s t p q → RunsLeft p q s t ⊎ RunsLeft p q t s

-- these places were listed, or have no conflict
abbrev pub IsToldOrNone : List Seg → List Places → Places → Type 0
IsToldOrNone segs told p = Contains told p ⊎ (pair_at segs p ≡ None)

-- the segments at two places were listed, or tried without finding a conflict
abbrev pub IsTried : List Seg → List Places → ℕ → ℕ → Type 0
IsTried segs told i j =
    IsToldOrNone segs told (record { first = i; second = j }) ⊎ IsToldOrNone segs told (record { first = j; second = i })

-- the two don't conflict, whichever is named first
abbrev pub HaveNoConflict : Seg → Seg → Type 0
HaveNoConflict s t = (conflict_of s t ≡ None) × (conflict_of t s ≡ None)

-- they are the same one, or were tried, or are clear within the strip or everywhere
abbrev pub IsSettled : List Seg → List Places → Strip → SegAt → SegAt → Type 0
IsSettled segs told strip s t =
    (s.place ≡ t.place) ⊎ (IsTried segs told s.place t.place ⊎ (RunClear strip s.seg t.seg ⊎ HaveNoConflict s.seg t.seg))

-- each two of them are settled
abbrev pub AreSettled : List Seg → List Places → Strip → List SegAt → Type 0
AreSettled segs told strip xs = (s t : SegAt) → Contains xs s → Contains xs t → IsSettled segs told strip s t

-- all places that were listed before are listed after
abbrev pub AreKept : List Places → List Places → Type 0
AreKept old new = (p : Places) → Contains old p → Contains new p

-- there is a conflict at these places
pub record IsConflictAt (segs : List Seg) (p : Places) : Type 0 where
  pub ordered : p.first < p.second
  pub pair : Pair
  pub is : pair_at segs p ≡ Some pair

-- only conflicts were added
pub record IsGrown (segs : List Seg) (old new : List Places) : Type 0 where
  pub kept : AreKept old new
  pub known : (p : Places) → Contains new p → Contains old p ⊎ IsConflictAt segs p

-- once each two of `left` are settled, each two of `all` are
abbrev pub IsReduced : List Seg → Strip → List Places → List SegAt → List SegAt → Type 0
IsReduced segs strip told left all =
    (later : List Places) → AreKept told later → AreSettled segs later strip left → AreSettled segs later strip all

-- each two segments of a list, the first before the second, were tried or are clear
abbrev pub AreToldOrClear : List Seg → List Places → Type 0
AreToldOrClear segs told =
    (i j : ℕ) → i < j → j < length segs → IsTried segs told i j ⊎ (pair_at segs (record { first = i; second = j }) ≡ None)

-- the order of places: by the first, then by the second
abbrev pub places_cmp : Places → Places → Ordering
places_cmp = then_cmp (on (λ p. p.first) nat_cmp) (on (λ p. p.second) nat_cmp)
