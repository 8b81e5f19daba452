-- What a round, all rounds, and the cutting of one ring make of a line and of what is told. No public contract cites it.
use Rattle.std.specs.Prelude.{◌≡◌, ◌<◌, ◌≤◌, ◌++◌, ℤ, Bool, false, true, List, length}
use Rattle.std.specs.List.{flat_map, list_any}
use Rattle.osm_lattice.specs.declared.loc.Loc.{Loc}
use Rattle.osm_lattice.specs.declared.seg.Seg.{Seg}
use Rattle.osm_segments.specs.declared.pairs.Pair.{Pair}
use Rattle.coast_rings.specs.declared.ring.CoastRing.{CoastRing}
use Rattle.coast_rings.specs.Round.{IsRound}
use Rattle.coast_sides.specs.declared.cut.Cut.{Cut}
use Rattle.coast_sides.specs.Rounds.{AreRounds, IsLeft, conflicts_itself, round_cuts}
use Rattle.coast_sides.specs.Segments.{all_segments, segments_round}
use Rattle.coast_sides.specs.Shortcuts.{shortened}
use Rattle.coast_sides.specs.Sorting.{AreConflicts, is_in_pair}

-- a test finds the segments of the conflicts of rings
pub record AreCrossed (rings : List CoastRing) (found : Seg → Bool) : Type 0 where
  pub pairs : List Pair
  pub conflicts : AreConflicts (all_segments rings) pairs
  pub are : (s : Seg) → found s ≡ list_any (is_in_pair s) pairs

-- a round shortens the line of a ring
pub record IsShortened (ring : ℤ) (path : List Loc) (old : List Cut) (shorter : List Loc) (new : List Cut) : Type 0 where
  pub conflicts : conflicts_itself path ≡ true
  pub is : shorter ≡ shortened path
  pub fewer : length shorter < length path
  pub round : 2 ≤ length shorter → IsRound shorter
  pub told : new ≡ old ++ round_cuts ring path

-- rounds leave this of the line of a ring
pub record IsCutLine (ring : ℤ) (path : List Loc) (old : List Cut) (last : List Loc) (new : List Cut) : Type 0 where
  pub rounds : List (List Loc)
  pub are : AreRounds path rounds last
  pub round : 2 ≤ length last → IsRound last
  pub told : new ≡ old ++ flat_map (round_cuts ring) rounds

-- where a test finds no segment of a ring, the ring doesn't conflict with itself
abbrev pub IsFoundBy : (Seg → Bool) → CoastRing → Type 0
IsFoundBy found ring = list_any found (segments_round ring.path) ≡ false → conflicts_itself ring.path ≡ false

-- what is left of a ring whose line is cut down to this is put at the end of a list
abbrev pub IsLeftBehind : CoastRing → List Loc → List CoastRing → List CoastRing → Type 0
IsLeftBehind ring path old new = (first : List CoastRing) × IsLeft ring path first × (new ≡ old ++ first)

-- and what is cut out of it, at the end of another
pub record IsCutRing (ring : CoastRing) (old_left : List CoastRing) (old : List Cut) (left : List CoastRing) (new : List Cut) : Type 0 where
  pub rounds : List (List Loc)
  pub last : List Loc
  pub are : AreRounds ring.path rounds last
  pub left_behind : IsLeftBehind ring last old_left left
  pub told : new ≡ old ++ flat_map (round_cuts ring.name) rounds
