-- Rings sorted out, with or without their crossings cut.
use Rattle.std.specs.Prelude.{◌≡◌, ◌↔◌, ◌≤◌, Bool, true, false, List, Contains, length}
use Rattle.std.specs.Ordering.{int_cmp, on}
use Rattle.lists.specs.Rising.{IsRising}
use Rattle.osm_lattice.specs.declared.loc.Loc.{Loc}
use Rattle.coast_rings.specs.declared.ring.CoastRing.{CoastRing}
use Rattle.coast_sides.specs.declared.sorted.Sorted.{Sorted}
use Rattle.coast_sides.specs.Choice.{AreChosen, outranks, rings_conflict}
use Rattle.coast_sides.specs.Land.{HaveNoConflicts}
use Rattle.coast_sides.specs.Rounds.{AreCutDown, AreRounds, conflicts_itself}
use Rattle.coast_sides.specs.Segments.{all_segments}
use Rattle.coast_sides.specs.Sorting.{AreConflicts, IsSorted}

-- the names of rings rise
abbrev pub NamesOfRingsRise : List CoastRing → Type 0
NamesOfRingsRise rings = IsRising (on (λ (r : CoastRing). r.name) int_cmp) rings

-- shortcuts are cut into the rings; of what is left the long rings are kept before the short ones; and the conflicts of the segments
-- of all rings, before any cut
pub record IsCutAndSorted (rings : List CoastRing) (sorted : Sorted) : Type 0 where
  pub left : List CoastRing
  pub cut : AreCutDown rings left sorted.cuts
  pub chosen : AreChosen left sorted.kept sorted.left_out
  pub pairs : AreConflicts (all_segments rings) sorted.pairs

-- with the crossings cut, or without
abbrev pub IsSortedWith : Bool → List CoastRing → Sorted → Type 0
IsSortedWith true rings sorted = IsCutAndSorted rings sorted
IsSortedWith false rings sorted = IsSorted rings sorted

-- ---- laws, as statements

-- rounds end: there are no more of them than locations
abbrev pub RoundsEnd : Type 0
RoundsEnd = (path : List Loc) → (rounds : List (List Loc)) × (last : List Loc) × AreRounds path rounds last × (length rounds ≤ length path)

-- rings without conflicts are sorted out alike with and without cutting
abbrev pub ClearRingsStay : Type 0
ClearRingsStay = (rings : List CoastRing) (sorted : Sorted) → HaveNoConflicts (all_segments rings) → IsSortedWith true rings sorted ↔ IsSortedWith false rings sorted

-- a ring that doesn't conflict with itself, nor with a kept ring that outranks it, is kept as it is
abbrev pub UnopposedRingsStay : Type 0
UnopposedRingsStay =
    (rings : List CoastRing) (sorted : Sorted) (ring : CoastRing) → IsSortedWith true rings sorted → Contains rings ring →
    conflicts_itself ring.path ≡ false →
    ((foe : CoastRing) → Contains sorted.kept foe → outranks foe ring ≡ true → rings_conflict foe ring ≡ false) → Contains sorted.kept ring
