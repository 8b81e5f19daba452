-- What rings are sorted out to, their land, and the water about it: each of these exists.
use Rattle.std.proofs.Common.{◌==◌, ◌%◌, true, false, List, [], ◌∷◌, ◌++◌, filter, map, not, pos, refl, ap, ◌∙◌}
use Rattle.lists.specs.Rising.{CountedListsExist, count_of}
use Rattle.lists.proofs.ListsKit.{count-picked, odd_once, picked, rising-picked}
use Rattle.osm_geom.specs.declared.edge.Edge.{Edge}
use Rattle.osm_lattice.specs.ConflictLaws.{ConflictIsSymmetric}
use Rattle.osm_lattice.specs.Loc.{loc_cmp}
use Rattle.osm_lattice.specs.OrderLaws.{LocationOrderTellsApart, SegmentOrderTellsApart}
use Rattle.osm_lattice.specs.Seg.{seg_cmp}
use Rattle.osm_lattice.specs.declared.loc.Loc.{Loc}
use Rattle.osm_lattice.specs.declared.seg.Seg.{Seg}
use Rattle.osm_segments.specs.Counts.{AreDistinct, AreSurvivors, ends_of}
use Rattle.osm_segments.specs.Pairs.{conflicts_of}
use Rattle.osm_segments.specs.Laws.{RepeatsExist}
use Rattle.osm_sides.specs.Laws.{DirectedAreWhole, DirectionsExist}
use Rattle.osm_segments.specs.Counts.{HasEvenNodes}
use Rattle.osm_sides.proofs.SidesKit.{directed_counts, directed_is_sided}
use Rattle.osm_geom.specs.InPlane.SidedLaws.{LatticeIsSided}
use Rattle.coast_rings.specs.declared.ring.CoastRing.{CoastRing}
use Rattle.coast_sides.specs.CutSorting.{RoundsEnd}
use Rattle.coast_sides.specs.ExistenceLaws.{LandExists, SortedExists, WaterExists}
use Rattle.coast_sides.specs.Land.{HaveNoConflicts, IsLand}
use Rattle.coast_sides.specs.Laws.{CancellingKeepsEven}
use Rattle.coast_sides.specs.Segments.{all_segments}
use Rattle.coast_sides.specs.Sorting.{is_left_out}
use Rattle.coast_sides.specs.Water.{AreSides, IsSide, IsWater, WaterIsClear, WaterIsEven, pieces, segments_under}
use Rattle.coast_sides.specs.WorldSides.{greater_corner, lesser_corner, on_side}
use Rattle.coast_sides.specs.WrongWays.{runs_against}
use Rattle.coast_sides.specs.declared.side_nodes.WorldSide.{WorldSide}
use Rattle.coast_sides.specs.declared.side_nodes.WorldSide.TheVariants.{East, North, South, West}
use Rattle.coast_sides.proofs.Clearing.{clear_left, left_parity, none_conflict}
use Rattle.coast_sides.proofs.Conflicts.{kept_clear}
use Rattle.coast_sides.proofs.CutDowns.{comes_from, cut_down_exists, names_still_rise}
use Rattle.coast_sides.proofs.EvenRings.{loc_cmp_total, seg_cmp_total}
use Rattle.coast_sides.proofs.KeptRings.{chosen_clear, chosen_exist, kept_by}
use Rattle.coast_sides.proofs.SideNodes.{greatest_on, is_side, least_on}
use Rattle.coast_sides.proofs.SidedSegments.{clear_sided, even_sided, plane_sided}

-- ---- counted lists

pub counted_segments : CountedListsExist seg_cmp
counted_segments q xs = (picked seg_cmp q xs, rising-picked seg_cmp_total q xs, count-picked seg_cmp_total q xs)

pub counted_places : CountedListsExist loc_cmp
counted_places q xs = (picked loc_cmp q xs, rising-picked loc_cmp_total q xs, count-picked loc_cmp_total q xs)

module _ (counted : CountedListsExist seg_cmp) where
  survivors_exist : (segs : List Seg) → (left : List Seg) × AreSurvivors segs left
  survivors_exist segs =
      let r = counted (λ n. n % 2 == 1) segs in
      (r.0, record { odd = λ s. r.2 s ∙ odd_once (count_of seg_cmp s segs); rising = r.1 })

  distinct_exist : (segs : List Seg) → (distinct : List Seg) × AreDistinct segs distinct
  distinct_exist segs = let r = counted (λ n. true) segs in (r.0, record { once = r.2; rising = r.1 })

  -- ---- rings sorted out

  pub sorted_exists : LocationOrderTellsApart → ConflictIsSymmetric → RoundsEnd → SortedExists
  sorted_exists places symmetric ends false rings =
      let segs = all_segments rings in
      let distinct = distinct_exist segs in
      let kept = filter (λ ring. not (is_left_out segs ring)) rings in (
        record { kept = kept; left_out = filter (is_left_out segs) rings; pairs = conflicts_of distinct.0; cuts = [] },
        record { left_out = refl; kept = refl; pairs = record { distinct = distinct.0; once = distinct.1; are = refl }; uncut = refl },
        λ names. kept_clear rings kept refl,
      )
  sorted_exists places symmetric ends true rings =
      let distinct = distinct_exist (all_segments rings) in
      let down = cut_down_exists places ends rings in
      let left = down.0 in
      let kept = filter (kept_by left) left in
      let left_out = filter (λ ring. not (kept_by left ring)) left in (
        record { kept = kept; left_out = left_out; pairs = conflicts_of distinct.0; cuts = down.1 },
        record { left = left; cut = down.2; chosen = chosen_exist left; pairs = record { distinct = distinct.0; once = distinct.1; are = refl } },
        λ names. chosen_clear symmetric left kept left_out (names_still_rise rings left down.1 down.2 (names refl)) (λ r c. (comes_from rings left down.1 down.2 r c).clear) (chosen_exist left),
      )

  module _ (exact : SegmentOrderTellsApart) (whole : DirectedAreWhole) (directions : DirectionsExist) where
    -- ---- land

    pub land_of_segments : (segs : List Seg) → HaveNoConflicts segs → ((left : List Seg) → AreSurvivors segs left → HasEvenNodes left) → (edges : List Edge) × IsLand segs edges
    land_of_segments segs clear even =
        let l = survivors_exist segs in
        let left = l.0 in
        let none = none_conflict left (clear_left exact segs left clear l.1) in
        let edges = (directions left).0 in
        let directed = (directions left).1 in (
          edges,
          record {
            survivors = left;
            left = l.1;
            directed = directed;
            whole = whole left edges directed;
            sided = directed_is_sided left edges l.1.rising none (even left l.1) directed;
            parity = λ q h p. directed_counts left edges l.1.rising none (even left l.1) directed q h p ∙ ap pos (left_parity exact segs left l.1 q p);
          },
        )

    pub rings_have_land : RepeatsExist → CancellingKeepsEven → LandExists
    rings_have_land repeats keeps rings clear =
        let e = land_of_segments (all_segments rings) clear (keeps rings) in
        let r = repeats (all_segments rings) in (
          record { edges = e.0; repeats = r.0; wrong_way = map (λ (ring : CoastRing). ring.name) (filter (runs_against e.0) rings) },
          record { edges = e.1; repeats = r.1; wrong_way = refl },
        )

    -- ---- water

    module _ (places : LocationOrderTellsApart) (counted_locs : CountedListsExist loc_cmp) where
      side_exists : (side : WorldSide) (land : List Seg) → (nodes : List Loc) × IsSide (on_side side) (lesser_corner side) (greater_corner side) land nodes
      side_exists side land =
          let r = counted_locs (λ n. true) (lesser_corner side ∷ (greater_corner side ∷ filter (on_side side) (ends_of land))) in
          (r.0, is_side places (on_side side) (lesser_corner side) (greater_corner side) (least_on side) (greatest_on side) land r.0 r.1 r.2)

      sides_exist : (land : List Seg) → (sides : List Seg) × AreSides land sides
      sides_exist land =
          let s = side_exists South land in
          let e = side_exists East land in
          let n = side_exists North land in
          let w = side_exists West land in (
            pieces s.0 ++ (pieces e.0 ++ (pieces n.0 ++ pieces w.0)),
            record { on_south = s.0; south = s.1; on_east = e.0; east = e.1; on_north = n.0; north = n.1; on_west = w.0; west = w.1; whole = refl },
          )

      water_of_segments : WaterIsClear → WaterIsEven → (land : List Seg) → HaveNoConflicts land → HasEvenNodes land → (edges : List Edge) × IsWater land edges
      water_of_segments clear_law even_law land clear even =
          let s = sides_exist land in
          let l = survivors_exist (land ++ s.0) in
          let left = l.0 in
          let none = clear_law land s.0 left clear s.1 l.1 in
          let even_left = even_law land s.0 left even s.1 l.1 in
          let edges = (directions left).0 in
          let directed = (directions left).1 in (
            edges,
            record {
              sides = s.0;
              are_sides = s.1;
              survivors = left;
              left = l.1;
              directed = directed;
              whole = whole left edges directed;
              sided = directed_is_sided left edges l.1.rising none even_left directed;
              parity = λ q h p. directed_counts left edges l.1.rising none even_left directed q h p ∙ ap pos (left_parity exact (land ++ s.0) left l.1 q p);
            },
          )

      pub land_has_water : ConflictIsSymmetric → LatticeIsSided → WaterIsClear → WaterIsEven → WaterExists
      land_has_water symmetric lattice clear_law even_law land all sided =
          let plane = plane_sided lattice land all sided in
          water_of_segments clear_law even_law (segments_under land) (clear_sided land all plane symmetric) (even_sided land all plane places)
