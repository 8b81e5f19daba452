-- The conflicts of a report are of the kinds that their segments have.
use Rattle.std.proofs.Common.{◌≡◌, refl, sym, subst, get_or, if◌then◌else◌, length, Bool, true, false, ℕ, List, [], ◌∷◌, ◌++◌, All, Option, None, Some, option_map}
use Rattle.std.specs.List.{filter_map, flat_map, slice_get}
use Rattle.std.proofs.lemmas.Option.{same_Some}
use Rattle.std.proofs.lemmas.List.Elements.{All-nil, All-cons, All-append, All-map}
use Rattle.coast_join.specs.declared.chain.Chain.{Chain}
use Rattle.coast_rings.specs.declared.ring.CoastRing.{CoastRing}
use Rattle.coast_join.specs.declared.way.Aside.{Aside}
use Rattle.coast_join.specs.declared.way.Aside.TheVariants.{Missing, Short}
use Rattle.coast_sides.specs.CutSorting.{IsSortedWith}
use Rattle.coast_sides.specs.Segments.{all_segments}
use Rattle.coast_sides.specs.Sorting.{AreConflicts}
use Rattle.coast_sides.specs.declared.sorted.Sorted.{Sorted}
use Rattle.osm_lattice.specs.declared.seg.Seg.{Seg}
use Rattle.osm_text.specs.Coast.{HasItsKind}
use Rattle.osm_text.specs.declared.coast.CoastLine.{CoastLine}
use Rattle.osm_text.specs.declared.coast.CoastLine.TheVariants as line
use Rattle.osm_segments.specs.Pairs.{IsPairOfItsKind}
use Rattle.osm_segments.proofs.SegmentsKit.{conflicts_of_kind}
use Rattle.job_coastline.specs.Coast.{Coast}
use Rattle.osm_nest.specs.declared.polygon.Polygon.{Polygon}
use Rattle.osm_text.specs.Piece.{vanished_in}
use Rattle.job_coastline.specs.Coastline.{all_lines}
use Rattle.job_coastline.specs.Pieces.{Tile, large_lines, tile_lines, vanished_line, vanished_lines}
use Rattle.job_coastline.specs.Report.{antarctica_line, aside_line, coast_lines, conflict_line, cut_line, gap_line, gap_line_between, left_out_line, repeated_line, unclosed_line, wrong_way_line}

-- ---- lines of one thing

aside_of_kind : (aside : Aside) → HasItsKind (aside_line aside)
aside_of_kind (Missing way node) = tt
aside_of_kind (Short way) = tt

listed_first : {X : Type 0} (f : X → Option CoastLine) (x : X) (xs : List X) (found : Option CoastLine) → f x ≡ found → ((l : CoastLine) → f x ≡ Some l → HasItsKind l) → All HasItsKind (filter_map f xs) → All HasItsKind (filter_map f (x ∷ xs))
listed_first f x xs None is kind all = rw is all
listed_first f x xs (Some l) is kind all = rw is (All-cons HasItsKind l (filter_map f xs) (kind l is) all)

listed_of_kind : {X : Type 0} (f : X → Option CoastLine) (xs : List X) → ((x : X) (l : CoastLine) → f x ≡ Some l → HasItsKind l) → All HasItsKind (filter_map f xs)
listed_of_kind f [] kind = All-nil HasItsKind
listed_of_kind f (x ∷ xs) kind = listed_first f x xs (f x) refl (kind x) (listed_of_kind f xs kind)

antarctica_of_kind : (chains : List Chain) (place : ℕ) (l : CoastLine) → antarctica_line chains place ≡ Some l → HasItsKind l
antarctica_of_kind chains place l is = by (slice_get chains place) is
  where
    by : (found : Option Chain) → option_map (λ (chain : Chain). line.Antarctica chain.name) found ≡ Some l → HasItsKind l
    by None is = absurd (cc)
    by (Some chain) is = subst HasItsKind (same_Some _ _ is) tt

between_of_kind : (from to : Option Chain) (l : CoastLine) → gap_line_between from to ≡ Some l → HasItsKind l
between_of_kind (Some from) (Some to) l is = subst HasItsKind (same_Some _ _ is) tt
between_of_kind (Some from) None l is = absurd (cc)
between_of_kind None to l is = absurd (cc)

-- ---- all of them

-- with crossings cut or without, the conflicts are told
pub pairs_told : (cut : Bool) (rings : List CoastRing) (sorted : Sorted) → IsSortedWith cut rings sorted → AreConflicts (all_segments rings) sorted.pairs
pairs_told true rings sorted is = is.pairs
pairs_told false rings sorted is = is.pairs

pub lines_of_kind : (segs : List Seg) (coast : Coast) → AreConflicts segs coast.sorted.pairs → All HasItsKind (coast_lines coast)
lines_of_kind segs coast conflicts =
    both _ _ (All-map HasItsKind aside_line coast.asides (λ k d lt. aside_of_kind (get_or coast.asides k d)))
    (both _ _ (listed_of_kind (antarctica_line coast.chains) coast.closings.antarctica (antarctica_of_kind coast.chains))
    (both _ _ (listed_of_kind (gap_line coast.chains) coast.closings.gaps (λ gap l is. between_of_kind (slice_get coast.chains gap.from_chain) (slice_get coast.chains gap.to_chain) l is))
    (both _ _ (All-map HasItsKind unclosed_line coast.joined.unclosed (λ k d lt. tt))
    (both _ _ (All-map HasItsKind cut_line coast.sorted.cuts (λ k d lt. tt))
    (both _ _ (All-map HasItsKind left_out_line coast.sorted.left_out (λ k d lt. tt))
    (both _ _ (All-map HasItsKind conflict_line coast.sorted.pairs (subst (All IsPairOfItsKind) (sym conflicts.are) (conflicts_of_kind conflicts.distinct)))
    (both _ _ (All-map HasItsKind repeated_line coast.land.repeats (λ k d lt. tt))
    (All-map HasItsKind wrong_way_line coast.land.wrong_way (λ k d lt. tt)))))))))
  where
    both : (xs ys : List CoastLine) → All HasItsKind xs → All HasItsKind ys → All HasItsKind (xs ++ ys)
    both xs ys h k = All-append HasItsKind xs ys h k

-- ---- those of leaves

large_of_kind : (points : ℕ) (large : Bool) → All HasItsKind (if large then line.Large points ∷ [] else [])
large_of_kind points true = All-cons HasItsKind (line.Large points) [] tt (All-nil HasItsKind)
large_of_kind points false = All-nil HasItsKind

vanished_of_kind : (polygons : List Polygon) → All HasItsKind (flat_map vanished_lines polygons)
vanished_of_kind [] = All-nil HasItsKind
vanished_of_kind (polygon ∷ polygons) =
    All-append HasItsKind (vanished_lines polygon) (flat_map vanished_lines polygons) (All-map HasItsKind vanished_line (vanished_in polygon) (λ k d lt. tt)) (vanished_of_kind polygons)

pub tiles_of_kind : (tiles : List Tile) → All HasItsKind (flat_map tile_lines tiles)
tiles_of_kind [] = All-nil HasItsKind
tiles_of_kind (tile ∷ tiles) =
    All-append HasItsKind (tile_lines tile) (flat_map tile_lines tiles)
    (All-append HasItsKind (large_lines tile.leaf) (flat_map vanished_lines tile.polygons) (large_of_kind (length tile.leaf.edges) tile.leaf.large) (vanished_of_kind tile.polygons))
    (tiles_of_kind tiles)

pub all_of_kind : (segs : List Seg) (coast : Coast) → AreConflicts segs coast.sorted.pairs → (land water : List Tile) → All HasItsKind (all_lines coast land water)
all_of_kind segs coast conflicts land water =
    All-append HasItsKind (coast_lines coast) (flat_map tile_lines land ++ flat_map tile_lines water) (lines_of_kind segs coast conflicts)
    (All-append HasItsKind (flat_map tile_lines land) (flat_map tile_lines water) (tiles_of_kind land) (tiles_of_kind water))
