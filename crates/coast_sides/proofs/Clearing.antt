-- What is left of segments without conflicts has none.
use Rattle.std.proofs.Common.{◌≡◌, ℕ, zero, suc, ◌+◌, ◌%◌, ◌<◌, List, [], ◌∷◌, ◌++◌, length, get_or, Contains, None, Option, refl, sym, ap, ◌∙◌, arith}
use Rattle.std.specs.List.{cons_option, filter_map, sum_by}
use Rattle.std.proofs.lemmas.List.Sums.{sum_by-cons}
use Rattle.plane.specs.Vector.{Vector, east, from_to}
use Rattle.plane.specs.Edge as plane
use Rattle.plane.specs.RayCrossing.{up_crossing, down_crossing}
use Rattle.plane.specs.Scale.{scaled_edge}
use Rattle.plane_lists.specs.Lists.EdgeList.{crossing_count}
use Rattle.plane_lists.specs.Lists.ScaledEdges.{scaled_edges}
use Rattle.osm_lattice.specs.declared.seg.Seg.{Seg}
use Rattle.osm_lattice.specs.Conflict.{conflict_of}
use Rattle.osm_lattice.specs.OrderLaws.{SegmentOrderTellsApart}
use Rattle.osm_lattice.specs.Seg.{edge_of, seg_cmp}
use Rattle.lists.specs.Rising.{count_of}
use Rattle.lists.proofs.ListsKit.{count_some, count_stands}
use Rattle.osm_segments.specs.Counts.{AreSurvivors}
use Rattle.osm_segments.specs.Pairs.{conflicts_of, pair_of}
use Rattle.osm_segments.specs.declared.pairs.Pair.{Pair}
use Rattle.osm_sides.specs.Survivors.{plane_edges_of}
use Rattle.coast_sides.specs.Land.{HaveNoConflicts}
use Rattle.coast_sides.proofs.Cancelling.{odd_parity}
use Rattle.coast_sides.proofs.EvenRings.{seg_cmp_total}
use lib.IntN.{ℤ}

pub stands : SegmentOrderTellsApart → (s : Seg) (segs : List Seg) → 0 < count_of seg_cmp s segs → Contains segs s
stands exact = count_stands seg_cmp (λ s t. (exact s t).0)

pub counted : (s : Seg) (segs : List Seg) (k : ℕ) → k < length segs → get_or segs k s ≡ s → 0 < count_of seg_cmp s segs
counted = count_some seg_cmp_total

odd_some : (m n : ℕ) → m ≡ n % 2 → 0 < m → 0 < n
odd_some m zero e h = absurd (omega arith)
odd_some m (suc n) e h = omega arith

pub left_stands : SegmentOrderTellsApart → (segs survivors : List Seg) → AreSurvivors segs survivors → (s : Seg) → Contains survivors s → Contains segs s
left_stands exact segs survivors are s (k, h, e) = stands exact s segs (odd_some _ _ (are.odd s) (counted s survivors k h e))

pub clear_left : SegmentOrderTellsApart → (segs survivors : List Seg) → HaveNoConflicts segs → AreSurvivors segs survivors → HaveNoConflicts survivors
clear_left exact segs survivors clear are s t a b = clear s t (left_stands exact segs survivors are s a) (left_stands exact segs survivors are t b)

no_pair : (s t : Seg) → conflict_of s t ≡ None → pair_of s t ≡ None
unfolding pair_of
no_pair s t e = rw e refl

none_of : (s : Seg) (ts : List Seg) → ((t : Seg) → Contains ts t → conflict_of s t ≡ None) → filter_map (pair_of s) ts ≡ []
none_of s [] h = refl
none_of s (t ∷ ts) h =
    let here : pair_of s t ≡ None = no_pair s t (h t (0, omega arith, refl)) in
    let rest = none_of s ts (λ u (k, l, e). h u (suc k, omega arith, e)) in
    ap (λ (o : Option Pair). cons_option o (filter_map (pair_of s) ts)) here ∙ rest

pub none_conflict : (segs : List Seg) → HaveNoConflicts segs → conflicts_of segs ≡ []
none_conflict [] clear = refl
none_conflict (s ∷ segs) clear =
    let here = none_of s segs (λ t (k, l, e). clear s t (0, omega arith, refl) (suc k, omega arith, e)) in
    let rest = none_conflict segs (λ a b (i, h, d) (j, l, e). clear a b (suc i, omega arith, d) (suc j, omega arith, e)) in
    ap (λ ps. ps ++ conflicts_of segs) here ∙ rest

-- ---- what a ray crosses

abbrev pub crossed : ℤ → Vector → Seg → ℕ
crossed q p s = let e = scaled_edge q (edge_of s) in up_crossing east (from_to p e.from) (from_to p e.to) + down_crossing east (from_to p e.from) (from_to p e.to)

pub crossings_are : (q : ℤ) (p : Vector) (segs : List Seg) → crossing_count east p (scaled_edges q (plane_edges_of segs)) ≡ sum_by (crossed q p) segs
crossings_are q p [] = refl
crossings_are q p (s ∷ segs) =
    let rest = crossings_are q p segs in
    let one = sum_by-cons (crossed q p) s segs in
    let whole = sum_by-cons (λ (e : plane.Edge). up_crossing east (from_to p e.from) (from_to p e.to) + down_crossing east (from_to p e.from) (from_to p e.to)) (scaled_edge q (edge_of s)) (scaled_edges q (plane_edges_of segs)) in
    omega arith

pub left_parity : SegmentOrderTellsApart → (segs survivors : List Seg) → AreSurvivors segs survivors → (q : ℤ) (p : Vector) → crossing_count east p (scaled_edges q (plane_edges_of survivors)) % 2 ≡ crossing_count east p (scaled_edges q (plane_edges_of segs)) % 2
left_parity exact segs survivors are q p =
    ap (λ n. n % 2) (crossings_are q p survivors) ∙ (odd_parity seg_cmp_total (λ s t. (exact s t).0) (crossed q p) survivors segs are.odd ∙ sym (ap (λ n. n % 2) (crossings_are q p segs)))
