-- What rings are sorted out to, their land, and the water about it: there is one of each.
use Rattle.std.proofs.Common.{◌≡◌, ◌⊎◌, ⊎_elim, ℕ, zero, suc, ◌-◌, ◌%◌, ◌<◌, ◌≤◌, Bool, true, false, List, ◌++◌, Contains, filter, length, map, refl, sym, ap, subst, ◌∙◌, arith}
use Rattle.std.specs.declared.cmp.Ordering.{Ordering}
use Rattle.std.specs.declared.cmp.Ordering.TheVariants.{Equal}
use Rattle.std.specs.Cmp.{IsTotalOrder}
use Rattle.std.proofs.lemmas.Cmp.{tied_itself}
use Rattle.std.proofs.lemmas.List.{get_or_default}
use Rattle.std.proofs.lemmas.List.Elements.{All-contains}
use Rattle.lists.specs.Rising.{IsRising, count_of}
use Rattle.lists.proofs.ListsKit.{count_some, count_stands, same_rising, stands_once}
use Rattle.osm_geom.specs.declared.edge.Edge.{Edge}
use Rattle.osm_lattice.specs.OrderLaws.{LocationOrderTellsApart, SegmentOrderTellsApart}
use Rattle.osm_lattice.specs.Seg.{seg_cmp}
use Rattle.osm_lattice.specs.declared.loc.Loc.{Loc}
use Rattle.osm_lattice.specs.declared.seg.Seg.{Seg}
use Rattle.osm_segments.specs.Counts.{ends_of}
use Rattle.osm_segments.specs.Pairs.{conflicts_of}
use Rattle.osm_segments.specs.Laws.{RepeatsAreOne}
use Rattle.osm_segments.specs.declared.pairs.Pair.{Pair}
use Rattle.osm_sides.specs.Directions.{AreDirected}
use Rattle.osm_sides.specs.Laws.{DirectionsAreOne}
use Rattle.coast_rings.specs.declared.ring.CoastRing.{CoastRing}
use Rattle.coast_rings.specs.Line.{origin}
use Rattle.coast_sides.specs.Choice.{AreChosen}
use Rattle.coast_sides.specs.Land.{IsLand}
use Rattle.coast_sides.specs.OnenessLaws.{LandIsOne, SortedIsOne, WaterIsOne}
use Rattle.coast_sides.specs.Segments.{all_segments}
use Rattle.coast_sides.specs.Sorting.{AreConflicts}
use Rattle.coast_sides.specs.Water.{AreSides, IsSide, is_east, is_north, is_south, is_west, north_east, north_west, pieces}
use Rattle.coast_sides.specs.WrongWays.{runs_against}
use Rattle.coast_rings.specs.Corners.{south_east, south_west}
use Rattle.coast_sides.proofs.CutDowns.{cut_down_one}
use Rattle.coast_sides.proofs.EvenRings.{loc_cmp_total, seg_cmp_total}
use Rattle.coast_sides.proofs.KeptRings.{chosen_one}

-- ---- lists in strict order with the same members

module _ {X : Type 0} {R : X → X → Ordering} (total : IsTotalOrder R) (exact : (x y : X) → R x y ≡ Equal → x ≡ y) where
  counts_agree : (m n : ℕ) → (0 < m → 0 < n) → (0 < n → 0 < m) → m ≤ 1 → n ≤ 1 → m ≡ n
  counts_agree zero zero there back h l = refl
  counts_agree zero (suc n) there back h l = let c = back (omega arith) in absurd (omega arith)
  counts_agree (suc m) zero there back h l = let c = there (omega arith) in absurd (omega arith)
  counts_agree (suc m) (suc n) there back h l = omega arith

  same_members : (xs ys : List X) → IsRising R xs → IsRising R ys → ((x : X) → Contains xs x → Contains ys x) → ((x : X) → Contains ys x → Contains xs x) → xs ≡ ys
  same_members xs ys up down there back = same_rising total exact xs ys up down (λ z.
      counts_agree (count_of R z xs) (count_of R z ys)
      (λ h. let c = there z (count_stands R exact z xs h) in count_some total z ys c.0 c.1 c.2)
      (λ h. let c = back z (count_stands R exact z ys h) in count_some total z xs c.0 c.1 c.2)
      (stands_once (tied_itself total) exact z xs up) (stands_once (tied_itself total) exact z ys down))

-- ---- the sides of the world

side_holds : (on : Loc → Bool) (from to : Loc) (land : List Seg) (a b : List Loc) → IsSide on from to land a → IsSide on from to land b → (p : Loc) → Contains a p → Contains b p
side_holds on from to land a b s t p c =
    let some = t.some in
    let first : Contains b from = (0, some, sym (get_or_default b 0 origin from some) ∙ t.begins) in
    let last : Contains b to = (length b - 1, omega arith, sym (get_or_default b (length b - 1) origin to (omega arith)) ∙ t.ends) in
    ⊎_elim
    (λ corner. ⊎_elim (λ (e : p ≡ from). subst (Contains b) (sym e) first) (λ (e : p ≡ to). subst (Contains b) (sym e) last) corner)
    (λ node. t.cut p (All-contains (λ q. on q ≡ true) a p s.within c) node)
    (All-contains (λ q. ((q ≡ from) ⊎ (q ≡ to)) ⊎ Contains (ends_of land) q) a p s.only c)

side_one : LocationOrderTellsApart → (on : Loc → Bool) (from to : Loc) (land : List Seg) (a b : List Loc) → IsSide on from to land a → IsSide on from to land b → a ≡ b
side_one exact on from to land a b s t =
    same_members loc_cmp_total (λ p q. (exact p q).0) a b s.rising t.rising (side_holds on from to land a b s t) (side_holds on from to land b a t s)

sides_one : LocationOrderTellsApart → (land a b : List Seg) → AreSides land a → AreSides land b → a ≡ b
sides_one exact land a b s t =
    let south = ap pieces (side_one exact is_south south_west south_east land s.on_south t.on_south s.south t.south) in
    let east = ap pieces (side_one exact is_east south_east north_east land s.on_east t.on_east s.east t.east) in
    let north = ap pieces (side_one exact is_north north_west north_east land s.on_north t.on_north s.north t.north) in
    let west = ap pieces (side_one exact is_west south_west north_west land s.on_west t.on_west s.west t.west) in
    s.whole ∙ ((λ i. south i ++ (east i ++ (north i ++ west i))) ∙ sym t.whole)

-- ---- what is sorted out, land and water

module _ (exact : SegmentOrderTellsApart) where
  pub told_by_counts : (a b : List Seg) → IsRising seg_cmp a → IsRising seg_cmp b → ((s : Seg) → count_of seg_cmp s a ≡ count_of seg_cmp s b) → a ≡ b
  told_by_counts = same_rising seg_cmp_total (λ s t. (exact s t).0)

  conflicts_one : (segs : List Seg) (a b : List Pair) → AreConflicts segs a → AreConflicts segs b → a ≡ b
  conflicts_one segs a b s t =
      let distinct = told_by_counts s.distinct t.distinct s.once.rising t.once.rising (λ z. s.once.once z ∙ sym (t.once.once z)) in
      s.are ∙ (ap conflicts_of distinct ∙ sym t.are)

  pub sorted_one : SortedIsOne
  sorted_one false rings a b s t =
      let kept = s.kept ∙ sym t.kept in
      let left = s.left_out ∙ sym t.left_out in
      let pairs = conflicts_one (all_segments rings) a.pairs b.pairs s.pairs t.pairs in
      let cuts = s.uncut ∙ sym t.uncut in
      λ i. record { kept = kept i; left_out = left i; pairs = pairs i; cuts = cuts i }
  sorted_one true rings a b s t =
      let down = cut_down_one rings s.left t.left a.cuts b.cuts s.cut t.cut in
      let chosen = chosen_one t.left a.kept a.left_out b.kept b.left_out (subst (λ (rs : List CoastRing). AreChosen rs a.kept a.left_out) down.0 s.chosen) t.chosen in
      let pairs = conflicts_one (all_segments rings) a.pairs b.pairs s.pairs t.pairs in
      λ i. record { kept = chosen.0 i; left_out = chosen.1 i; pairs = pairs i; cuts = down.1 i }

  module _ (directions : DirectionsAreOne) where
    land_edges_one : (segs : List Seg) (a b : List Edge) → IsLand segs a → IsLand segs b → a ≡ b
    land_edges_one segs a b s t =
        let left = told_by_counts s.survivors t.survivors s.left.rising t.left.rising (λ z. s.left.odd z ∙ sym (t.left.odd z)) in
        directions t.survivors a b (subst (λ (l : List Seg). AreDirected l a) left s.directed) t.directed

    pub land_one : RepeatsAreOne → LandIsOne
    land_one repeats_one rings a b s t =
        let segs = all_segments rings in
        let edges = land_edges_one segs a.edges b.edges s.edges t.edges in
        let repeats = repeats_one segs a.repeats b.repeats s.repeats t.repeats in
        let wrong = s.wrong_way ∙ (ap (λ (es : List Edge). map (λ (ring : CoastRing). ring.name) (filter (runs_against es) rings)) edges ∙ sym t.wrong_way) in
        λ i. record { edges = edges i; repeats = repeats i; wrong_way = wrong i }

    pub water_one : LocationOrderTellsApart → WaterIsOne
    water_one places land a b s t =
        let sides = sides_one places land s.sides t.sides s.are_sides t.are_sides in
        let left = told_by_counts s.survivors t.survivors s.left.rising t.left.rising (λ z. s.left.odd z ∙ (ap (λ (ss : List Seg). count_of seg_cmp z (land ++ ss) % 2) sides ∙ sym (t.left.odd z))) in
        directions t.survivors a b (subst (λ (l : List Seg). AreDirected l a) left s.directed) t.directed
