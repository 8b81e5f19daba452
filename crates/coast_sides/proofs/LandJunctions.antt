-- The junctions of land: elsewhere one edge comes to a location, and rings run along edges or against them.
use Rattle.std.proofs.Common.{◌≡◌, ◌≢◌, ◌⊎◌, ⊎_elim, inl, inr, ℕ, ◌+◌, ◌%◌, ◌<◌, ◌≤◌, ◌||◌, Bool, true, false, cond, nat_le, List, [], ◌∷◌, All, Contains, Some, None, Option, refl, sym, ap, subst, ◌∙◌, arith}
use Rattle.std.specs.declared.cmp.Ordering.{Ordering}
use Rattle.std.specs.declared.cmp.Ordering.TheVariants.{Less, Equal, Greater}
use Rattle.std.specs.List.{list_any, sum_by}
use Rattle.std.specs.List.Sorted.{IsSorted}
use Rattle.std.proofs.lemmas.Bool.{cases_lt, false≢true, or_right}
use Rattle.std.proofs.lemmas.Bool.Decides.{nat_tests}
use Rattle.std.proofs.lemmas.List.Sums.{sum_by-cons}
use Rattle.plane.specs.Bit.{bit}
use Rattle.plane.specs.Edge as plane
use Rattle.plane.specs.Vector.{one_at}
use Rattle.lists.specs.Rising.{IsRising, count_of}
use Rattle.osm_geom.specs.declared.edge.Edge.{Edge}
use Rattle.osm_geom.specs.declared.point.Point.{Point}
use Rattle.osm_geom.specs.declared.point.Point.TheVariants.{Lattice}
use Rattle.osm_geom.specs.InPlane.Multiple.{edge_times, edges_times, point_times}
use Rattle.osm_geom.specs.InPlane.SidedLaws.{LatticeIsSided}
use Rattle.osm_geom.specs.WholeSegment.{IsWholeSegment}
use Rattle.osm_lattice.specs.declared.loc.Loc.{Loc}
use Rattle.osm_lattice.specs.declared.seg.Seg.{Seg}
use Rattle.osm_lattice.specs.Loc.{loc_cmp, vector_of}
use Rattle.osm_lattice.specs.OrderLaws.{LocationOrderTellsApart, SegmentOrderTellsApart}
use Rattle.osm_lattice.specs.Seg.{seg_cmp, segment_between}
use Rattle.osm_segments.specs.Counts.{AreSurvivors, ends_of}
use Rattle.osm_segments.specs.Repeats.{AreRepeats, segs_of}
use Rattle.osm_segments.specs.declared.counts.Repeat.{Repeat}
use Rattle.coast_rings.specs.declared.ring.CoastRing.{CoastRing}
use Rattle.coast_sides.specs.Junctions.{AllRunOn, AreJunctions, is_one_of}
use Rattle.coast_sides.specs.Land.{IsLand}
use Rattle.coast_sides.specs.Segments.{all_segments, segments_round, steps_round}
use Rattle.coast_sides.specs.Water.{segments_under}
use Rattle.coast_sides.specs.WrongWays.{runs_between}
use Rattle.coast_sides.proofs.AllOne.{told_by_counts}
use Rattle.coast_sides.proofs.Clearing.{counted, stands}
use Rattle.coast_sides.proofs.ClearWater.{first_stands, second_stands}
use Rattle.coast_sides.proofs.Covering.{along_land}
use Rattle.coast_sides.proofs.EvenRings.{ends_are, ends_at}
use Rattle.coast_sides.proofs.RingDirections.{edge_ends, ends_between, no_segment, runs_on}
use Rattle.coast_sides.proofs.SidedSegments.{all_ends, along_more, later, lattice_point, plane_sided, same_point-refl}
use Rattle.coast_sides.proofs.SomeMember.{filter_map_has, flat_map_has, member_cases, no_member}

-- ---- edges that come to a location

abbrev comes_to : Loc → plane.Edge → ℕ
comes_to r e = one_at (vector_of r) e.to

module _ (exact : LocationOrderTellsApart) (r : Loc) where
  one_comes_with : (p : Loc) (e : Edge) → runs_between p r e ≡ true → comes_to r (edge_times 1 e) ≡ 1
  one_comes_with p e runs =
      ap (λ (x : Point). one_at (vector_of r) (point_times 1 x)) (edge_ends exact p r e runs).1 ∙ (ap (one_at (vector_of r)) (lattice_point r) ∙ ap bit (same_point-refl (vector_of r)))

  sum_more : (e : Edge) (es : List Edge) → sum_by (comes_to r) (edges_times 1 (e ∷ es)) ≡ comes_to r (edge_times 1 e) + sum_by (comes_to r) (edges_times 1 es)
  sum_more e es = sum_by-cons (comes_to r) (edge_times 1 e) (edges_times 1 es)

  some_come : (p : Loc) (es : List Edge) → list_any (runs_between p r) es ≡ true → 1 ≤ sum_by (comes_to r) (edges_times 1 es)
  some_come p [] any = absurd (false≢true any)
  some_come p (e ∷ es) any = by (runs_between p r e) refl any (some_come p es)
    where
      by : (b : Bool) → runs_between p r e ≡ b → (b || list_any (runs_between p r) es) ≡ true → (list_any (runs_between p r) es ≡ true → 1 ≤ sum_by (comes_to r) (edges_times 1 es)) → 1 ≤ sum_by (comes_to r) (edges_times 1 (e ∷ es))
      by true runs _ more = let one = one_comes_with p e runs in let all = sum_more e es in omega arith
      by false runs any more = let rest = more any in let all = sum_more e es in omega arith

  two_come : (p q : Loc) → p ≢ q → (es : List Edge) → list_any (runs_between p r) es ≡ true → list_any (runs_between q r) es ≡ true → 2 ≤ sum_by (comes_to r) (edges_times 1 es)
  two_come p q apart [] first second = absurd (false≢true first)
  two_come p q apart (e ∷ es) first second = by (runs_between p r e) (runs_between q r e) refl refl first second (two_come p q apart es)
    where
      by : (b c : Bool) → runs_between p r e ≡ b → runs_between q r e ≡ c → (b || list_any (runs_between p r) es) ≡ true → (c || list_any (runs_between q r) es) ≡ true
          → (list_any (runs_between p r) es ≡ true → list_any (runs_between q r) es ≡ true → 2 ≤ sum_by (comes_to r) (edges_times 1 es)) → 2 ≤ sum_by (comes_to r) (edges_times 1 (e ∷ es))
      by true true runs other _ _ more = let same : p ≡ q = from_one p q (sym (edge_ends exact p r e runs).0 ∙ (edge_ends exact q r e other).0) in absurd (apart same)
        where
          from_one : (x y : Loc) → Lattice x ≡ Lattice y → x ≡ y
          from_one x y h = cc h
      by true false runs other _ any more = let one = one_comes_with p e runs in let rest = some_come q es any in let all = sum_more e es in omega arith
      by false true runs other any _ more = let one = one_comes_with q e other in let rest = some_come p es any in let all = sum_more e es in omega arith
      by false false runs other any any_2 more = let rest = more any any_2 in let all = sum_more e es in omega arith

-- ---- an edge along a segment

along_some : (es : List Edge) → All IsWholeSegment es → (s : Seg) → Contains (segments_under es) s → (list_any (runs_between s.a s.b) es ≡ true) ⊎ (list_any (runs_between s.b s.a) es ≡ true)
along_some [] whole s c = absurd (no_member s c)
along_some (e ∷ es) whole s c =
    let w = whole 0 e (omega arith) in
    ⊎_elim
    (λ (h : w.segment ≡ s). subst (λ (t : Seg). (list_any (runs_between t.a t.b) (e ∷ es) ≡ true) ⊎ (list_any (runs_between t.b t.a) (e ∷ es) ≡ true)) h (first w))
    (λ (d : Contains (segments_under es) s). ⊎_elim (λ k. inl (rest s.a s.b k)) (λ k. inr (rest s.b s.a k)) (along_some es (later e es whole) s d))
    (member_cases w.segment s (segments_under es) (subst (λ (ss : List Seg). Contains ss s) (along_more e es w) c))
  where
    first : (w : IsWholeSegment e) → (list_any (runs_between w.segment.a w.segment.b) (e ∷ es) ≡ true) ⊎ (list_any (runs_between w.segment.b w.segment.a) (e ∷ es) ≡ true)
    first w = ⊎_elim (λ k. inl (ap (λ (b : Bool). b || list_any (runs_between w.segment.a w.segment.b) es) k)) (λ k. inr (ap (λ (b : Bool). b || list_any (runs_between w.segment.b w.segment.a) es) k)) (runs_on e w)

    rest : (p q : Loc) → list_any (runs_between p q) es ≡ true → list_any (runs_between p q) (e ∷ es) ≡ true
    rest p q k = or_right (runs_between p q e) (list_any (runs_between p q) es) k

-- ---- of land

survivors_one : SegmentOrderTellsApart → (segs a b : List Seg) → AreSurvivors segs a → AreSurvivors segs b → a ≡ b
survivors_one exact segs a b s t = told_by_counts exact a b s.rising t.rising (λ z. s.odd z ∙ sym (t.odd z))

module _ (places : LocationOrderTellsApart) (exact : SegmentOrderTellsApart) (segs left : List Seg) (are : AreSurvivors segs left) (edges : List Edge) (land : IsLand segs edges) (nodes : List Loc) where
  under : segments_under edges ≡ left
  under = along_land segs edges land ∙ survivors_one exact segs land.survivors left land.left are

  pub land_junctions : LatticeIsSided → IsSorted loc_cmp nodes → ((p : Loc) → 2 < count_of loc_cmp p (ends_of left) → is_one_of nodes p ≡ true) → AreJunctions edges nodes
  land_junctions law sorted busy = record {
    whole = land.whole;
    rising = subst (IsRising seg_cmp) (sym under) are.rising;
    sorted = sorted;
    one_comes = λ p q r first second plain. by p q r first second plain (loc_cmp p q) refl;
  }
    where
      many : (p q r : Loc) → p ≢ q → list_any (runs_between p r) edges ≡ true → list_any (runs_between q r) edges ≡ true → is_one_of nodes r ≡ false → ⊥
      many p q r apart first second plain =
          let come = two_come places r p q apart edges first second in
          let all = all_ends places r edges land.whole in
          let same = (plane_sided law edges land.whole land.sided).balanced (vector_of r) in
          let ends = ends_are r left in
          let runs = ap (sum_by (ends_at r)) under in
          false≢true (sym plain ∙ busy r (omega arith))

      by : (p q r : Loc) → list_any (runs_between p r) edges ≡ true → list_any (runs_between q r) edges ≡ true → is_one_of nodes r ≡ false → (o : Ordering) → loc_cmp p q ≡ o → p ≡ q
      by p q r first second plain Equal e = (places p q).0 e
      by p q r first second plain Less e = absurd (many p q r (λ same. let tied : loc_cmp p q ≡ Equal = (places p q).1 same in cc) first second plain)
      by p q r first second plain Greater e = absurd (many p q r (λ same. let tied : loc_cmp p q ≡ Equal = (places p q).1 same in cc) first second plain)

  -- a segment that occurs once is left, and an edge runs along it
  runs_once : (s : Seg) → count_of seg_cmp s segs ≡ 1 → (list_any (runs_between s.a s.b) edges ≡ true) ⊎ (list_any (runs_between s.b s.a) edges ≡ true)
  runs_once s once =
      let odd = are.odd s in
      let one : count_of seg_cmp s left ≡ 1 = odd ∙ ap (λ n. n % 2) once in
      along_some edges land.whole s (subst (λ (ss : List Seg). Contains ss s) (sym under) (stands exact s left (omega arith)))

pub land_runs_on : LocationOrderTellsApart → SegmentOrderTellsApart → (rings : List CoastRing) (left : List Seg) → AreSurvivors (all_segments rings) left → (repeats : List Repeat) → AreRepeats (all_segments rings) repeats → (edges : List Edge) → IsLand (all_segments rings) edges
    → (nodes : List Loc) → ((p : Loc) → Contains (ends_of (segs_of repeats)) p → is_one_of nodes p ≡ true) → AllRunOn edges nodes rings
land_runs_on places exact rings left are repeats told edges land nodes repeated ring member p q step moves plain = by (segment_between p q) refl
  where
    Runs : Type 0
    Runs = (list_any (runs_between p q) edges ≡ true) ⊎ (list_any (runs_between q p) edges ≡ true)

    of_segment : (s : Seg) → segment_between p q ≡ Some s → Runs
    of_segment s is = ⊎_elim
        (λ (h : (s.a ≡ p) × (s.b ≡ q)). subst (λ (x : Loc). (list_any (runs_between x q) edges ≡ true) ⊎ (list_any (runs_between q x) edges ≡ true)) h.0 (subst (λ (y : Loc). (list_any (runs_between s.a y) edges ≡ true) ⊎ (list_any (runs_between y s.a) edges ≡ true)) h.1 runs))
        (λ (h : (s.a ≡ q) × (s.b ≡ p)). ⊎_elim inr inl (subst (λ (x : Loc). (list_any (runs_between x p) edges ≡ true) ⊎ (list_any (runs_between p x) edges ≡ true)) h.0 (subst (λ (y : Loc). (list_any (runs_between s.a y) edges ≡ true) ⊎ (list_any (runs_between y s.a) edges ≡ true)) h.1 runs)))
        (ends_between p q s is)
      where
        inside : Contains (all_segments rings) s
        inside = flat_map_has (λ (r : CoastRing). segments_round r.path) rings ring s member (filter_map_has (λ (t : Loc × Loc). segment_between t.0 t.1) (steps_round ring.path) (p, q) s step is)

        some : 0 < count_of seg_cmp s (all_segments rings)
        some = counted s (all_segments rings) inside.0 inside.1 inside.2

        -- one that occurs repeatedly ends at nodes
        never : 2 ≤ count_of seg_cmp s (all_segments rings) → ⊥
        never twice =
            let test : nat_le 2 (count_of seg_cmp s (all_segments rings)) ≡ true = grind (arith, nat_tests) in
            let yes : count_of seg_cmp s (segs_of repeats) ≡ 1 = told.twice s ∙ ap (λ (b : Bool). cond {A = ℕ} b 1 0) test in
            let there = stands exact s (segs_of repeats) (omega arith) in
            ⊎_elim
            (λ (h : (s.a ≡ p) × (s.b ≡ q)). false≢true (sym plain ∙ subst (λ (x : Loc). is_one_of nodes x ≡ true) h.1 (repeated s.b (second_stands (segs_of repeats) s there.0 there.1 there.2))))
            (λ (h : (s.a ≡ q) × (s.b ≡ p)). false≢true (sym plain ∙ subst (λ (x : Loc). is_one_of nodes x ≡ true) h.0 (repeated s.a (first_stands (segs_of repeats) s there.0 there.1 there.2))))
            (ends_between p q s is)

        once : count_of seg_cmp s (all_segments rings) ≡ 1
        once = ⊎_elim (λ (l : count_of seg_cmp s (all_segments rings) < 2). let h = some in omega arith) (λ (l : 2 ≤ count_of seg_cmp s (all_segments rings)). absurd (never l)) (cases_lt (count_of seg_cmp s (all_segments rings)) 2)

        runs : (list_any (runs_between s.a s.b) edges ≡ true) ⊎ (list_any (runs_between s.b s.a) edges ≡ true)
        runs = runs_once places exact (all_segments rings) left are edges land nodes s once

    by : (o : Option Seg) → segment_between p q ≡ o → Runs
    by (Some s) is = of_segment s is
    by None is = absurd (moves (no_segment places p q is))
