-- What is left of land and the sides of the world.
use Rattle.std.proofs.Common.{◌≡◌, ℕ, ℤ, pos, neg_ℤ, ◌+◌, ◌*◌, ◌%◌, ◌<ℤ◌, ◌+ℤ◌, ◌-ℤ◌, ◌*ℤ◌, Bool, true, false, not, ◌&&◌, eqb, List, [], ◌∷◌, ◌++◌, refl, sym, ap, ◌∙◌, arith}
use Rattle.std.specs.List.{sum_by}
use Rattle.std.proofs.lemmas.Bool.{and_right, eqb-true}
use Rattle.std.proofs.lemmas.Int.{ints}
use Rattle.std.proofs.lemmas.List.Sums.{sum_by-append, sum_by-cons}
use Rattle.plane.specs.Bit.{bit}
use Rattle.plane.specs.Edge as plane
use Rattle.plane.specs.Height.{is_in_span, is_left_of}
use Rattle.plane.specs.RayCrossing.{down_crossing, up_crossing}
use Rattle.plane.specs.Sign.{Sign, is_minus, is_plus, negated, sign}
use Rattle.plane.specs.Vector.{Vector, east, from_to, orient}
use Rattle.lists.proofs.ListsKit.{int_eq-true}
use Rattle.plane.proofs.PlaneKit.{rightward_crossing, rise-y}
use Rattle.plane.proofs.SignKit.{agree, all4-out, imp, imp-out, minus-is, not-minus-by, plus-is, sign-*, sign-reversed, times}
use Rattle.plane_lists.specs.Lists.EdgeList.{crossing_count}
use Rattle.osm_lattice.specs.declared.loc.Loc.{Loc}
use Rattle.osm_lattice.specs.declared.seg.Seg.{Seg}
use Rattle.osm_lattice.specs.Loc.{loc_cmp, vector_of}
use Rattle.osm_lattice.specs.Seg.{edge_of}
use Rattle.osm_lattice.specs.OrderLaws.{LocationOrderTellsApart, SegmentOrderTellsApart}
use Rattle.osm_lattice.proofs.LatticeKit.{rising_edge}
use Rattle.lists.specs.Rising.{count_of}
use Rattle.osm_segments.specs.Counts.{AreSurvivors}
use Rattle.osm_segments.specs.Counts.{HasEvenNodes}
use Rattle.osm_sides.specs.Survivors.{plane_edges_of}
use Rattle.coast_rings.specs.Corners.{south_east, south_west}
use Rattle.coast_rings.specs.Line.{last_location}
use Rattle.coast_sides.specs.Water.{AreSides, IsInsideWorld, IsSide, is_east, is_north, is_south, is_west, north_east, north_west, pieces}
use Rattle.coast_sides.proofs.Cancelling.{odd_parity}
use Rattle.coast_sides.proofs.EvenRings.{ends_are, ends_at, one, seg_cmp_total, survivors_even}
use Rattle.coast_sides.proofs.Pieces.{fall, piece_ends}

-- ---- even at each location

side_ends : (p : Loc) (on : Loc → Bool) (from to : Loc) (land : List Seg) (nodes : List Loc) → IsSide on from to land nodes → (k : ℕ) × (sum_by (ends_at p) (pieces nodes) + one p from + one p to ≡ 2 * k)
side_ends p on from to land [] side = let s = side.some in absurd (omega arith)
side_ends p on from to land (a ∷ r) side =
    let e = piece_ends p a r side.rising in
    let f : one p a ≡ one p from = ap (one p) side.begins in
    let l : one p (last_location (a ∷ r)) ≡ one p to = ap (one p) side.ends in
    (count_of loc_cmp p (a ∷ r), omega arith)

pub sides_even : (p : Loc) (land sides : List Seg) → AreSides land sides → sum_by (ends_at p) sides % 2 ≡ 0
sides_even p land sides are =
    let s = side_ends p is_south south_west south_east land are.on_south are.south in
    let e = side_ends p is_east south_east north_east land are.on_east are.east in
    let n = side_ends p is_north north_west north_east land are.on_north are.north in
    let w = side_ends p is_west south_west north_west land are.on_west are.west in
    let a = sum_by-append (ends_at p) (pieces are.on_south) (pieces are.on_east ++ (pieces are.on_north ++ pieces are.on_west)) in
    let b = sum_by-append (ends_at p) (pieces are.on_east) (pieces are.on_north ++ pieces are.on_west) in
    let c = sum_by-append (ends_at p) (pieces are.on_north) (pieces are.on_west) in
    let whole = ap (sum_by (ends_at p)) are.whole in
    parity (sum_by (ends_at p) sides) (sum_by (ends_at p) (pieces are.on_south)) (sum_by (ends_at p) (pieces are.on_east)) (sum_by (ends_at p) (pieces are.on_north)) (sum_by (ends_at p) (pieces are.on_west))
    (one p south_west) (one p south_east) (one p north_east) (one p north_west) s.0 e.0 n.0 w.0 (omega arith) s.1 e.1 n.1 w.1
  where
    parity : (t s e n w sw se ne nw a b c d : ℕ) → t ≡ s + e + n + w → s + sw + se ≡ 2 * a → e + se + ne ≡ 2 * b → n + nw + ne ≡ 2 * c → w + sw + nw ≡ 2 * d → t % 2 ≡ 0
    parity t s e n w sw se ne nw a b c d h1 h2 h3 h4 h5 = omega arith

pub water_even : LocationOrderTellsApart → SegmentOrderTellsApart → (land sides left : List Seg) → HasEvenNodes land → AreSides land sides → AreSurvivors (land ++ sides) left → HasEvenNodes left
water_even exact exact_2 land sides left even are left_are = survivors_even exact exact_2 (land ++ sides) left (λ p.
    let here = even.odd p in
    let land_even = ends_are p land in
    let around = sides_even p land sides are in
    let both = sum_by-append (ends_at p) land sides in
    omega arith) left_are

-- ---- what the ray to the right crosses

abbrev crossed : Vector → Seg → ℕ
crossed p s = up_crossing east (from_to p (edge_of s).from) (from_to p (edge_of s).to) + down_crossing east (from_to p (edge_of s).from) (from_to p (edge_of s).to)

crossings : (p : Vector) (segs : List Seg) → crossing_count east p (plane_edges_of segs) ≡ sum_by (crossed p) segs
crossings p [] = refl
crossings p (s ∷ segs) =
    let rest = crossings p segs in
    let one_more = sum_by-cons (crossed p) s segs in
    let whole = sum_by-cons (λ (e : plane.Edge). up_crossing east (from_to p e.from) (from_to p e.to) + down_crossing east (from_to p e.from) (from_to p e.to)) (edge_of s) (plane_edges_of segs) in
    omega arith

crossed_is : (p : Vector) (s : Seg) → crossed p s ≡ bit (is_left_of p (edge_of s))
crossed_is p s = let r = rightward_crossing p (edge_of s) (rising_edge s) in let u = r.0 in let d = r.1 in omega arith

not_in : (b c : Bool) → b ≡ false → bit (b && c) ≡ 0
not_in b c e = rw e refl

-- a side of one height is not crossed
below_span : (p : Vector) (s : Seg) → is_plus (sign (s.b.y -ℤ p.y)) ≡ false → crossed p s ≡ 0
below_span p s e = crossed_is p s ∙ not_in (is_in_span p (edge_of s)) _ (and_right (not (is_plus (sign (s.a.y -ℤ p.y)))) (is_plus (sign (s.b.y -ℤ p.y))) e)

above_span : (p : Vector) (s : Seg) → is_plus (sign (s.a.y -ℤ p.y)) ≡ true → crossed p s ≡ 0
above_span p s e = crossed_is p s ∙ not_in (is_in_span p (edge_of s)) _ (ap (λ b. not b && is_plus (sign (s.b.y -ℤ p.y))) e)

-- the sign of the turn at an upright segment
pub upright : (p : Vector) (s : Seg) → s.b.x ≡ s.a.x → orient (vector_of s.a) (vector_of s.b) p ≡ negated (times (sign (s.b.y -ℤ s.a.y)) (sign (p.x -ℤ s.a.x)))
upright p s e =
    let dx : s.b.x -ℤ s.a.x ≡ pos 0 = omega (arith, ints) in
    let none : (s.b.x -ℤ s.a.x) *ℤ (p.y -ℤ s.a.y) ≡ pos 0 = ap (λ z. z *ℤ (p.y -ℤ s.a.y)) dx ∙ zero_times (p.y -ℤ s.a.y) in
    let turn : (s.b.y -ℤ s.a.y) *ℤ (p.x -ℤ s.a.x) +ℤ ((s.b.x -ℤ s.a.x) *ℤ (p.y -ℤ s.a.y) -ℤ (s.b.y -ℤ s.a.y) *ℤ (p.x -ℤ s.a.x)) ≡ pos 0 = cancel ((s.b.y -ℤ s.a.y) *ℤ (p.x -ℤ s.a.x)) ((s.b.x -ℤ s.a.x) *ℤ (p.y -ℤ s.a.y)) none in
    sign-reversed ((s.b.y -ℤ s.a.y) *ℤ (p.x -ℤ s.a.x)) ((s.b.x -ℤ s.a.x) *ℤ (p.y -ℤ s.a.y) -ℤ (s.b.y -ℤ s.a.y) *ℤ (p.x -ℤ s.a.x)) turn ∙ ap negated (sign-* (s.b.y -ℤ s.a.y) (p.x -ℤ s.a.x))
  where
    zero_times : (z : ℤ) → pos 0 *ℤ z ≡ pos 0
    zero_times z = omega (arith, ints)

    cancel : (m z : ℤ) → z ≡ pos 0 → m +ℤ (z -ℤ m) ≡ pos 0
    cancel m z e = omega (arith, ints)

abbrev east_1 : Sign → Sign → Sign → Sign → Bool
east_1 s t c dy = imp (agree s dy t) λ _. imp (not (is_minus dy)) λ _. imp (is_minus c) λ _. eqb (bit ((not (is_plus s) && is_plus t) && is_plus (negated (times dy c))) + bit (not (is_plus t))) (bit (not (is_plus s)))

abbrev west_1 : Sign → Sign → Sign → Sign → Bool
west_1 s t c dy = imp (agree s dy t) λ _. imp (not (is_minus dy)) λ _. imp (is_plus c) λ _. eqb (bit ((not (is_plus s) && is_plus t) && is_plus (negated (times dy c)))) 0

not_falling : (s : Seg) → not (is_minus (sign (s.b.y -ℤ s.a.y))) ≡ true
not_falling s = not-minus-by (sign (s.b.y -ℤ s.a.y)) (sign (s.b.x -ℤ s.a.x)) (rising_edge s)

-- whether a node is no higher than p
abbrev no_higher : Vector → Loc → ℕ
no_higher p n = bit (not (is_plus (sign (n.y -ℤ p.y))))

east_piece : (p : Vector) (s : Seg) → s.b.x ≡ s.a.x → is_minus (sign (p.x -ℤ s.a.x)) ≡ true → crossed p s + no_higher p s.b ≡ no_higher p s.a
east_piece p s up right =
    let is = crossed_is p s in
    let turn = ap (λ o. bit (is_in_span p (edge_of s) && is_plus o)) (upright p s up) in
    let table = eqb-true _ _ (imp-out _ _ (imp-out _ _ (imp-out _ _ (all4-out east_1 refl (sign (s.a.y -ℤ p.y)) (sign (s.b.y -ℤ p.y)) (sign (p.x -ℤ s.a.x)) (sign (s.b.y -ℤ s.a.y))) (rise-y p (vector_of s.a) (vector_of s.b))) (not_falling s)) right) in
    ap (λ n. n + no_higher p s.b) (is ∙ turn) ∙ table

west_piece : (p : Vector) (s : Seg) → s.b.x ≡ s.a.x → is_plus (sign (p.x -ℤ s.a.x)) ≡ true → crossed p s ≡ 0
west_piece p s up left =
    let is = crossed_is p s in
    let turn = ap (λ o. bit (is_in_span p (edge_of s) && is_plus o)) (upright p s up) in
    let table = eqb-true _ _ (imp-out _ _ (imp-out _ _ (imp-out _ _ (all4-out west_1 refl (sign (s.a.y -ℤ p.y)) (sign (s.b.y -ℤ p.y)) (sign (p.x -ℤ s.a.x)) (sign (s.b.y -ℤ s.a.y))) (rise-y p (vector_of s.a) (vector_of s.b))) (not_falling s)) left) in
    is ∙ (turn ∙ table)

-- ---- the sides at a point within the world

minus_test : (z : ℤ) → z <ℤ pos 0 → is_minus (sign z) ≡ true
minus_test z h = ap is_minus ((minus-is z).1 h)

plus_test : (z : ℤ) → pos 0 <ℤ z → is_plus (sign z) ≡ true
plus_test z h = ap is_plus ((plus-is z).1 h)

minus_fails : (z : ℤ) → z <ℤ pos 0 → is_plus (sign z) ≡ false
minus_fails z h = ap is_plus ((minus-is z).1 h)

side_falls : (p : Vector) (v : Loc → ℕ) (on : Loc → Bool) (from to : Loc) (land : List Seg) (nodes : List Loc) → IsSide on from to land nodes → ((s : Seg) → on s.a ≡ true → on s.b ≡ true → crossed p s + v s.b ≡ v s.a) → sum_by (crossed p) (pieces nodes) + v to ≡ v from
side_falls p v on from to land [] side falls = let s = side.some in absurd (omega arith)
side_falls p v on from to land (a ∷ r) side falls =
    let e = fall (crossed p) v on falls a r side.within side.rising in
    let f : v a ≡ v from = ap v side.begins in
    let l : v (last_location (a ∷ r)) ≡ v to = ap v side.ends in
    omega arith

module _ (land sides : List Seg) (are : AreSides land sides) (p : Vector) (inside : IsInsideWorld p) where
  south_none : sum_by (crossed p) (pieces are.on_south) + 0 ≡ 0
  south_none = side_falls p (λ _. 0) is_south south_west south_east land are.on_south are.south (λ s a b.
      let y = int_eq-true s.b.y (neg_ℤ (pos 900000000)) b in
      let i = inside.south in
      let none = below_span p s (minus_fails (s.b.y -ℤ p.y) (omega (arith, ints))) in omega arith)

  north_none : sum_by (crossed p) (pieces are.on_north) + 0 ≡ 0
  north_none = side_falls p (λ _. 0) is_north north_west north_east land are.on_north are.north (λ s a b.
      let y = int_eq-true s.a.y (pos 900000000) a in
      let i = inside.north in
      let none = above_span p s (plus_test (s.a.y -ℤ p.y) (omega (arith, ints))) in omega arith)

  west_none : sum_by (crossed p) (pieces are.on_west) + 0 ≡ 0
  west_none = side_falls p (λ _. 0) is_west south_west north_west land are.on_west are.west (λ s a b.
      let x = int_eq-true s.a.x (neg_ℤ (pos 1800000000)) a in
      let z = int_eq-true s.b.x (neg_ℤ (pos 1800000000)) b in
      let i = inside.west in
      let none = west_piece p s (z ∙ sym x) (plus_test (p.x -ℤ s.a.x) (omega (arith, ints))) in omega arith)

  east_one : sum_by (crossed p) (pieces are.on_east) + no_higher p north_east ≡ no_higher p south_east
  east_one = side_falls p (no_higher p) is_east south_east north_east land are.on_east are.east (λ s a b.
      let x = int_eq-true s.a.x (pos 1800000000) a in
      let z = int_eq-true s.b.x (pos 1800000000) b in
      let i = inside.east in
      east_piece p s (z ∙ sym x) (minus_test (p.x -ℤ s.a.x) (omega (arith, ints))))

  north_higher : no_higher p north_east ≡ 0
  north_higher = let i = inside.north in ap (λ b. bit (not b)) (plus_test (pos 900000000 -ℤ p.y) (omega (arith, ints)))

  south_lower : no_higher p south_east ≡ 1
  south_lower = let i = inside.south in ap (λ b. bit (not b)) (minus_fails (neg_ℤ (pos 900000000) -ℤ p.y) (omega (arith, ints)))

  pub sides_cover : sum_by (crossed p) sides ≡ 1
  sides_cover =
      let s = south_none in
      let n = north_none in
      let w = west_none in
      let e = east_one in
      let h = north_higher in
      let l = south_lower in
      let a = sum_by-append (crossed p) (pieces are.on_south) (pieces are.on_east ++ (pieces are.on_north ++ pieces are.on_west)) in
      let b = sum_by-append (crossed p) (pieces are.on_east) (pieces are.on_north ++ pieces are.on_west) in
      let c = sum_by-append (crossed p) (pieces are.on_north) (pieces are.on_west) in
      let whole = ap (sum_by (crossed p)) are.whole in
      omega arith

pub water_covers : SegmentOrderTellsApart → (land sides left : List Seg) → AreSides land sides → AreSurvivors (land ++ sides) left → (p : Vector) → IsInsideWorld p → crossing_count east p (plane_edges_of left) % 2 + crossing_count east p (plane_edges_of land) % 2 ≡ 1
water_covers exact land sides left are left_are p inside =
    let parity = odd_parity seg_cmp_total (λ s t. (exact s t).0) (crossed p) left (land ++ sides) left_are.odd in
    let both = sum_by-append (crossed p) land sides in
    let around = sides_cover land sides are p inside in
    let l = crossings p left in
    let m = crossings p land in
    omega arith
