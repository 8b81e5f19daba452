-- Two segments that overlap share more than one point: the greater of their lesser ends and the lesser of their greater ends.
use Rattle.std.proofs.Common.{◌≡◌, true, false, not, ◌&&◌, ◌≤◌, Some, ℤ, pos, ◌*ℤ◌, refl, sym, ap, ◌∙◌, subst, arith}
use Rattle.std.proofs.lemmas.Int.{ints}
use Rattle.plane.specs.Conflict.{is_along, overlaps}
use Rattle.plane.specs.Order.{order}
use Rattle.plane.specs.RayCrossing.{is_off}
use Rattle.plane.specs.Scale.{scaled_point}
use Rattle.plane.specs.Sign.{Sign, Null, Plus, Minus, is_minus, is_null, is_plus, negated, sign}
use Rattle.plane.specs.Vector.{from_to, orient}
use Rattle.std.proofs.lemmas.Bool.{and_parts}
use Rattle.plane.proofs.PlaneKit.{order-reversed, order-self-null, cross-here, cross-self, order-scaled, orient-scaled}
use Rattle.plane.proofs.SignKit.{is_plus-true, is_null-true}
use Rattle.osm_lattice.specs.declared.loc.Loc.{Loc}
use Rattle.osm_lattice.specs.declared.seg.Seg.{Seg}
use Rattle.osm_lattice.specs.declared.frac.Frac.{Frac}
use Rattle.osm_lattice.specs.declared.conflicts.Kind.TheVariants.{Overlap}
use Rattle.osm_lattice.specs.Loc.{vector_of}
use Rattle.osm_lattice.specs.Seg.{edge_of}
use Rattle.osm_lattice.specs.Conflict.{are_overlapping, conflict_of}
use Rattle.osm_lattice.specs.ConflictPoints.{IsAt, ManyPoints}
use Rattle.osm_lattice.specs.Meeting.{CommonPoint, IsOnSegment, common_den}
use Rattle.osm_lattice.proofs.CommonPoints.{den_plus, multiplied, point_at}
use Rattle.osm_lattice.proofs.ConflictCases.{where_overlapping}
use Rattle.osm_lattice.proofs.Factors.{cancel_factor, some}
use Rattle.osm_lattice.proofs.Fractions.{frac_of}
use Rattle.osm_lattice.proofs.LocationOrder.{rising_edge}
use Rattle.osm_lattice.proofs.Orders.{loc_from_fields}
use Rattle.osm_lattice.proofs.PointsOnEdges.{on_where}

abbrev order_of : Loc → Loc → Sign
order_of p q = order (vector_of p) (vector_of q)

-- ---- a location on a segment
record IsLocationOn (s : Seg) (p : Loc) : Type 0 where
  pub line : orient (vector_of s.a) (vector_of s.b) (vector_of p) ≡ Null
  pub after : not (is_plus (order_of p s.a)) ≡ true
  pub before : not (is_minus (order_of p s.b)) ≡ true

first_end : (s : Seg) → IsLocationOn s s.a
first_end s = record {
  line = ap sign (cross-here (from_to (vector_of s.a) (vector_of s.b)) (vector_of s.a));
  after = ap (λ o. not (is_plus o)) (order-self-null (vector_of s.a));
  before = ap (λ o. not (is_minus o)) (rising_edge s);
}

second_end : (s : Seg) → IsLocationOn s s.b
second_end s = record {
  line = ap sign (cross-self (from_to (vector_of s.a) (vector_of s.b)));
  after = ap (λ o. not (is_plus o)) (order-reversed (vector_of s.a) (vector_of s.b) ∙ ap negated (rising_edge s));
  before = ap (λ o. not (is_minus o)) (order-self-null (vector_of s.b));
}

on_segment_at : (s : Seg) (p : Loc) (x y : Frac) → IsAt p x y → IsLocationOn s p → IsOnSegment s x y
on_segment_at s p x y at on =
    let k = common_den x y in let hk = den_plus x y in
    let a = vector_of s.a in let b = vector_of s.b in let v = vector_of p in
    subst (λ w. is_off w (multiplied x y s) ≡ false) (sym (point_at p x y at))
    (on_where (scaled_point k v) (multiplied x y s)
    (orient-scaled k hk a b v ∙ on.line)
    (ap (λ o. not (is_plus o)) (order-scaled k hk v a) ∙ on.after)
    (ap (λ o. not (is_minus o)) (order-scaled k hk v b) ∙ on.before))

-- ---- the point that a location is
record SharedAt (s t : Seg) (p : Loc) : Type 0 where
  pub point : CommonPoint s t
  pub at : IsAt p point.x point.y

by_one : (n m : ℤ) → n *ℤ pos 1 ≡ m → n ≡ m
by_one n m h = omega (arith, ints)

shared_at : (s t : Seg) (p : Loc) → IsLocationOn s p → IsLocationOn t p → SharedAt s t p
shared_at s t p on_s on_t =
    let one : 1 ≤ 1 = omega arith in
    let x = frac_of p.x 1 one in let y = frac_of p.y 1 one in
    let at : IsAt p x.frac y.frac = (by_one x.frac.num (p.x *ℤ pos x.frac.den) x.value, by_one y.frac.num (p.y *ℤ pos y.frac.den) y.value) in
    record {
      point = record {
        x = x.frac;
        y = y.frac;
        on_first = on_segment_at s p x.frac y.frac at on_s;
        on_second = on_segment_at t p x.frac y.frac at on_t;
      };
      at = at;
    }

-- one point is one location
same_coordinate : (n a b : ℤ) (f : Frac) → n ≡ a *ℤ pos f.den → n ≡ b *ℤ pos f.den → a ≡ b
same_coordinate n a b f h k = cancel_factor a b (pos f.den) (some f.den f.den_in) (turned a (pos f.den) ∙ (sym h ∙ (k ∙ sym (turned b (pos f.den)))))
  where
    turned : (a k : ℤ) → k *ℤ a ≡ a *ℤ k
    turned a k = omega (arith, ints)

pub same_location : (p q : Loc) (x y : Frac) → IsAt p x y → IsAt q x y → p ≡ q
same_location p q x y at_p at_q = loc_from_fields p q (same_coordinate x.num p.x q.x x at_p.0 at_q.0) (same_coordinate y.num p.y q.y y at_p.1 at_q.1)

same_location_by : (p q : Loc) (x y x' y' : Frac) → IsAt p x y → IsAt q x' y' → x ≡ x' → y ≡ y' → p ≡ q
same_location_by p q x y x' y' at_p at_q ex ey =
    same_location p q x' y' (subst (λ y. IsAt p x' y) ey (subst (λ x. IsAt p x y) ex at_p)) at_q

-- ---- the ends of the shared part
pub record AreOverlapping (s t : Seg) : Type 0 where
  pub first_on : orient (vector_of s.a) (vector_of s.b) (vector_of t.a) ≡ Null
  pub second_on : orient (vector_of s.a) (vector_of s.b) (vector_of t.b) ≡ Null
  pub first_on_back : orient (vector_of t.a) (vector_of t.b) (vector_of s.a) ≡ Null
  pub second_on_back : orient (vector_of t.a) (vector_of t.b) (vector_of s.b) ≡ Null
  pub begins : order_of s.a t.b ≡ Plus
  pub begins_back : order_of t.a s.b ≡ Plus

overlapping_is : (s t : Seg) → overlaps (edge_of s) (edge_of t) ≡ true → AreOverlapping s t
overlapping_is s t h =
    let a = vector_of s.a in let b = vector_of s.b in let c = vector_of t.a in let d = vector_of t.b in
    let parts = and_parts (is_along (edge_of s) (edge_of t) && is_along (edge_of t) (edge_of s)) (is_plus (order a d) && is_plus (order c b)) h in
    let lines = and_parts (is_along (edge_of s) (edge_of t)) (is_along (edge_of t) (edge_of s)) parts.0 in
    let forth = and_parts (is_null (orient a b c)) (is_null (orient a b d)) lines.0 in
    let back = and_parts (is_null (orient c d a)) (is_null (orient c d b)) lines.1 in
    let ends = and_parts (is_plus (order a d)) (is_plus (order c b)) parts.1 in
    record {
      first_on = is_null-true (orient a b c) forth.0;
      second_on = is_null-true (orient a b d) forth.1;
      first_on_back = is_null-true (orient c d a) back.0;
      second_on_back = is_null-true (orient c d b) back.1;
      begins = is_plus-true (order a d) ends.0;
      begins_back = is_plus-true (order c b) ends.1;
    }

pub overlapping_where : (s t : Seg) → conflict_of s t ≡ Some Overlap → AreOverlapping s t
unfolding are_overlapping
overlapping_where s t h = overlapping_is s t (where_overlapping s t h)

turned_order : (p q : Loc) (o : Sign) → order_of p q ≡ o → order_of q p ≡ negated o
turned_order p q o h = order-reversed (vector_of p) (vector_of q) ∙ ap negated h

-- the greater of the lesser ends
record LowEnd (s t : Seg) : Type 0 where
  pub low : Loc
  pub on_first : IsLocationOn s low
  pub on_second : IsLocationOn t low
  pub before_first : order_of low s.b ≡ Plus
  pub before_second : order_of low t.b ≡ Plus

low_of_second : (s t : Seg) → AreOverlapping s t → not (is_plus (order_of t.a s.a)) ≡ true → LowEnd s t
low_of_second s t i after = record {
  low = t.a;
  on_first = record { line = i.first_on; after = after; before = ap (λ o. not (is_minus o)) i.begins_back };
  on_second = first_end t;
  before_first = i.begins_back;
  before_second = rising_edge t;
}

low_by : (s t : Seg) (o : Sign) → order_of s.a t.a ≡ o → AreOverlapping s t → LowEnd s t
low_by s t Plus e i = low_of_second s t i (ap (λ o. not (is_plus o)) (turned_order s.a t.a Plus e))
low_by s t Null e i = low_of_second s t i (ap (λ o. not (is_plus o)) (turned_order s.a t.a Null e))
low_by s t Minus e i = record {
  low = s.a;
  on_first = first_end s;
  on_second = record { line = i.first_on_back; after = ap (λ o. not (is_plus o)) e; before = ap (λ o. not (is_minus o)) i.begins };
  before_first = rising_edge s;
  before_second = i.begins;
}

-- the lesser of the greater ends
record HighEnd (s t : Seg) : Type 0 where
  pub high : Loc
  pub on_first : IsLocationOn s high
  pub on_second : IsLocationOn t high
  pub after_both : (p : Loc) → order_of p s.b ≡ Plus → order_of p t.b ≡ Plus → order_of p high ≡ Plus

high_of_first : (s t : Seg) → AreOverlapping s t → not (is_minus (order_of s.b t.b)) ≡ true → HighEnd s t
high_of_first s t i before = record {
  high = s.b;
  on_first = second_end s;
  on_second = record { line = i.second_on_back; after = ap (λ o. not (is_plus o)) (turned_order t.a s.b Plus i.begins_back); before = before };
  after_both = λ p first second. first;
}

high_by : (s t : Seg) (o : Sign) → order_of s.b t.b ≡ o → AreOverlapping s t → HighEnd s t
high_by s t Plus e i = high_of_first s t i (ap (λ o. not (is_minus o)) e)
high_by s t Null e i = high_of_first s t i (ap (λ o. not (is_minus o)) e)
high_by s t Minus e i = record {
  high = t.b;
  on_first = record { line = i.second_on; after = ap (λ o. not (is_plus o)) (turned_order s.a t.b Plus i.begins); before = ap (λ o. not (is_minus o)) (turned_order s.b t.b Minus e) };
  on_second = second_end t;
  after_both = λ p first second. second;
}

not_before_itself : (p q : Loc) → order_of p q ≡ Plus → p ≡ q → ⊥
not_before_itself p q h e =
    let itself : order_of p q ≡ Null = ap (λ q. order_of p q) (sym e) ∙ order-self-null (vector_of p) in
    let wrong : Plus ≡ Null = sym h ∙ itself in cc

many_at : (s t : Seg) (p q : Loc) → IsLocationOn s p → IsLocationOn t p → IsLocationOn s q → IsLocationOn t q → order_of p q ≡ Plus → ManyPoints s t
many_at s t p q p_on_s p_on_t q_on_s q_on_t before =
    let first = shared_at s t p p_on_s p_on_t in
    let second = shared_at s t q q_on_s q_on_t in
    record {
      first = first.point;
      second = second.point;
      apart = λ same. not_before_itself p q before (same_location_by p q first.point.x first.point.y second.point.x second.point.y first.at second.at same.0 same.1);
    }

pub overlap_has_many : (s t : Seg) → conflict_of s t ≡ Some Overlap → ManyPoints s t
overlap_has_many s t h =
    let i = overlapping_where s t h in
    let low = low_by s t (order_of s.a t.a) refl i in
    let high = high_by s t (order_of s.b t.b) refl i in
    many_at s t low.low high.high low.on_first low.on_second high.on_first high.on_second (high.after_both low.low low.before_first low.before_second)

pub itself_has_many : (s : Seg) → ManyPoints s s
itself_has_many s = many_at s s s.a s.b (first_end s) (first_end s) (second_end s) (second_end s) (rising_edge s)
