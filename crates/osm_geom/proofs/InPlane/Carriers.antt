-- Multiplied, the points of a carrier are on the line of its piece.
use Rattle.std.proofs.Common.{ap, arith, not, pos, refl, subst, sym, true, ℕ, ℤ, ◌*ℤ◌, ◌-ℤ◌, ◌*◌, ◌/◌, ◌∙◌, ◌≡◌, ◌≤◌}
use Prim.Native.Nat.{◌∣◌}
use Rattle.plane.specs.Edge.{IsRisingEdge}
use Rattle.plane.specs.Edge as plane
use Rattle.plane.specs.RayCrossing.{is_off}
use Rattle.plane.specs.Scale.{scaled_edge, scaled_point}
use Rattle.plane.specs.Sign.{Null, Plus, sign, then_sign}
use Rattle.plane.specs.Vector.{Vector, cross, dot, from_to}
use Rattle.lists.proofs.ListsKit.{int_eq-true, not-true-out}
use Rattle.plane.proofs.SignKit.{lift, same, ◌⊟◌, ◌⊠◌, self-diff}
use Rattle.plane.proofs.PlaneKit.{same_vector, vector_of, orient-round, cross-scaled, order-scaled, off_by-no}
use Rattle.osm_geom.specs.declared.edge.Carrier.{Carrier}
use Rattle.osm_geom.specs.declared.edge.Carrier.TheVariants.{OfSeg, Vertical, Horizontal}
use Rattle.osm_geom.specs.declared.point.Point.{Point}
use Rattle.osm_geom.specs.declared.point.Point.TheVariants.{Lattice, OnVertical, OnHorizontal}
use Rattle.osm_lattice.specs.declared.seg.Seg.{Seg}
use Rattle.osm_geom.specs.Carrier.{has_x, has_y, is_on, rising_of}
use Rattle.osm_geom.specs.JustAbove.{piece_of}
use Rattle.osm_lattice.specs.Loc.{step}
use Rattle.osm_geom.specs.Point.{den_of, whole_of, x_of, y_of}
use Rattle.osm_lattice.specs.Seg.{edge_of}
use Rattle.osm_lattice.proofs.LatticeKit.{rising_edge}
use Rattle.osm_geom.specs.InPlane.Multiple.{point_times}
use Rattle.osm_geom.proofs.InPlane.Commons.{sign-some}
use Rattle.osm_geom.proofs.InPlane.Lines.{step_of}
use Rattle.osm_geom.proofs.InPlane.MultipliedPoints.{factor, factor-some, nat, swapped}

-- v is on the line of t
abbrev pub IsOnLineOf : plane.Edge → Vector → Type 0
IsOnLineOf t v = sign (cross (step_of t) (from_to t.from v)) ≡ Null

abbrev pub piece_times : ℕ → Carrier → plane.Edge
piece_times k c = scaled_edge (pos k) (piece_of c)

number-regained : (m d k : ℕ) (x : ℤ) → m * d ≡ k → pos m *ℤ (pos d *ℤ x) ≡ pos k *ℤ x
number-regained m d k x e = same (nat m ⊠ (nat d ⊠ lift x)) (nat (m * d) ⊠ lift x) (omega arith) ∙ ap (λ n. pos n *ℤ x) e

pub point-regained : (m d k : ℕ) (v : Vector) → m * d ≡ k → scaled_point (pos m) (scaled_point (pos d) v) ≡ scaled_point (pos k) v
point-regained m d k v e = same_vector (pos m *ℤ (pos d *ℤ v.x)) (pos m *ℤ (pos d *ℤ v.y)) (pos k *ℤ v.x) (pos k *ℤ v.y) (number-regained m d k v.x e) (number-regained m d k v.y e)

-- ---- a segment
on_segment : (k : ℕ) (s : Seg) (p : Point) → 1 ≤ k → den_of p ∣ k → not (is_off (whole_of p) (scaled_edge (pos (den_of p)) (edge_of s))) ≡ true → IsOnLineOf (piece_times k (OfSeg s)) (point_times k p)
on_segment k s p some divides h =
    let d = den_of p in let m = k / d in let w = whole_of p in let whole = factor k d divides in
    let a = scaled_point (pos d) (edge_of s).from in let b = scaled_point (pos d) (edge_of s).to in
    let on : sign (cross (from_to w a) (from_to w b)) ≡ Null = off_by-no (sign (cross (from_to w a) (from_to w b))) (sign (dot (from_to w a) (from_to w b))) (not-true-out (is_off w (scaled_edge (pos d) (edge_of s))) h) in
    let there = cross-scaled (pos m) (sign-some m (factor-some k d some divides)) a b a w ∙ ap sign (orient-round w a b) ∙ on in
    let from = point-regained m d k (edge_of s).from whole in let to = point-regained m d k (edge_of s).to whole in
    subst (λ u. sign (cross (from_to (scaled_point (pos k) (edge_of s).from) u) (from_to (scaled_point (pos k) (edge_of s).from) (point_times k p))) ≡ Null) to
    (subst (λ u. sign (cross (from_to u (scaled_point (pos m) b)) (from_to u (point_times k p))) ≡ Null) from there)

-- ---- a line of whole coordinate
whole-times : (m x y k : ℕ) (u c : ℤ) → u ≡ c → x ≡ 1 → m * (x * y) ≡ k → pos m *ℤ (u *ℤ pos y) ≡ pos k *ℤ c
whole-times m x y k u c e one whole =
    ap (λ w. pos m *ℤ (w *ℤ pos y)) e ∙ same (nat m ⊠ (lift c ⊠ nat y)) (nat (m * (1 * y)) ⊠ lift c) (omega arith)
    ∙ ap (λ n. pos (m * (n * y)) *ℤ c) (sym one) ∙ ap (λ n. pos n *ℤ c) whole

has_x-out : (c : ℤ) (p : Point) → has_x c p ≡ true → ((x_of p).num ≡ c) × ((x_of p).den ≡ 1)
has_x-out c (Lattice p) h = (int_eq-true p.x c h, refl)
has_x-out c (OnVertical x y) h = (int_eq-true x c h, refl)
has_x-out c (OnHorizontal x d) h = absurd (cc h)

has_y-out : (d : ℤ) (p : Point) → has_y d p ≡ true → ((y_of p).num ≡ d) × ((y_of p).den ≡ 1)
has_y-out d (Lattice p) h = (int_eq-true p.y d h, refl)
has_y-out d (OnVertical x y) h = absurd (cc h)
has_y-out d (OnHorizontal x y) h = (int_eq-true y d h, refl)

vertical-cross : (k c x y : ℤ) → x ≡ k *ℤ c → (k *ℤ c -ℤ k *ℤ c) *ℤ (y -ℤ k *ℤ pos 0) -ℤ (k *ℤ pos 1 -ℤ k *ℤ pos 0) *ℤ (x -ℤ k *ℤ c) ≡ pos 0
vertical-cross k c x y e =
    let k' = lift k in let c' = lift c in let y' = lift y in let o = lift (pos 0) in let i = lift (pos 1) in
    ap (λ w. (k *ℤ c -ℤ k *ℤ c) *ℤ (y -ℤ k *ℤ pos 0) -ℤ (k *ℤ pos 1 -ℤ k *ℤ pos 0) *ℤ (w -ℤ k *ℤ c)) e
    ∙ same ((k' ⊠ c' ⊟ k' ⊠ c') ⊠ (y' ⊟ k' ⊠ o) ⊟ (k' ⊠ i ⊟ k' ⊠ o) ⊠ (k' ⊠ c' ⊟ k' ⊠ c')) o (omega arith)

horizontal-cross : (k d x y : ℤ) → y ≡ k *ℤ d → (k *ℤ pos 1 -ℤ k *ℤ pos 0) *ℤ (y -ℤ k *ℤ d) -ℤ (k *ℤ d -ℤ k *ℤ d) *ℤ (x -ℤ k *ℤ pos 0) ≡ pos 0
horizontal-cross k d x y e =
    let k' = lift k in let d' = lift d in let x' = lift x in let o = lift (pos 0) in let i = lift (pos 1) in
    ap (λ w. (k *ℤ pos 1 -ℤ k *ℤ pos 0) *ℤ (w -ℤ k *ℤ d) -ℤ (k *ℤ d -ℤ k *ℤ d) *ℤ (x -ℤ k *ℤ pos 0)) e
    ∙ same ((k' ⊠ i ⊟ k' ⊠ o) ⊠ (k' ⊠ d' ⊟ k' ⊠ d') ⊟ (k' ⊠ d' ⊟ k' ⊠ d') ⊠ (x' ⊟ k' ⊠ o)) o (omega arith)

on_vertical : (k : ℕ) (c : ℤ) (p : Point) → den_of p ∣ k → has_x c p ≡ true → IsOnLineOf (piece_times k (Vertical c)) (point_times k p)
on_vertical k c p divides h =
    let is = has_x-out c p h in let v = point_times k p in
    ap sign (vertical-cross (pos k) c v.x v.y (whole-times (k / den_of p) (x_of p).den (y_of p).den k (x_of p).num c is.0 is.1 (factor k (den_of p) divides)))

on_horizontal : (k : ℕ) (d : ℤ) (p : Point) → den_of p ∣ k → has_y d p ≡ true → IsOnLineOf (piece_times k (Horizontal d)) (point_times k p)
on_horizontal k d p divides h =
    let is = has_y-out d p h in let v = point_times k p in
    ap sign (horizontal-cross (pos k) d v.x v.y (whole-times (k / den_of p) (y_of p).den (x_of p).den k (y_of p).num d is.0 is.1 (swapped (k / den_of p) (x_of p).den (y_of p).den k (factor k (den_of p) divides))))

pub on_line : (k : ℕ) (c : Carrier) (p : Point) → 1 ≤ k → den_of p ∣ k → is_on c p ≡ true → IsOnLineOf (piece_times k c) (point_times k p)
unfolding is_on
on_line k (OfSeg s) p some divides h = on_segment k s p some divides h
on_line k (Vertical c) p some divides h = on_vertical k c p divides h
on_line k (Horizontal d) p some divides h = on_horizontal k d p divides h

-- ---- how a carrier rises
piece-rises : (c : Carrier) → IsRisingEdge (piece_of c)
piece-rises (OfSeg s) = rising_edge s
piece-rises (Vertical c) = refl
piece-rises (Horizontal d) = ap (λ s. then_sign s Plus) (self-diff d)

pub piece_times-rises : (k : ℕ) (c : Carrier) → 1 ≤ k → IsRisingEdge (piece_times k c)
piece_times-rises k c some = order-scaled (pos k) (sign-some k some) (piece_of c).from (piece_of c).to ∙ piece-rises c

nothing : (c : ℤ) → c -ℤ c ≡ pos 0
nothing c = same (lift c ⊟ lift c) (lift (pos 0)) (omega arith)

pub piece-steps : (c : Carrier) → step_of (piece_of c) ≡ rising_of c
unfolding step
piece-steps (OfSeg s) = refl
piece-steps (Vertical c) = ap (λ z. vector_of z (pos 1)) (nothing c)
piece-steps (Horizontal d) = ap (λ z. vector_of (pos 1) z) (nothing d)
