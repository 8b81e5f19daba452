-- The point in which an edge meets a cut line, by its carrier.
use Rattle.std.proofs.Common.{ap, arith, pos, refl, subst, sym, true, ℕ, ℤ, ◌*ℤ◌, ◌+ℤ◌, ◌-ℤ◌, ◌*◌, ◌∙◌, ◌≡◌, ◌≤◌, unsigned_abs}
use Rattle.plane.specs.Sign.{Minus, Null, Plus, Sign, are_opposite, sign}
use Rattle.plane.proofs.SignKit.{lift, same, ◌⊞◌, ◌⊟◌, ◌⊠◌, agree-sum, plus-times, says-at, plus-not-minus, sign-pos, difference_turned}
use Rattle.lists.proofs.ListsKit.{int_eq-same, int_eq-true}
use Rattle.osm_geom.specs.declared.cut.Axis.{Axis}
use Rattle.osm_geom.specs.declared.cut.Axis.TheVariants.{X, Y}
use Rattle.osm_geom.specs.declared.cut.Cut.{Cut}
use Rattle.osm_geom.specs.declared.edge.Carrier.{Carrier}
use Rattle.osm_geom.specs.declared.edge.Carrier.TheVariants.{OfSeg, Vertical, Horizontal}
use Rattle.osm_geom.specs.declared.edge.Edge.{Edge}
use Rattle.osm_lattice.specs.declared.loc.Loc.{Loc}
use Rattle.osm_geom.specs.declared.point.Point.{Point}
use Rattle.osm_geom.specs.declared.point.Point.TheVariants.{Lattice, OnVertical, OnHorizontal}
use Rattle.osm_lattice.specs.declared.seg.Seg.{Seg}
use Rattle.osm_geom.specs.Carrier.{has_x, has_y, is_on}
use Rattle.osm_geom.specs.Cut.{cut_order}
use Rattle.osm_geom.specs.Point.{IsInWorld, whole, x_of, y_of}
use Rattle.osm_geom.proofs.GeometryKit.{order_at, stands, whole-null, x_den-some, y_den-some}
use Rattle.osm_lattice.proofs.LatticeKit.{signed}

not-self : (t s u : Sign) → s ≡ t → u ≡ t → are_opposite s u ≡ true → ⊥
not-self Plus s u h k o = cc (sym (ap (λ x. are_opposite x u) h ∙ ap (are_opposite Plus) k) ∙ o)
not-self Null s u h k o = cc (sym (ap (λ x. are_opposite x u) h ∙ ap (are_opposite Null) k) ∙ o)
not-self Minus s u h k o = cc (sym (ap (λ x. are_opposite x u) h ∙ ap (are_opposite Minus) k) ∙ o)

-- the ends of an edge across the line stand on different sides, so the ends of its segment do
pub segment-crosses : (cut : Cut) (e : Edge) (s : Seg) → e.carrier ≡ OfSeg s → are_opposite (cut_order cut e.from) (cut_order cut e.to) ≡ true → cut_order cut (Lattice s.a) ≡ cut_order cut (Lattice s.b) → ⊥
segment-crosses cut e s h o k =
    not-self (cut_order cut (Lattice s.a)) (cut_order cut e.from) (cut_order cut e.to)
    (stands cut s e.from (subst (λ c. is_on c e.from ≡ true) h e.from_on) k) (stands cut s e.to (subst (λ c. is_on c e.to ≡ true) h e.to_on) k) o

-- ---- a line of whole coordinate
has_x-out : (c : ℤ) (p : Point) → has_x c p ≡ true → x_of p ≡ whole c
has_x-out c (Lattice p) h = ap whole (int_eq-true p.x c h)
has_x-out c (OnVertical x y) h = ap whole (int_eq-true x c h)
has_x-out c (OnHorizontal x d) h = absurd (cc h)

has_y-out : (d : ℤ) (p : Point) → has_y d p ≡ true → y_of p ≡ whole d
has_y-out d (Lattice p) h = ap whole (int_eq-true p.y d h)
has_y-out d (OnVertical x y) h = absurd (cc h)
has_y-out d (OnHorizontal x y) h = ap whole (int_eq-true y d h)

vertical-x : (c : ℤ) (p : Point) → is_on (Vertical c) p ≡ true → x_of p ≡ whole c
unfolding is_on
vertical-x c p h = has_x-out c p h

horizontal-y : (d : ℤ) (p : Point) → is_on (Horizontal d) p ≡ true → y_of p ≡ whole d
unfolding is_on
horizontal-y d p h = has_y-out d p h

-- an axis line is crossed only by lines of the other axis
not-along-x : (axis : Axis) (at c : ℤ) (p q : Point) → x_of p ≡ whole c → x_of q ≡ whole c → are_opposite (order_at axis at p) (order_at axis at q) ≡ true → axis ≡ Y
not-along-x Y at c p q hp hq o = refl
not-along-x X at c p q hp hq o =
    absurd (not-self (sign (at *ℤ pos 1 -ℤ c)) (order_at X at p) (order_at X at q) (ap (λ f. sign (at *ℤ pos f.den -ℤ f.num)) hp) (ap (λ f. sign (at *ℤ pos f.den -ℤ f.num)) hq) o)

not-along-y : (axis : Axis) (at d : ℤ) (p q : Point) → y_of p ≡ whole d → y_of q ≡ whole d → are_opposite (order_at axis at p) (order_at axis at q) ≡ true → axis ≡ X
not-along-y X at d p q hp hq o = refl
not-along-y Y at d p q hp hq o =
    absurd (not-self (sign (at *ℤ pos 1 -ℤ d)) (order_at Y at p) (order_at Y at q) (ap (λ f. sign (at *ℤ pos f.den -ℤ f.num)) hp) (ap (λ f. sign (at *ℤ pos f.den -ℤ f.num)) hq) o)

pub vertical-axis : (cut : Cut) (e : Edge) (c : ℤ) → e.carrier ≡ Vertical c → are_opposite (cut_order cut e.from) (cut_order cut e.to) ≡ true → cut.axis ≡ Y
vertical-axis cut e c h o =
    not-along-x cut.axis cut.at c e.from e.to (vertical-x c e.from (subst (λ k. is_on k e.from ≡ true) h e.from_on)) (vertical-x c e.to (subst (λ k. is_on k e.to ≡ true) h e.to_on)) o

pub horizontal-axis : (cut : Cut) (e : Edge) (d : ℤ) → e.carrier ≡ Horizontal d → are_opposite (cut_order cut e.from) (cut_order cut e.to) ≡ true → cut.axis ≡ X
horizontal-axis cut e d h o =
    not-along-y cut.axis cut.at d e.from e.to (horizontal-y d e.from (subst (λ k. is_on k e.from ≡ true) h e.from_on)) (horizontal-y d e.to (subst (λ k. is_on k e.to ≡ true) h e.to_on)) o

-- ---- the range of the line
nat : ℕ → ℤ
nat k = pos k

reach-by : (at n : ℤ) (d m : ℕ) → (at *ℤ pos d -ℤ n) +ℤ (n +ℤ pos (m * d)) ≡ pos d *ℤ (at +ℤ pos m)
reach-by at n d m =
    let at' = lift at in let n' = lift n in let d' = lift (pos d) in let m' = lift (pos m) in
    same ((at' ⊠ d' ⊟ n') ⊞ (n' ⊞ m' ⊠ d')) (d' ⊠ (at' ⊞ m')) (omega arith)

back-by : (at n : ℤ) (d m : ℕ) → (n -ℤ at *ℤ pos d) +ℤ (pos (m * d) -ℤ n) ≡ pos d *ℤ (pos m -ℤ at)
back-by at n d m =
    let at' = lift at in let n' = lift n in let d' = lift (pos d) in let m' = lift (pos m) in
    same ((n' ⊟ at' ⊠ d') ⊞ (m' ⊠ d' ⊟ n')) (d' ⊠ (m' ⊟ at')) (omega arith)

not-below : (n : ℤ) (k : ℕ) → unsigned_abs n ≤ k → sign (n +ℤ pos k) ≡ Minus → ⊥
not-below n k h e = let s = says-at Minus (n +ℤ pos k) e in omega (arith, signed)

not-beyond : (n : ℤ) (k : ℕ) → unsigned_abs n ≤ k → sign (pos k -ℤ n) ≡ Minus → ⊥
not-beyond n k h e = let s = says-at Minus (pos k -ℤ n) e in omega (arith, signed)

above-least : (at n : ℤ) (d m : ℕ) → 1 ≤ d → unsigned_abs n ≤ m * d → sign (at *ℤ pos d -ℤ n) ≡ Plus → sign (at +ℤ pos m) ≡ Plus
above-least at n d m some h e =
    sym (plus-times (pos d) (at +ℤ pos m) (sign-pos d some))
    ∙ plus-not-minus (sign (at *ℤ pos d -ℤ n)) (sign (n +ℤ pos (m * d))) (sign (pos d *ℤ (at +ℤ pos m))) (agree-sum (at *ℤ pos d -ℤ n) (n +ℤ pos (m * d)) (pos d *ℤ (at +ℤ pos m)) (reach-by at n d m)) e (not-below n (m * d) h)

below-most : (at n : ℤ) (d m : ℕ) → 1 ≤ d → unsigned_abs n ≤ m * d → sign (at *ℤ pos d -ℤ n) ≡ Minus → sign (pos m -ℤ at) ≡ Plus
below-most at n d m some h e =
    sym (plus-times (pos d) (pos m -ℤ at) (sign-pos d some))
    ∙ plus-not-minus (sign (n -ℤ at *ℤ pos d)) (sign (pos (m * d) -ℤ n)) (sign (pos d *ℤ (pos m -ℤ at))) (agree-sum (n -ℤ at *ℤ pos d) (pos (m * d) -ℤ n) (pos d *ℤ (pos m -ℤ at)) (back-by at n d m)) (difference_turned (at *ℤ pos d) n e) (not-beyond n (m * d) h)

in-range : (at : ℤ) (m : ℕ) → sign (at +ℤ pos m) ≡ Plus → sign (pos m -ℤ at) ≡ Plus → unsigned_abs at ≤ m
in-range at m h k = let a = says-at Plus (at +ℤ pos m) h in let b = says-at Plus (pos m -ℤ at) k in omega (arith, signed)

range-by : (at a b : ℤ) (d f m : ℕ) → 1 ≤ d → 1 ≤ f → unsigned_abs a ≤ m * d → unsigned_abs b ≤ m * f → (s t : Sign) → sign (at *ℤ pos d -ℤ a) ≡ s → sign (at *ℤ pos f -ℤ b) ≡ t → are_opposite s t ≡ true → unsigned_abs at ≤ m
range-by at a b d f m sd sf ha hb Plus Minus e g o = in-range at m (above-least at a d m sd ha e) (below-most at b f m sf hb g)
range-by at a b d f m sd sf ha hb Minus Plus e g o = in-range at m (above-least at b f m sf hb g) (below-most at a d m sd ha e)
range-by at a b d f m sd sf ha hb Plus Plus e g o = absurd (cc o)
range-by at a b d f m sd sf ha hb Plus Null e g o = absurd (cc o)
range-by at a b d f m sd sf ha hb Null t e g o = absurd (cc o)
range-by at a b d f m sd sf ha hb Minus Minus e g o = absurd (cc o)
range-by at a b d f m sd sf ha hb Minus Null e g o = absurd (cc o)

y-range : (axis : Axis) (at : ℤ) (p q : Point) → axis ≡ Y → IsInWorld p → IsInWorld q → are_opposite (order_at axis at p) (order_at axis at q) ≡ true → unsigned_abs at ≤ 900_000_000
y-range axis at p q e hp hq o =
    let o' = subst (λ a. are_opposite (order_at a at p) (order_at a at q) ≡ true) e o in
    range-by at (y_of p).num (y_of q).num (y_of p).den (y_of q).den 900_000_000 (y_den-some p) (y_den-some q) hp.1 hq.1 (order_at Y at p) (order_at Y at q) refl refl o'

x-range : (axis : Axis) (at : ℤ) (p q : Point) → axis ≡ X → IsInWorld p → IsInWorld q → are_opposite (order_at axis at p) (order_at axis at q) ≡ true → unsigned_abs at ≤ 1_800_000_000
x-range axis at p q e hp hq o =
    let o' = subst (λ a. are_opposite (order_at a at p) (order_at a at q) ≡ true) e o in
    range-by at (x_of p).num (x_of q).num (x_of p).den (x_of q).den 1_800_000_000 (x_den-some p) (x_den-some q) hp.0 hq.0 (order_at X at p) (order_at X at q) refl refl o'

pub vertical-at-in : (cut : Cut) (e : Edge) (c : ℤ) → e.carrier ≡ Vertical c → are_opposite (cut_order cut e.from) (cut_order cut e.to) ≡ true → unsigned_abs cut.at ≤ 900_000_000
vertical-at-in cut e c h o = y-range cut.axis cut.at e.from e.to (vertical-axis cut e c h o) e.from_in e.to_in o

pub horizontal-at-in : (cut : Cut) (e : Edge) (d : ℤ) → e.carrier ≡ Horizontal d → are_opposite (cut_order cut e.from) (cut_order cut e.to) ≡ true → unsigned_abs cut.at ≤ 1_800_000_000
horizontal-at-in cut e d h o = x-range cut.axis cut.at e.from e.to (horizontal-axis cut e d h o) e.from_in e.to_in o

one-times : (m : ℕ) → m * 1 ≡ m
one-times m = omega arith

pub vertical-c-in : (e : Edge) (c : ℤ) → e.carrier ≡ Vertical c → unsigned_abs c ≤ 1_800_000_000
vertical-c-in e c h =
    let x = vertical-x c e.from (subst (λ k. is_on k e.from ≡ true) h e.from_on) in
    subst (λ f. unsigned_abs f.num ≤ 1_800_000_000 * f.den) x e.from_in.0

pub horizontal-d-in : (e : Edge) (d : ℤ) → e.carrier ≡ Horizontal d → unsigned_abs d ≤ 900_000_000
horizontal-d-in e d h =
    let y = horizontal-y d e.from (subst (λ k. is_on k e.from ≡ true) h e.from_on) in
    subst (λ f. unsigned_abs f.num ≤ 900_000_000 * f.den) y e.from_in.1

-- ---- the point
on-y : (axis : Axis) (p : Loc) (at : ℤ) → axis ≡ Y → p.y ≡ at → order_at axis at (Lattice p) ≡ Null
on-y axis p at e h = subst (λ a. order_at a at (Lattice p) ≡ Null) (sym e) (whole-null (y_of (Lattice p)) at (ap whole h))

on-x : (axis : Axis) (p : Loc) (at : ℤ) → axis ≡ X → p.x ≡ at → order_at axis at (Lattice p) ≡ Null
on-x axis p at e h = subst (λ a. order_at a at (Lattice p) ≡ Null) (sym e) (whole-null (x_of (Lattice p)) at (ap whole h))

pub vertical-meets : (cut : Cut) (e : Edge) (c : ℤ) (p : Loc) → e.carrier ≡ Vertical c → are_opposite (cut_order cut e.from) (cut_order cut e.to) ≡ true → p.y ≡ cut.at → cut_order cut (Lattice p) ≡ Null
vertical-meets cut e c p h o k = on-y cut.axis p cut.at (vertical-axis cut e c h o) k

pub horizontal-meets : (cut : Cut) (e : Edge) (d : ℤ) (p : Loc) → e.carrier ≡ Horizontal d → are_opposite (cut_order cut e.from) (cut_order cut e.to) ≡ true → p.x ≡ cut.at → cut_order cut (Lattice p) ≡ Null
horizontal-meets cut e d p h o k = on-x cut.axis p cut.at (horizontal-axis cut e d h o) k

vertical-by : (c : ℤ) (p : Loc) → p.x ≡ c → is_on (Vertical c) (Lattice p) ≡ true
unfolding is_on
vertical-by c p h = int_eq-same p.x c h

horizontal-by : (d : ℤ) (p : Loc) → p.y ≡ d → is_on (Horizontal d) (Lattice p) ≡ true
unfolding is_on
horizontal-by d p h = int_eq-same p.y d h

pub vertical-on : (k : Carrier) (c : ℤ) (p : Loc) → k ≡ Vertical c → p.x ≡ c → is_on k (Lattice p) ≡ true
vertical-on k c p e h = subst (λ k. is_on k (Lattice p) ≡ true) (sym e) (vertical-by c p h)

pub horizontal-on : (k : Carrier) (d : ℤ) (p : Loc) → k ≡ Horizontal d → p.y ≡ d → is_on k (Lattice p) ≡ true
horizontal-on k d p e h = subst (λ k. is_on k (Lattice p) ≡ true) (sym e) (horizontal-by d p h)
