-- An edge spans a height where one of its ends is at most as high and the other is higher.
use Rattle.std.proofs.Common.{◌≡◌, Bool, true, false, cond, not, ◌&&◌, ℤ, pos, ◌*ℤ◌, ◌-ℤ◌, ◌+ℤ◌, refl, ap, subst, ◌∙◌, arith}
use mathlib.Core.Bool.{beq}
use Rattle.plane.specs.Sign.{Sign, is_minus, is_plus, negated, sign, then_sign}
use Rattle.plane.proofs.SignKit.{agree, all4, all4-out, imp, imp-out, lift, plus-times, rises_sum, same, same_bool, same_bool-true, sign-reversed, weighted-agree, ◌⊞◌, ◌⊟◌}
use Rattle.osm_geom.specs.declared.edge.Edge.{Edge}
use Rattle.osm_geom.specs.declared.point.Point.{Point}
use Rattle.osm_geom.specs.Edge.{runs_up}
use Rattle.osm_geom.specs.Point.{den_of, point_order, whole_of, y_of}
use Rattle.osm_geom.specs.Span.{height_order, spans}
use Rattle.osm_geom.proofs.PointOrders.{y_den-sign, y_sign}

-- how far r is above p is how far q is above p and r above q
heights-sum : (p q r : Point) → agree (height_order p q) (height_order q r) (height_order p r) ≡ true
heights-sum p q r =
    let rise : Point → Point → ℤ = λ v w. (y_of w).num *ℤ pos (y_of v).den -ℤ (y_of v).num *ℤ pos (y_of w).den in
    subst (λ u. agree (height_order p q) (height_order q r) u ≡ true) (plus-times (pos (y_of q).den) (rise p r) (y_den-sign q))
    (weighted-agree (pos (y_of r).den) (pos (y_of p).den) (rise p q) (rise q r) (pos (y_of q).den *ℤ rise p r) (y_den-sign r) (y_den-sign p) (rises_sum (y_of p).num (y_of q).num (y_of r).num (y_of p).den (y_of q).den (y_of r).den))

height-turned : (p q : Point) → height_order q p ≡ negated (height_order p q)
height-turned p q =
    let a = (y_of p).num *ℤ pos (y_of q).den in let b = (y_of q).num *ℤ pos (y_of p).den in
    sign-reversed (b -ℤ a) (a -ℤ b) (opposite a b)
  where
    opposite : (a b : ℤ) → (b -ℤ a) +ℤ (a -ℤ b) ≡ pos 0
    opposite a b = same ((lift b ⊟ lift a) ⊞ (lift a ⊟ lift b)) (lift (pos 0)) (omega arith)

-- points are in order of their heights first
abbrev side_order : Point → Point → Sign
side_order p q = sign (pos (den_of p) *ℤ (whole_of q).x -ℤ pos (den_of q) *ℤ (whole_of p).x)

by-height : (p q : Point) → point_order p q ≡ then_sign (height_order p q) (side_order p q)
by-height p q = ap (λ s. then_sign s (side_order p q)) (y_sign p q)

-- exactly one of two answers is yes
abbrev pub differ : Bool → Bool → Bool
differ true b = not b
differ false b = b

pub not-same : (a b : Bool) → not (beq a b) ≡ differ a b
not-same true true = refl
not-same true false = refl
not-same false true = refl
not-same false false = refl

-- at is at least as high as p
abbrev pub reaches : Point → Point → Bool
reaches p at = not (is_minus (height_order p at))

abbrev spans_by : Bool → Sign → Sign → Bool
spans_by up s t = not (is_minus (cond up s t)) && is_plus (negated (cond up t s))

-- the signs: how high the second end is above the first, how far to the right, and how high the point is above each
abbrev spans_4 : Sign → Sign → Sign → Sign → Bool
spans_4 u x s t = imp (agree u t s) λ _. same_bool (spans_by (is_plus (then_sign u x)) s t) (differ (not (is_minus s)) (not (is_minus t)))

spans_computes : all4 spans_4 ≡ true
spans_computes = refl

pub spans_is : (e : Edge) (at : Point) → spans e at ≡ differ (reaches e.from at) (reaches e.to at)
unfolding spans
spans_is e at =
    let u = height_order e.from e.to in let x = side_order e.from e.to in let s = height_order e.from at in let t = height_order e.to at in
    by-end (runs_up e)
    ∙ (ap (λ o. spans_by (is_plus o) s t) (by-height e.from e.to)
    ∙ same_bool-true _ _ (imp-out _ _ (all4-out spans_4 spans_computes u x s t) (heights-sum e.from e.to at)))
  where
    by-end : (b : Bool) → (not (is_minus (height_order (cond b e.from e.to) at)) && is_plus (height_order at (cond b e.to e.from))) ≡ spans_by b (height_order e.from at) (height_order e.to at)
    by-end true = ap (λ o. not (is_minus (height_order e.from at)) && is_plus o) (height-turned e.to at)
    by-end false = ap (λ o. not (is_minus (height_order e.to at)) && is_plus o) (height-turned e.from at)
