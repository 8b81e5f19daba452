-- How large the coordinates of carriers and of spanned heights are.
use Rattle.std.proofs.Common.{◌≡◌, ℕ, suc, zero, ◌*◌, ◌<◌, ◌≤◌, ℤ, pos, negsuc, ◌*ℤ◌, ◌-ℤ◌, ◌<ℤ◌, ◌≤ℤ◌, Bool, true, false, not, cond, unsigned_abs, sym, arith, mul-le-mul, subst, ⊎_elim}
use Rattle.std.proofs.lemmas.Int.{ints}
use Rattle.std.proofs.lemmas.Bool.{cases_lt, and_parts}
use Rattle.std.proofs.Math.Nat.{mul-lt-mul_of_pos_right}
use Rattle.plane.specs.Sign.{Sign, Plus, Null, Minus, is_minus, is_plus}
use Rattle.lists.proofs.ListsKit.{int_eq-true}
use Rattle.plane.proofs.SignKit.{Says, says}
use Rattle.osm_geom.specs.declared.edge.Edge.{Edge}
use Rattle.osm_geom.specs.declared.edge.Carrier.TheVariants.{Vertical, Horizontal}
use Rattle.osm_geom.specs.declared.point.Point.{Point}
use Rattle.osm_geom.specs.declared.point.Point.TheVariants.{Lattice, OnVertical, OnHorizontal}
use Rattle.osm_lattice.specs.Bounds.{IsLongitude, IsLatitude}
use Rattle.osm_geom.specs.Carrier.{has_x, has_y, is_on}
use Rattle.osm_geom.specs.Edge.{runs_up}
use Rattle.osm_geom.specs.Level.{IsLevel}
use Rattle.osm_geom.specs.Point.{IsInWorld, y_of}
use Rattle.osm_geom.specs.Span.{height_order, lower_end, upper_end, spans}
use Rattle.osm_geom.proofs.PointOrders.{y_den-some}

x_bound : (c : ℤ) (p : Point) → IsInWorld p → has_x c p ≡ true → IsLongitude c
x_bound c (Lattice p) w h = rw (sym (int_eq-true p.x c h)) p.x_in
x_bound c (OnVertical x y) w h = let e = int_eq-true x c h in rw (sym e) (omega (arith, w.0))
x_bound c (OnHorizontal x y) w h = cc

y_bound : (d : ℤ) (p : Point) → IsInWorld p → has_y d p ≡ true → IsLatitude d
y_bound d (Lattice p) w h = rw (sym (int_eq-true p.y d h)) p.y_in
y_bound d (OnVertical x y) w h = cc
y_bound d (OnHorizontal x y) w h = let e = int_eq-true y d h in rw (sym e) (omega (arith, w.1))

on_vertical : (e : Edge) (c : ℤ) → is_on (Vertical c) e.from ≡ true → IsLongitude c
unfolding is_on
on_vertical e c h = x_bound c e.from e.from_in h

on_horizontal : (e : Edge) (d : ℤ) → is_on (Horizontal d) e.from ≡ true → IsLatitude d
unfolding is_on
on_horizontal e d h = y_bound d e.from e.from_in h

pub vertical_bound : (e : Edge) (c : ℤ) → e.carrier ≡ Vertical c → IsLongitude c
vertical_bound e c is = on_vertical e c (subst (λ k. is_on k e.from ≡ true) is e.from_on)

pub horizontal_bound : (e : Edge) (d : ℤ) → e.carrier ≡ Horizontal d → IsLatitude d
horizontal_bound e d is = on_horizontal e d (subst (λ k. is_on k e.from ≡ true) is e.from_on)

pub ruleset carrier_bounds = (vertical_bound, horizontal_bound)

-- a factor that is at least 1 may be left out
cancel_at_most : (a b k : ℕ) → 1 ≤ k → a * k ≤ b * k → a ≤ b
cancel_at_most a b k some h =
    ⊎_elim
    (λ (less : b < a). let more : b * k < a * k = mul-lt-mul_of_pos_right less some in absurd (omega (arith, h, more)))
    (λ least. least)
    (cases_lt b a)

grown_by : (a b k : ℕ) → a ≤ b → a * k ≤ b * k
grown_by a b k h = let same : k ≤ k = omega arith in mul-le-mul h same

-- a number that is less than one in range, or not below one in range
below_high : (n : ℕ) (high : ℤ) (q d m : ℕ) → 1 ≤ d → unsigned_abs high ≤ m * d → pos 0 <ℤ (high *ℤ pos q -ℤ pos n *ℤ pos d) → n ≤ m * q
below_high n (pos h) q d m some small less =
    let grown = grown_by h (m * d) q small in
    cancel_at_most n (m * q) d some (omega (arith, ints, less, grown))
below_high n (negsuc h) q d m some small less = omega (arith, ints, less)

above_low : (n : ℕ) (low : ℤ) (q d m : ℕ) → 1 ≤ d → unsigned_abs low ≤ m * d → pos 0 ≤ℤ (negsuc n *ℤ pos d -ℤ low *ℤ pos q) → suc n ≤ m * q
above_low n (pos h) (suc q) (suc d) m some small least = omega (arith, ints, least)
above_low n (pos h) zero (suc d) m some small least = omega (arith, ints, least)
above_low n (pos h) q zero m some small least = omega (arith, some)
above_low n (negsuc h) q d m some small least =
    let grown = grown_by (suc h) (m * d) q small in
    cancel_at_most (suc n) (m * q) d some (omega (arith, ints, least, grown))

positive_by : (s : Sign) (z : ℤ) → Says s z → is_plus s ≡ true → pos 0 <ℤ z
positive_by Plus z h e = omega (arith, ints, h)
positive_by Null z h e = cc
positive_by Minus z h e = cc

at_least_by : (s : Sign) (z : ℤ) → Says s z → not (is_minus s) ≡ true → pos 0 ≤ℤ z
at_least_by Plus z h e = omega (arith, ints, h)
at_least_by Null z h e = omega (arith, ints, h)
at_least_by Minus z h e = cc

end_in : (b : Bool) (e : Edge) → IsInWorld (cond b e.from e.to)
end_in true e = e.from_in
end_in false e = e.to_in

between : (y : ℤ) (q : ℕ) (low high : ℤ) (c d m : ℕ) → 1 ≤ c → 1 ≤ d → unsigned_abs low ≤ m * c → unsigned_abs high ≤ m * d → pos 0 ≤ℤ (y *ℤ pos c -ℤ low *ℤ pos q) → pos 0 <ℤ (high *ℤ pos q -ℤ y *ℤ pos d) → unsigned_abs y ≤ m * q
between (pos n) q low high c d m some_c some_d low_in high_in least less = below_high n high q d m some_d high_in less
between (negsuc n) q low high c d m some_c some_d low_in high_in least less = above_low n low q c m some_c low_in least

upper_in : (b : Bool) (e : Edge) → IsInWorld (cond b e.to e.from)
upper_in true e = e.to_in
upper_in false e = e.from_in

pub spanned_level : (e : Edge) (at : Point) → spans e at ≡ true → IsLevel (y_of at).num (y_of at).den
unfolding spans
spanned_level e at h =
    let both = and_parts (not (is_minus (height_order (lower_end e) at))) (is_plus (height_order at (upper_end e))) h in
    let low = lower_end e in let high = upper_end e in
    between (y_of at).num (y_of at).den (y_of low).num (y_of high).num (y_of low).den (y_of high).den 900_000_000 (y_den-some low) (y_den-some high)
    (end_in (runs_up e) e).1 (upper_in (runs_up e) e).1
    (at_least_by (height_order low at) ((y_of at).num *ℤ pos (y_of low).den -ℤ (y_of low).num *ℤ pos (y_of at).den) (says ((y_of at).num *ℤ pos (y_of low).den -ℤ (y_of low).num *ℤ pos (y_of at).den)) both.0)
    (positive_by (height_order at high) ((y_of high).num *ℤ pos (y_of at).den -ℤ (y_of at).num *ℤ pos (y_of high).den) (says ((y_of high).num *ℤ pos (y_of at).den -ℤ (y_of at).num *ℤ pos (y_of high).den)) both.1)
