-- Nothing changes if points and edges are multiplied by a positive number, as statements.
use Rattle.std.specs.Prelude.{◌≡◌}
use lib.IntN.{ℤ}
use Rattle.plane.specs.Conflict.{crosses, overlaps}
use Rattle.plane.specs.Edge.{Edge}
use Rattle.plane.specs.Height.{is_left_of}
use Rattle.plane.specs.Order.{order}
use Rattle.plane.specs.RayCrossing.{down_crossing, up_crossing}
use Rattle.plane.specs.Scale.{scaled_edge, scaled_point}
use Rattle.plane.specs.Sector.{in_sector}
use Rattle.plane.specs.Sign.{Plus, sign}
use Rattle.plane.specs.Vector.{Vector, orient}

abbrev pub ScaledOrderIsSame : Type 0
ScaledOrderIsSame =
    (k : ℤ) → sign k ≡ Plus → (p q : Vector) → order (scaled_point k p) (scaled_point k q) ≡ order p q

abbrev pub ScaledSideIsSame : Type 0
ScaledSideIsSame =
    (k : ℤ) → sign k ≡ Plus → (p q r : Vector) →
    orient (scaled_point k p) (scaled_point k q) (scaled_point k r) ≡ orient p q r

abbrev pub ScaledConflictIsSame : Type 0
ScaledConflictIsSame =
    (k : ℤ) → sign k ≡ Plus → (s t : Edge) →
    (overlaps (scaled_edge k s) (scaled_edge k t) ≡ overlaps s t) × (crosses (scaled_edge k s) (scaled_edge k t) ≡ crosses s t)

abbrev pub ScaledLeftIsSame : Type 0
ScaledLeftIsSame =
    (k : ℤ) → sign k ≡ Plus → (p : Vector) (t : Edge) →
    is_left_of (scaled_point k p) (scaled_edge k t) ≡ is_left_of p t

abbrev pub ScaledCrossingIsSame : Type 0
ScaledCrossingIsSame =
    (k : ℤ) → sign k ≡ Plus → (d a b : Vector) →
    (up_crossing d (scaled_point k a) (scaled_point k b) ≡ up_crossing d a b)
    × (down_crossing d (scaled_point k a) (scaled_point k b) ≡ down_crossing d a b)

abbrev pub ScaledSectorIsSame : Type 0
ScaledSectorIsSame =
    (k : ℤ) → sign k ≡ Plus → (d e a : Vector) →
    in_sector (scaled_point k d) (scaled_point k e) (scaled_point k a) ≡ in_sector d e a
