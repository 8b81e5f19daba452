-- The definitions on concrete cases, by computing.
use Rattle.std.proofs.Common.{false, refl, true, ◌≡◌}
use lib.IntN.{negsuc, pos, ℤ}
use Rattle.plane.specs.Conflict.{conflicts, crosses, overlaps}
use Rattle.plane.specs.Edge.{Edge}
use Rattle.plane.specs.Height.{is_in_span, is_left_of, is_right_above, starts_left_of}
use Rattle.plane.specs.Order.{order}
use Rattle.plane.specs.RayCrossing.{is_off, ray_crossing}
use Rattle.plane.specs.Sector.{in_sector}
use Rattle.plane.specs.Sign.{Minus, Null, Plus}
use Rattle.plane.specs.Vector.{Vector, east, orient}

abbrev point : ℤ → ℤ → Vector
point x y = record { x = x; y = y }

abbrev edge : Vector → Vector → Edge
edge p q = record { from = p; to = q }

abbrev origin : Vector
origin = point (pos 0) (pos 0)

abbrev north : Vector
north = point (pos 0) (pos 1)

abbrev south : Vector
south = point (pos 0) (negsuc 0)

-- ---- the order of points: by y, then by x
order-above : order (point (pos 5) (pos 0)) (point (pos 0) (pos 1)) ≡ Plus
order-above = refl

order-right : order origin (point (pos 1) (pos 0)) ≡ Plus
order-right = refl

order-same : order (point (pos 3) (pos 4)) (point (pos 3) (pos 4)) ≡ Null
order-same = refl

-- ---- the side of a line
orient-left : orient origin (point (pos 2) (pos 0)) (point (pos 9) (pos 1)) ≡ Plus
orient-left = refl

orient-right : orient origin (point (pos 2) (pos 0)) (point (pos 1) (negsuc 0)) ≡ Minus
orient-right = refl

orient-on : orient origin (point (pos 2) (pos 0)) (point (pos 9) (pos 0)) ≡ Null
orient-on = refl

-- ---- the ray to the right: a step up, the same step down, and a step behind the origin
crossing-up : ray_crossing east (point (pos 2) (negsuc 0)) (point (pos 2) (pos 1)) ≡ pos 1
crossing-up = refl

crossing-down : ray_crossing east (point (pos 2) (pos 1)) (point (pos 2) (negsuc 0)) ≡ negsuc 0
crossing-down = refl

crossing-behind : ray_crossing east (point (negsuc 1) (negsuc 0)) (point (negsuc 1) (pos 1)) ≡ pos 0
crossing-behind = refl

-- half-open at both ends: a step that begins on the ray crosses it, one that ends there does not, and one along it does not
crossing-from-ray : ray_crossing east (point (pos 2) (pos 0)) (point (pos 2) (pos 1)) ≡ pos 1
crossing-from-ray = refl

crossing-to-ray : ray_crossing east (point (pos 2) (negsuc 0)) (point (pos 2) (pos 0)) ≡ pos 0
crossing-to-ray = refl

crossing-along-ray : ray_crossing east (point (pos 1) (pos 0)) (point (pos 3) (pos 0)) ≡ pos 0
crossing-along-ray = refl

-- the ray up
crossing-north : ray_crossing north (point (pos 1) (pos 2)) (point (negsuc 0) (pos 2)) ≡ pos 1
crossing-north = refl

-- ---- off: past the ends, at an end, inside
off-past : is_off origin (edge (point (pos 1) (pos 0)) (point (pos 3) (pos 0))) ≡ true
off-past = refl

off-beside : is_off north (edge origin (point (pos 3) (pos 0))) ≡ true
off-beside = refl

on-end : is_off origin (edge origin (point (pos 1) (pos 1))) ≡ false
on-end = refl

on-inside : is_off origin (edge (point (negsuc 0) (negsuc 0)) (point (pos 1) (pos 1))) ≡ false
on-inside = refl

-- ---- sectors: without the first direction, with the second
sector-between : in_sector east north (point (pos 1) (pos 1)) ≡ 1
sector-between = refl

sector-last : in_sector east north north ≡ 1
sector-last = refl

sector-first : in_sector east north east ≡ 0
sector-first = refl

sector-past : in_sector east north (point (negsuc 0) (pos 1)) ≡ 0
sector-past = refl

-- more than a half turn, and a full turn
sector-wide : in_sector north east south ≡ 1
sector-wide = refl

sector-full : in_sector east east east ≡ 1
sector-full = refl

sector-zero : in_sector east east origin ≡ 0
sector-zero = refl

-- ---- conflicts of the segment from 0, 0 to 4, 0
abbrev base : Edge
base = edge origin (point (pos 4) (pos 0))

touching-ends : conflicts base (edge (point (pos 4) (pos 0)) (point (pos 6) (pos 2))) ≡ false
touching-ends = refl

common-lower-end : conflicts base (edge origin (point (pos 4) (pos 1))) ≡ false
common-lower-end = refl

beside : conflicts base (edge north (point (pos 4) (pos 1))) ≡ false
beside = refl

collinear-apart : conflicts base (edge (point (pos 5) (pos 0)) (point (pos 7) (pos 0))) ≡ false
collinear-apart = refl

collinear-touching : conflicts base (edge (point (pos 4) (pos 0)) (point (pos 7) (pos 0))) ≡ false
collinear-touching = refl

collinear-overlapping : (overlaps base (edge (point (pos 3) (pos 0)) (point (pos 7) (pos 0))) ≡ true) × (crosses base (edge (point (pos 3) (pos 0)) (point (pos 7) (pos 0))) ≡ false)
collinear-overlapping = (refl, refl)

collinear-within : overlaps base (edge (point (pos 1) (pos 0)) (point (pos 2) (pos 0))) ≡ true
collinear-within = refl

collinear-from-end : overlaps base (edge origin (point (pos 2) (pos 0))) ≡ true
collinear-from-end = refl

itself : overlaps base base ≡ true
itself = refl

end-inside : (overlaps base (edge (point (pos 2) (pos 0)) (point (pos 3) (pos 3))) ≡ false) × (crosses base (edge (point (pos 2) (pos 0)) (point (pos 3) (pos 3))) ≡ true)
end-inside = (refl, refl)

crossing-inside : crosses base (edge (point (pos 1) (negsuc 0)) (point (pos 2) (pos 1))) ≡ true
crossing-inside = refl

crossing-lines-only : conflicts base (edge (point (pos 9) (negsuc 0)) (point (pos 9) (pos 1))) ≡ false
crossing-lines-only = refl

-- ---- heights: the lower end is in the span, the upper end is not
abbrev wall : Edge
wall = edge (point (pos 4) (pos 0)) (point (pos 4) (pos 6))

span-lower-end : is_in_span origin wall ≡ true
span-lower-end = refl

span-upper-end : is_in_span (point (pos 0) (pos 6)) wall ≡ false
span-upper-end = refl

left-of-wall : is_left_of (point (pos 3) (pos 3)) wall ≡ true
left-of-wall = refl

on-wall : is_left_of (point (pos 4) (pos 3)) wall ≡ false
on-wall = refl

right-of-wall : is_left_of (point (pos 5) (pos 3)) wall ≡ false
right-of-wall = refl

-- of two segments with one lower end the one that runs further to the right is right
starts-left : starts_left_of wall (edge (point (pos 4) (pos 0)) (point (pos 5) (pos 6))) ≡ true
starts-left = refl

starts-right : starts_left_of wall (edge (point (pos 4) (pos 0)) (point (pos 3) (pos 6))) ≡ false
starts-right = refl

right-above : is_right_above origin (edge origin north) wall ≡ true
right-above = refl

right-above-touching : is_right_above (point (pos 4) (pos 0)) wall (edge (point (pos 4) (pos 0)) (point (pos 5) (pos 6))) ≡ true
right-above-touching = refl
