-- The envelope of a list of edges as one value, and how it grows point by point. No public contract cites this.
use Rattle.std.specs.Prelude.{List, [], unsigned_abs, ℤ, ◌-ℤ◌, ◌+ℤ◌, ◌≤◌, ◌∷◌, cond, pos}
use Rattle.std.specs.Int.{int_div_euclid}
use Rattle.plane.specs.Sign.{is_minus, sign}
use Rattle.osm_geom.specs.declared.cut.Axis.{Axis}
use Rattle.osm_geom.specs.declared.cut.Axis.TheVariants.{X, Y}
use Rattle.osm_geom.specs.declared.edge.Edge.{Edge}
use Rattle.osm_geom.specs.declared.point.Point.{Point}
use Rattle.osm_geom.specs.Coordinate.{ceiling_of, floor_of}
use Rattle.osm_geom.specs.Point.{x_of, y_of}
use Rattle.coast_split.specs.declared.envelope.Envelope.{Envelope}
use Rattle.coast_split.specs.SplitTree.{greater, high_of, lesser, low_of}

abbrev pub envelope_of : List Edge → Envelope
envelope_of es = record { low_x = low_of X es; high_x = high_of X es; low_y = low_of Y es; high_y = high_of Y es }

-- the envelope of one point
abbrev pub envelope_at : Point → Envelope
envelope_at p = record { low_x = floor_of (x_of p); high_x = ceiling_of (x_of p); low_y = floor_of (y_of p); high_y = ceiling_of (y_of p) }

-- the least envelope that holds two
abbrev pub joined_envelope : Envelope → Envelope → Envelope
joined_envelope v w = record { low_x = lesser v.low_x w.low_x; high_x = greater v.high_x w.high_x; low_y = lesser v.low_y w.low_y; high_y = greater v.high_y w.high_y }

-- the least envelope that holds v and the edges
abbrev pub envelope_from : Envelope → List Edge → Envelope
envelope_from v [] = v
envelope_from v (e ∷ es) = envelope_from (joined_envelope (joined_envelope v (envelope_at e.from)) (envelope_at e.to)) es

abbrev pub low_in : Axis → Envelope → ℤ
low_in X v = v.low_x
low_in Y v = v.low_y

abbrev pub high_in : Axis → Envelope → ℤ
high_in X v = v.high_x
high_in Y v = v.high_y

abbrev pub width_in : Axis → Envelope → ℤ
width_in axis v = high_in axis v -ℤ low_in axis v

abbrev pub longer_in : Envelope → Axis
longer_in v = cond (is_minus (sign (width_in X v -ℤ width_in Y v))) Y X

abbrev pub middle_in : Axis → Envelope → ℤ
middle_in axis v = int_div_euclid (low_in axis v +ℤ high_in axis v) (pos 2)

-- it is no larger than the world
pub record IsSmall (v : Envelope) : Type 0 where
  pub low_x : unsigned_abs v.low_x ≤ 1_800_000_000
  pub high_x : unsigned_abs v.high_x ≤ 1_800_000_000
  pub low_y : unsigned_abs v.low_y ≤ 1_800_000_000
  pub high_y : unsigned_abs v.high_y ≤ 1_800_000_000
