-- The laws of the orders of points, of edges just above a height and of directions around one, as statements.
-- Sorts may rely on them.
use Rattle.std.specs.Prelude.{◌≡◌, ◌↔◌, true}
use Rattle.std.specs.Cmp.{IsTotalOrder}
use Rattle.std.specs.Ordering.{ordering_reverse}
use Rattle.std.specs.declared.cmp.Ordering.TheVariants.{Less, Equal}
use Rattle.plane.specs.Conflict.{is_along}
use Rattle.plane.specs.Sign.{Null, Plus, sign}
use Rattle.osm_geom.specs.declared.dir.Dir.{Dir}
use Rattle.osm_geom.specs.declared.edge.Edge.{Edge}
use Rattle.osm_geom.specs.declared.point.Point.{Point}
use Rattle.osm_geom.specs.Dir.{clockwise_cmp, cross, dot}
use Rattle.osm_geom.specs.JustAbove.{just_above_cmp, piece_of}
use Rattle.osm_geom.specs.Point.{point_cmp}
use Rattle.osm_geom.specs.Span.{spans}

-- The reverse comparison is the reversed answer, Less is transitive, and what ties compares alike with all others.
abbrev pub PointOrderIsTotal : Type 0
PointOrderIsTotal = IsTotalOrder point_cmp

-- two points tie exactly if they are equal
abbrev pub PointOrderTellsApart : Type 0
PointOrderTellsApart = (p q : Point) → (point_cmp p q ≡ Equal) ↔ (p ≡ q)

abbrev pub OrderAboveReverses : Type 0
OrderAboveReverses = (e f : Edge) (at : Point) → just_above_cmp e f at ≡ ordering_reverse (just_above_cmp f e at)

-- among the edges that span the height
abbrev pub OrderAboveIsTransitive : Type 0
OrderAboveIsTransitive =
    (e f g : Edge) (at : Point) → spans e at ≡ true → spans f at ≡ true → spans g at ≡ true →
    just_above_cmp e f at ≡ Less → just_above_cmp f g at ≡ Less → just_above_cmp e g at ≡ Less

abbrev pub OrderAboveTiesAlike : Type 0
OrderAboveTiesAlike =
    (e f g : Edge) (at : Point) → spans e at ≡ true → spans f at ≡ true → spans g at ≡ true →
    just_above_cmp e f at ≡ Equal → just_above_cmp e g at ≡ just_above_cmp f g at

-- two edges tie exactly if their carriers lie on one line: both ends of the piece of the second are on the line of the first
abbrev pub OrderAboveTellsLinesApart : Type 0
OrderAboveTellsLinesApart =
    (e f : Edge) (at : Point) → spans e at ≡ true → spans f at ≡ true →
    (just_above_cmp e f at ≡ Equal) ↔ (is_along (piece_of e.carrier) (piece_of f.carrier) ≡ true)

-- d and e point one way, however long each is
abbrev pub IsOneDirection : Dir → Dir → Type 0
IsOneDirection d e = (sign (cross d e) ≡ Null) × (sign (dot d e) ≡ Plus)

-- around every direction
abbrev pub ClockwiseOrderIsTotal : Type 0
ClockwiseOrderIsTotal = (from : Dir) → IsTotalOrder (clockwise_cmp from)

-- two directions tie exactly if they are equal
abbrev pub ClockwiseOrderTellsApart : Type 0
ClockwiseOrderTellsApart = (from d e : Dir) → (clockwise_cmp from d e ≡ Equal) ↔ IsOneDirection d e
