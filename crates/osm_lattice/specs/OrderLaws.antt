-- The laws of the orders of locations and segments, as statements.
use Rattle.std.specs.Prelude.{◌≡◌, ◌↔◌}
use Rattle.std.specs.declared.cmp.Ordering.{Ordering}
use Rattle.std.specs.declared.cmp.Ordering.TheVariants.{Less, Equal, Greater}
use Rattle.plane.specs.Sign.{Sign, Plus, Null, Minus}
use Rattle.plane.specs.Order.{order}
use Rattle.osm_lattice.specs.declared.loc.Loc.{Loc}
use Rattle.osm_lattice.specs.declared.seg.Seg.{Seg}
use Rattle.osm_lattice.specs.Loc.{loc_cmp, vector_of}
use Rattle.osm_lattice.specs.Seg.{seg_cmp}

-- the plane's order of points in Rust's words
abbrev pub ordering_of : Sign → Ordering
ordering_of Plus = Less
ordering_of Null = Equal
ordering_of Minus = Greater

-- locations are in the order of the plane's points
abbrev pub LocationOrderIsPointOrder : Type 0
LocationOrderIsPointOrder = (p q : Loc) → loc_cmp p q ≡ ordering_of (order (vector_of p) (vector_of q))

-- two locations tie exactly if they are equal
abbrev pub LocationOrderTellsApart : Type 0
LocationOrderTellsApart = (p q : Loc) → (loc_cmp p q ≡ Equal) ↔ (p ≡ q)

-- two segments tie exactly if they are equal
abbrev pub SegmentOrderTellsApart : Type 0
SegmentOrderTellsApart = (s t : Seg) → (seg_cmp s t ≡ Equal) ↔ (s ≡ t)
