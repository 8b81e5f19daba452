-- The anchors of a list of rings. No public contract cites them.
use Rattle.std.specs.Prelude.{List, [], get_or, length, ℕ, ◌<◌, ◌≡◌}
use Rattle.osm_geom.specs.declared.edge.Edge.{Edge}
use Rattle.osm_nest.specs.declared.ring_anchors.Anchors.{Anchors}
use Rattle.osm_nest.specs.declared.sweep.ring_edge.RingEdge.{RingEdge}
use Rattle.osm_nest.specs.Enclosers.{TellOuter}
use Rattle.osm_nest.specs.Outer.{IsAnchorOf}

-- the anchor of the ring at a place
pub record IsAnchorAt (rs : List (List Edge)) (place : ℕ) (a : RingEdge) : Type 0 where
  pub here : a.ring ≡ place
  pub anchor : IsAnchorOf a.edge.now (get_or rs place [])

-- the anchors of all rings, and whether each is outer
pub record AreAnchors (rs : List (List Edge)) (anchors : Anchors) : Type 0 where
  pub sized : length anchors.edges.items ≡ length rs
  pub each : (place : ℕ) (d : RingEdge) → place < length rs → IsAnchorAt rs place (get_or anchors.edges.items place d)
  pub outer_sized : length anchors.outer.items ≡ length rs
  pub outer : TellOuter rs anchors.outer.items
