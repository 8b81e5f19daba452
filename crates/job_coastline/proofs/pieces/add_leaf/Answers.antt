use Rattle.std.proofs.Common.{subst, sym, List}
use Rattle.osm_nest.specs.declared.polygon.Polygon.{Polygon}
use Rattle.osm_nest.specs.Nested.{ArePolygons}
use Rattle.job_coastline.proofs.Growing.{on_ok}
use Rattle.job_coastline.proofs.Tiles.{leaf_pieces}
use Rattle.job_coastline.proofs.pieces.add_leaf.Goals as goal

pub returns : goal.returns
returns c =
    on_ok c.add_polygons.result _ _
    (leaf_pieces c.args.kind c.args.leaf c.as_slice.result.now c.args.pieces.now c.add_large.new.pieces c.add_polygons.new.pieces c.requires.texts c.requires.lines
    (subst (λ (ps : List Polygon). ArePolygons c.args.leaf.edges ps) (sym c.as_slice.ensures) c.in_ok-polygons.ensures.polygons) c.in_ok-add_large.ensures) c.add_polygons.ensures
