use Rattle.job_coastline.specs.Pieces.{piece_text_count, polygon_text, vanished_lines}
use Rattle.job_coastline.proofs.Growing.{adds_next, adds_nothing}
use Rattle.job_coastline.proofs.pieces.add_polygons.Goals as goal

pub loop-polygon-init : goal.loop-polygon-init
loop-polygon-init c = adds_nothing c.args.pieces.now

pub loop-polygon-preserved : goal.loop-polygon-preserved
loop-polygon-preserved c =
    adds_next (polygon_text c.args.kind) (piece_text_count c.args.kind) vanished_lines c.args.polygons.now c.loop-polygon.polygon-index c.polygon-item.result c.loop-polygon-test.true c.polygon-item.is
    c.args.pieces.now c.loop-polygon.pieces c.add_polygon.new.pieces c.loop-polygon.invariant c.in_ok-add_polygon.ensures
