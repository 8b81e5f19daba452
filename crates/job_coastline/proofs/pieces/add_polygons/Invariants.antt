use Rattle.std.proofs.Common.{take}
use Rattle.std.specs.List.{flat_map, sum_by}
use Rattle.job_coastline.specs.Pieces.{piece_text_count, polygon_text, vanished_lines}
use Rattle.job_coastline.specs.PieceSteps.{Adds}
use Rattle.job_coastline.proofs.pieces.add_polygons.Given as goal

abbrev pub invariant-loop-polygon : goal.invariant-loop-polygon
invariant-loop-polygon l =
    Adds l.initial.pieces l.pieces (flat_map (polygon_text l.kind) (take l.polygon-index l.polygons)) (sum_by (piece_text_count l.kind) (take l.polygon-index l.polygons))
    (flat_map vanished_lines (take l.polygon-index l.polygons))
