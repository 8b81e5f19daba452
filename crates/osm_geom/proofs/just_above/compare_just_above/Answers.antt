use Rattle.std.proofs.Common.{◌∙◌}
use Rattle.osm_geom.specs.JustAbove.{piece_of, just_above_cmp}
use Rattle.osm_geom.proofs.LineOrders.{line_cmp-is}
use Rattle.osm_geom.proofs.just_above.compare_just_above.Goals as goal

pub returns : goal.returns
unfolding just_above_cmp
returns c =
    rw (← c.level_of.ensures.num, ← c.level_of.ensures.den)
    (c.compare.ensures ∙ line_cmp-is c.line_of.result c.line_of-2.result c.level_of.result (piece_of c.args.e.now.carrier) (piece_of c.args.f.now.carrier) c.line_of.ensures.start c.line_of.ensures.step c.line_of-2.ensures.start c.line_of-2.ensures.step)
