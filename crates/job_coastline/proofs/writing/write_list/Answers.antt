use Rattle.std.proofs.Common.{[], ◌∷◌}
use Rattle.std.proofs.lemmas.List.Elements.{All-cons, All-nil}
use Rattle.osm_geom.specs.InPlane.Sided.{IsSided}
use Rattle.job_coastline.proofs.Made.{left_by, some_made, wrote_none_of}
use Rattle.job_coastline.proofs.writing.write_list.Goals as goal

pub returns : goal.returns
returns g c = λ list are few.
    c.write_leaves.ensures list (left_by c.in-Ok.ensures list are)
    (c.pieces_exist.ensures.sided c.args.settings.now.max_points c.args.settings.now.bbox_overlap (c.args.edges ∷ []) (All-cons IsSided c.args.edges [] c.requires (All-nil IsSided)) list are) few

pub returns-in_default : goal.returns-in_default
returns-in_default g c = λ list are few.
    wrote_none_of c.args.kind {T = Unit {0}} list c.args.lines.now.items c.args.lines.now.items (g.H.Host.seen c.args.host.now)
    (some_made c.args.kind c.pieces_exist.ensures.tiles list
    (c.pieces_exist.ensures.sided c.args.settings.now.max_points c.args.settings.now.bbox_overlap (c.args.edges ∷ []) (All-cons IsSided c.args.edges [] c.requires (All-nil IsSided)) list are))
