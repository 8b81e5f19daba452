-- The notes of the walk are those by the members and the rings.
use Rattle.std.proofs.Common.{◌∙◌, ◌++◌, append-nil, sym, ap}
use Rattle.std.specs.List.{filter_map}
use Rattle.std.proofs.lemmas.Result.{on_ok_weaker}
use Rattle.osm_area.specs.Roles.{role_note}
use Rattle.osm_area.specs.Segments.{way_segments}
use Rattle.osm_area.proofs.RoleLemmas.{notes_none}
use Rattle.osm_area.proofs.RoleWalks.{notes_walked}
use Rattle.osm_area.proofs.role_notes.add_notes_among.Goals as goal

pub returns-then-not-any_names_a_ring : goal.returns-then-not-any_names_a_ring
returns-then-not-any_names_a_ring c = λ objects have ways.
    sym (append-nil c.args.notes.now)
    ∙ ap (λ ns. c.args.notes.now ++ ns) (sym (notes_none objects c.args.members.now c.args.polygons.now c.args.ways.ids.now (sym c.any_names_a_ring.ensures ∙ c.if-not-any_names_a_ring.true)))

pub returns : goal.returns
returns c =
    on_ok_weaker c.add_all.result
    (λ added objects have ways.
    added (way_segments objects) have
    ∙ (ap (λ ns. c.args.notes.now ++ ns) (notes_walked objects c.args.members.now c.in_ok-lines.lines.polygons.now c.args.ways.ids.now ways)
    ∙ ap (λ ps. c.args.notes.now ++ filter_map (role_note objects c.args.members.now ps) c.args.ways.ids.now) (c.in_ok-lines.ensures.polygons ∙ c.as_slice.ensures)))
    c.add_all.ensures
