-- What is known is right, and so is what the odd side tells.
use Rattle.std.proofs.Common.{None, ap, arith, ◌∙◌}
use Rattle.std.proofs.lemmas.List.{get_or_default}
use Rattle.plane_lists.specs.Lists.OddSide as odd_side
use Rattle.osm_lattice.specs.declared.seg.Seg.{Seg}
use Rattle.osm_lattice.specs.Seg.{edge_of}
use Rattle.osm_sides.specs.Survivors.{plane_edges_of}
use Rattle.osm_sides.proofs.few.following.direction.Goals as goal

pub returns-in-Some-clause-right : goal.returns-in-Some-clause-right
returns-in-Some-clause-right c =
    let inside = c.requires.inside in let room = c.requires.known.room in
    c.requires.known.right c.args.place c.in-Some.up inside (get_or_default c.args.known.now c.args.place None _ (omega arith) ∙ c.in-Some.is)

pub follow-requires-clause-directed : goal.follow-requires-clause-directed
follow-requires-clause-directed c =
    let ss = c.args.segs.now in let place = c.args.place in let s = c.index-segs-place.result in
    record {
      inside = c.requires.inside;
      right = λ d. c.runs_up-up.ensures ∙ ap (λ (t : Seg). odd_side.runs_up_by_odd_side (plane_edges_of ss) (edge_of t)) (c.index-segs-place.is ∙ get_or_default ss place s d c.requires.inside);
    }

pub returns-clause-right : goal.returns-clause-right
returns-clause-right c = λ d.
    let ss = c.args.segs.now in let place = c.args.place in let s = c.index-segs-place.result in
    c.runs_up-up.ensures ∙ ap (λ (t : Seg). odd_side.runs_up_by_odd_side (plane_edges_of ss) (edge_of t)) (c.index-segs-place.is ∙ get_or_default ss place s d c.requires.inside)
