use Rattle.std.proofs.Common.{Some, ap, arith, sym, ◌∙◌}
use Rattle.std.proofs.lemmas.Option.{slice_get-get_or}
use Rattle.osm_segments.proofs.ToldPlaces.{clear_at_places}
use Rattle.osm_segments.proofs.sweep.trying.are_apart_at.Goals as goal

pub returns : goal.returns
returns c apart =
    let segs = c.args.segs.now in let i = c.args.i in let j = c.args.j in let s = c.index-segs-first.result in let t = c.index-segs-second.result in
    clear_at_places segs (record { first = i; second = j }) s t
    (slice_get-get_or segs i s (omega arith) ∙ ap Some (sym c.index-segs-first.is))
    (slice_get-get_or segs j t (omega arith) ∙ ap Some (sym c.index-segs-second.is))
    (c.are_apart.ensures apart)
