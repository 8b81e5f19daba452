-- The points in the rectangle have their places.
use Rattle.std.proofs.Common.{List, ap, false, get_or, length, map, subst, sym, ◌<◌, ◌∙◌, ◌≡◌, ◌≤◌}
use Rattle.std.specs.Prelude.{slice_index_or}
use Rattle.std.proofs.lemmas.Result.{on_ok_weaker}
use lib.Signed.{lt_z}
use Rattle.osm_lattice.specs.declared.loc.Loc.{Loc}
use Rattle.osm_lattice.specs.declared.seg.Seg.{Seg}
use Rattle.area_locate.specs.Areas.{Area}
use Rattle.area_locate.specs.Envelopes.{Encloses}
use Rattle.area_locate.specs.Within.{AreAllWithin}
use Rattle.area_locate.proofs.AddedHits.{have_further}
use Rattle.area_locate.proofs.WithinPoints.{heights_at, heights_rise, places_inside}
use Rattle.area_locate.proofs.candidates.add_area.Goals as goal

pub places_among-requires : goal.places_among-requires
places_among-requires c i j d =
    let points = c.args.points.now in
    let within = subst (AreAllWithin c.of-envelope.result points) (sym c.deref.ensures.value) c.in_ok-near.ensures.places in
    subst (λ (ps : List Loc). i ≤ j → j < length ps → lt_z (get_or ps j d).y (get_or ps i d).y ≡ false) (sym (c.deref-2.ensures.value ∙ c.in_ok-there.ensures.are d))
    (heights_at points c.deref.result.now d (heights_rise points c.requires.sorted) within.rising (places_inside c.of-envelope.result points c.deref.result.now within) i j d)

pub returns-clause-added : goal.returns-clause-added
returns-clause-added c =
    let points = c.args.points.now in let near = c.deref-3.result.now in let outline = c.args.outline in
    let area : Area = record { of = c.args.of; envelope = c.of-envelope.result; sides = outline } in
    let within = subst (AreAllWithin area.envelope points) (sym c.deref-3.ensures.value) c.in_ok-near.ensures.places in
    let at = λ (d : Loc). c.deref-2.ensures.value ∙ c.in_ok-there.ensures.are d ∙ ap (map (λ i. slice_index_or points i d)) (c.deref.ensures.value ∙ sym c.deref-3.ensures.value) in
    let lie = c.deref-4.ensures.value ∙ c.in_ok-places.ensures in
    let enclosed = subst (λ (segs : List Seg). Encloses area.envelope segs) c.as_slice.ensures.segments c.of-envelope.ensures in
    on_ok_weaker c.add_hits.result (λ added. (area.envelope, enclosed, have_further area points near within c.deref-4.result.now c.deref-2.result.now at lie c.args.hits.now c.add_hits.new.hits added.0 added.1)) c.add_hits.ensures
