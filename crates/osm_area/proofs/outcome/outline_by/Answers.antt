-- The parts that were gathered, in the words of the definitions.
use Rattle.std.proofs.Common.{◌≡◌, IfSome, Option, flat_map, subst}
use Rattle.std.proofs.lemmas.Result.{IfOk-weaker}
use Rattle.osm_area.specs.Segments.{way_segments}
use Rattle.osm_area.specs.declared.segments.WaySegments.{WaySegments}
use Rattle.osm_area.proofs.MadeLemmas.{outline_by_segments, none_by_missing}
use Rattle.osm_area.proofs.outcome.outline_by.Goals as goal

pub returns-in-None : goal.returns-in-None
returns-in-None c = none_by_missing c.args.store.now c.args.candidate c.args.ways.now c.requires _ c.in_ok-found.ensures.whole c.in-None.is

pub returns-in-Some : goal.returns-in-Some
returns-in-Some c =
    let objects = c.args.store.now in
    let ways = c.args.ways.now in
    let segs = subst (λ (found : Option WaySegments). IfSome found (λ v. v.segs.items ≡ flat_map (way_segments objects) ways)) c.in-Some.is c.in_ok-found.ensures.some in
    IfOk-weaker c.outline_among.result _ _
    (λ made h. outline_by_segments objects c.args.candidate ways c.requires _ c.in-Some.found c.in-Some.found.segs.items c.deref.result.now c.in_ok-found.ensures.whole c.in-Some.is segs c.deref.ensures.value made h)
    c.outline_among.ensures
