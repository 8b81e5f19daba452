-- The parts that were gathered, in the words of the definitions.
use Rattle.std.proofs.Common.{◌≡◌, IfSome, Option, flat_map, subst}
use Rattle.std.proofs.lemmas.Result.{IfOk-weaker}
use Rattle.osm_area.specs.Segments.{way_segments}
use Rattle.osm_area.specs.declared.segments.WaySegments.{WaySegments}
use Rattle.osm_area.proofs.OutcomeLemmas.{missing_outcome, complete_outcome}
use Rattle.osm_area.proofs.outcome.outcome_by.Goals as goal

pub returns-in_ok-parts-in-None-clause-right : goal.returns-in_ok-parts-in-None-clause-right
returns-in_ok-parts-in-None-clause-right c =
    let objects = c.args.store.now in
    let ways = c.args.ways.now in
    missing_outcome objects c.args.candidate ways c.in_ok-parts-in-None.parts.items c.args.notes c.of_missing-list.result _ c.requires.ways c.requires.notes
    c.in_ok-found.ensures.whole c.in-None.is c.in_ok-parts-in-None.ensures c.of_missing-list.ensures

pub returns-in-Some-clause-right : goal.returns-in-Some-clause-right
returns-in-Some-clause-right c =
    let objects = c.args.store.now in
    let ways = c.args.ways.now in
    let segs = subst (λ (found : Option WaySegments). IfSome found (λ v. v.segs.items ≡ flat_map (way_segments objects) ways)) c.in-Some.is c.in_ok-found.ensures.some in
    IfOk-weaker c.complete.result _ _ (λ outcome h. complete_outcome objects c.args.candidate ways c.with_segments.result.ids.now c.args.notes c.in-Some.found.segs.items c.with_segments.result.segs.now _ _ outcome c.requires.ways c.requires.notes
    c.in_ok-found.ensures.whole c.in-Some.is segs c.with_segments.ensures.segs h c.with_segments.ensures.ids) c.complete.ensures.right
