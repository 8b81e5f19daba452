-- The references are those of the way.
use Rattle.std.proofs.Common.{rules, ◌≡◌, ◌∙◌, ◌++◌, Some, ap}
use Rattle.std.proofs.lemmas.Result.{IfOk-weaker}
use Rattle.osm_objects.specs.Objects.{way_of}
use Rattle.osm_objects.specs.Views.{way_seen}
use Rattle.osm_area.proofs.WholeWays.{segments_of_parts}
use Rattle.osm_area.proofs.segments.add_segments.Goals as goal

pub returns-in-Some-clause-added : goal.returns-in-Some-clause-added
returns-in-Some-clause-added c =
    let found : way_of c.args.store.now c.args.way ≡ Some (way_seen c.in-Some.found) = search rules in
    let along = segments_of_parts c.args.store.now c.args.way (way_seen c.in-Some.found) found in
    IfOk-weaker c.add_along_refs.result _ _ (λ whole h yes. h yes ∙ ap (λ more. c.args.segments.now.items ++ more) along) c.add_along_refs.ensures.added
