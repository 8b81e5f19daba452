use Rattle.std.proofs.Common.{ap, refl, ◌∙◌}
use Rattle.std.specs.List.{count_by}
use Rattle.osm_text.specs.Coast.{is_error}
use Rattle.job_coastline.specs.CountSteps.{warnings_among}
use Rattle.osm_words.specs.Answers.{coastline_seen}
use Rattle.job_coastline.proofs.Tallies.{outlines_counted}
use Rattle.job_coastline.proofs.counts.counts_of.Goals as goal

pub returns : goal.returns
returns c =
    outlines_counted (coastline_seen c.args.settings.now) c.args.outlines c.tally_of-coast.result c.in_ok-land.land (record c.in_ok-land.land { pieces = 0 }) c.in_ok-water.water
    c.tally_of-coast.ensures.pieces (c.tally_of-coast.ensures.warnings ∙ ap warnings_among c.deref.ensures.value) (c.tally_of-coast.ensures.errors ∙ ap (count_by is_error) c.deref.ensures.value) c.in_ok-land.ensures refl refl refl c.in_ok-water.ensures
