use Rattle.std.proofs.lemmas.Result.{IfOk-weaker}
use Rattle.osm_words.specs.Answers.{coastline_seen}
use Rattle.job_coastline.proofs.CoastWhole.{counts_right}
use Rattle.job_coastline.proofs.counts.coast_counts.Goals as goal

pub returns : goal.returns
returns c =
    IfOk-weaker c.counts_of.result _ _ (λ counts h.
    counts_right (coastline_seen c.args.settings.now) c.args.store.now c.in_ok-input.input (record { taking_part = c.in_ok-input.ensures.ways; asides = c.in_ok-input.ensures.aside; apart = c.in_ok-input.ensures.apart })
    c.in_ok-outlines.outlines c.in_ok-outlines.ensures counts h) c.counts_of.ensures
