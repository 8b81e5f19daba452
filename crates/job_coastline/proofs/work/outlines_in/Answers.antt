use Rattle.osm_words.specs.Answers.{coastline_seen}
use Rattle.job_coastline.proofs.CoastWhole.{too_many_right}
use Rattle.job_coastline.proofs.work.outlines_in.Goals as goal

pub returns-in-Ok-clause-counted : goal.returns-in-Ok-clause-counted
returns-in-Ok-clause-counted c =
    record { input = c.in_ok-input.input; is_input = c.in_ok-input.ensures; are = c.in_ok-outlines.ensures; few = c.in-Ok.ensures.few }

pub returns-in-Err-clause-many : goal.returns-in-Err-clause-many
returns-in-Err-clause-many c m is =
    let more = c.in-Err.ensures.many m is in
    too_many_right (coastline_seen c.args.settings.now) c.args.store c.in_ok-input.input c.in_ok-input.ensures c.in_ok-outlines.outlines c.in_ok-outlines.ensures more.1 m more.0
