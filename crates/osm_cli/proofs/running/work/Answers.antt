use Rattle.std.proofs.Common.{subst, sym, map, string_bytes, Result}
use Rattle.osm_words.specs.Job.{Job}
use Rattle.osm_words.specs.Words.{job_asked}
use Rattle.osm_words.specs.declared.fault.WordsFault.{WordsFault}
use Rattle.osm_cli.specs.RunSteps.{Works}
use Rattle.osm_cli.proofs.Jobs.{not_taken}
use Rattle.osm_cli.proofs.running.work.Goals as goal

pub returns-in-Err : goal.returns-in-Err
returns-in-Err g c = rw c.words_ended.ensures (not_taken c.streams_append.ensures (g.H.Host.seen c.args.host.now) (job_asked (map string_bytes c.args.words.now)) c.in-Err.error c.in-Err.ensures.answers)

pub returns-in-Ok : goal.returns-in-Ok
returns-in-Ok g c =
    subst (λ (words : Result Job WordsFault). Works words c.work_on.result (g.H.Host.seen c.args.host.now) (g.H.Host.seen c.work_on.new.host)) (sym c.in-Ok.ensures.answers) c.work_on.ensures
