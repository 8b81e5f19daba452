use Rattle.std.proofs.Common.{rules, refl}
use Rattle.osm_job.specs.Cause.{cause_of}
use Rattle.osm_cli.specs.RunSteps.{kept, lost}
use Rattle.osm_cli.proofs.OutputKept.{by_itself_alone, nothing_else}
use Rattle.osm_cli.proofs.running.keep.Goals as goal

pub returns-then-not-comes_to_its_end : goal.returns-then-not-comes_to_its_end
returns-then-not-comes_to_its_end g c = kept refl refl

pub returns-in-Ok : goal.returns-in-Ok
returns-in-Ok g c =
    let e = c.in-Ok.ensures in
    kept refl (nothing_else (g.H.Host.seen c.args.host.now) (g.H.Host.seen c.keep_output.new.self) e.written e.rest e.cause.answered)

pub returns-in-Err : goal.returns-in-Err
returns-in-Err g c =
    let e = c.in-Err.ensures in
    lost (by_itself_alone (cause_of c.args.ended) (search rules)) refl (record { out = e.written; never_falls = e.cause.never_falls; rest = e.rest }) e.cause.failed
