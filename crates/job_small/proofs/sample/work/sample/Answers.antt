-- Each ending by its lemma on a job that reads nothing and opens one output.
use Rattle.std.proofs.Common.{codes, false, refl, sym}
use Rattle.osm_host.specs.Outside.{output}
use Rattle.osm_job.proofs.OutputAlone.{alone_not_opened, alone_written, ran_out}
use Rattle.job_small.specs.Sampling.Sample.{IsSample}
use Rattle.job_small.specs.Sampling.WorkSteps.{whole_of_lines}
use Rattle.job_small.proofs.sample.work.sample.Goals as goal

pub returns-in_default-clause-works : goal.returns-in_default-clause-works
returns-in_default-clause-works g c = ran_out c.streams_append.ensures (output (codes "-") false) (IsSample c.args.settings.now.count) (g.H.Host.seen c.args.host.now)

pub returns-in_default-open_output-clause-works : goal.returns-in_default-open_output-clause-works
returns-in_default-open_output-clause-works g c =
    let e = c.in_default-open_output.ensures in
    alone_not_opened c.streams_append.ensures (output (codes "-") false) (IsSample c.args.settings.now.count) (g.H.Host.seen c.args.host.now)
    (g.H.Host.seen c.open_output.new.self) e.rest e.left e.cause.never_falls e.bytes_read (whole_of_lines c.in-Ok.lines.items, c.in-Ok.ensures, refl) e.cause.failed e.listed_or_not

pub returns-clause-works : goal.returns-clause-works
returns-clause-works g c =
    let e = c.in-Ok-open_output.ensures in
    alone_written c.streams_append.ensures (output (codes "-") false) (IsSample c.args.settings.now.count) (g.H.Host.seen c.args.host.now)
    (g.H.Host.seen c.open_output.new.self) e.rest e.left e.cause.never_falls e.bytes_read e.listed e.cause.answered
    (g.H.Host.seen c.write_all.new.host) c.write_all.result c.write_all.ensures.works

pub returns-in_default-clause-spares : goal.returns-in_default-clause-spares
returns-in_default-clause-spares g c =
    λ is. record { opened = 0; opens = sym (c.streams_append.ensures.no_opens (g.H.Host.seen c.args.host.now).opens); out = refl }

pub returns-in_default-open_output-clause-spares : goal.returns-in_default-open_output-clause-spares
returns-in_default-open_output-clause-spares g c = λ is. absurd (cc)

pub returns-clause-spares : goal.returns-clause-spares
returns-clause-spares g c = λ is. absurd (c.write_all.ensures.not_memory is)
