-- Each ending by its lemma on a job that reads an input and then opens an output.
use Rattle.std.proofs.Common.{[], refl, subst}
use Rattle.osm_host.specs.Outside.{output}
use Rattle.osm_job.specs.TextWhole.{IsText, whole_of_text}
use Rattle.osm_job.specs.Worked.{WroteOver}
use Rattle.osm_job.proofs.TextWritten.{right_written}
use Rattle.osm_job.proofs.InputThenOutput.{lacks_input, no_memory, output_not_opened, output_written}
use Rattle.osm_job.proofs.Sparing.{first_spared}
use Rattle.job_small.specs.Filtering.Filter.{IsFilter}
use Rattle.job_small.proofs.Filtering.Written.{text_right}
use Rattle.job_small.proofs.filter.work.filter_coast.Goals as goal

pub returns-in-Err-clause-works : goal.returns-in-Err-clause-works
returns-in-Err-clause-works g c =
    lacks_input c.streams_append.ensures c.args.settings.now.file.now (output c.args.settings.now.output.now c.args.settings.now.overwrite) IsFilter (g.H.Host.seen c.args.host.now) c.in-Err.ended
    (g.H.Host.seen c.read_input.new.host) c.in-Err.ensures

pub returns-in_default-clause-works : goal.returns-in_default-clause-works
returns-in_default-clause-works g c =
    no_memory c.streams_append.ensures c.args.settings.now.file.now (output c.args.settings.now.output.now c.args.settings.now.overwrite) IsFilter (g.H.Host.seen c.args.host.now) c.in-Ok.store
    (g.H.Host.seen c.read_input.new.host) c.in-Ok.ensures

pub returns-in_default-open_output-clause-works : goal.returns-in_default-open_output-clause-works
returns-in_default-open_output-clause-works g c =
    let e = c.in_default-open_output.ensures in
    let text = c.in-Ok-filter.text.items in
    let right = text_right c.args.settings.now.file.now c.in-Ok.store (g.H.Host.seen c.args.host.now) (g.H.Host.seen c.read_input.new.host) text c.in-Ok.ensures c.filters_exist.ensures c.in-Ok-filter.ensures.text in
    output_not_opened c.streams_append.ensures c.args.settings.now.file.now (output c.args.settings.now.output.now c.args.settings.now.overwrite) IsFilter (g.H.Host.seen c.args.host.now) c.in-Ok.store
    (g.H.Host.seen c.read_input.new.host) c.in-Ok.ensures (g.H.Host.seen c.open_output.new.self) e.rest e.left e.cause.never_falls e.bytes_read (whole_of_text text, right, refl) e.cause.failed e.listed_or_not

pub returns-clause-works : goal.returns-clause-works
returns-clause-works g c =
    let e = c.in-Ok-open_output.ensures in
    let text = c.in-Ok-filter.text.items in
    let right = text_right c.args.settings.now.file.now c.in-Ok.store (g.H.Host.seen c.args.host.now) (g.H.Host.seen c.read_input.new.host) text c.in-Ok.ensures c.filters_exist.ensures c.in-Ok-filter.ensures.text in
    output_written c.streams_append.ensures c.args.settings.now.file.now (output c.args.settings.now.output.now c.args.settings.now.overwrite) IsFilter (g.H.Host.seen c.args.host.now) c.in-Ok.store
    (g.H.Host.seen c.read_input.new.host) c.in-Ok.ensures (g.H.Host.seen c.open_output.new.self) e.rest e.left e.cause.never_falls e.bytes_read e.listed e.cause.answered
    (g.H.Host.seen c.write_text.new.host) c.write_text.result
    (right_written (IsFilter c.in-Ok.store) text right c.write_text.result (g.H.Host.seen c.open_output.new.self) (g.H.Host.seen c.write_text.new.host)
    (subst (λ sent. WroteOver (IsText sent) c.write_text.result (g.H.Host.seen c.open_output.new.self) (g.H.Host.seen c.write_text.new.host)) c.deref.ensures.value c.write_text.ensures.works))

pub returns-in-Err-clause-spares : goal.returns-in-Err-clause-spares
returns-in-Err-clause-spares g c =
    first_spared c.args.settings.now.file.now [] (g.H.Host.seen c.args.host.now) (g.H.Host.seen c.read_input.new.host) c.in-Err.ended c.in-Err.ensures

pub returns-in_default-clause-spares : goal.returns-in_default-clause-spares
returns-in_default-clause-spares g c = λ is. record { opened = 1; opens = c.in-Ok.ensures.opens; out = c.in-Ok.ensures.silent.out }

pub returns-in_default-open_output-clause-spares : goal.returns-in_default-open_output-clause-spares
returns-in_default-open_output-clause-spares g c = λ is. absurd (cc)

pub returns-clause-spares : goal.returns-clause-spares
returns-clause-spares g c = λ is. absurd (c.write_text.ensures.not_memory is)
