use Rattle.osm_host.specs.Outside.{output}
use Rattle.osm_words.specs.Answers.{settings_seen}
use Rattle.osm_job.proofs.InputThenOutput.{lacks_input, no_memory, output_not_opened, output_written}
use Rattle.job_export.specs.Export.{IsExport}
use Rattle.job_export.proofs.Exports.{export_goes_out}
use Rattle.job_export.proofs.work.export.Goals as goal

pub returns-in-Err : goal.returns-in-Err
returns-in-Err g c =
    lacks_input c.streams_append.ensures c.args.settings.now.file.now (output c.args.settings.now.output.now c.args.settings.now.overwrite) (IsExport (settings_seen c.args.settings.now))
    (g.H.Host.seen c.args.host.now) c.in-Err.ended (g.H.Host.seen c.read_input.new.host) c.in-Err.ensures

pub returns-in_default : goal.returns-in_default
returns-in_default g c =
    no_memory c.streams_append.ensures c.args.settings.now.file.now (output c.args.settings.now.output.now c.args.settings.now.overwrite) (IsExport (settings_seen c.args.settings.now))
    (g.H.Host.seen c.args.host.now) c.in-Ok.store (g.H.Host.seen c.read_input.new.host) c.in-Ok.ensures

pub returns-in_default-open_output : goal.returns-in_default-open_output
returns-in_default-open_output g c =
    let e = c.in_default-open_output.ensures in
    output_not_opened c.streams_append.ensures c.args.settings.now.file.now (output c.args.settings.now.output.now c.args.settings.now.overwrite) (IsExport (settings_seen c.args.settings.now))
    (g.H.Host.seen c.args.host.now) c.in-Ok.store (g.H.Host.seen c.read_input.new.host) c.in-Ok.ensures (g.H.Host.seen c.open_output.new.self) e.rest e.left e.cause.never_falls e.bytes_read
    (export_goes_out c.export_exists.ensures (settings_seen c.args.settings.now) c.in-Ok.store) e.cause.failed e.listed_or_not

pub returns : goal.returns
returns g c =
    let e = c.in-Ok-open_output.ensures in
    output_written c.streams_append.ensures c.args.settings.now.file.now (output c.args.settings.now.output.now c.args.settings.now.overwrite) (IsExport (settings_seen c.args.settings.now))
    (g.H.Host.seen c.args.host.now) c.in-Ok.store (g.H.Host.seen c.read_input.new.host) c.in-Ok.ensures (g.H.Host.seen c.open_output.new.self) e.rest e.left e.cause.never_falls e.bytes_read e.listed e.cause.answered
    (g.H.Host.seen c.write_export.new.host) c.write_export.result c.write_export.ensures
