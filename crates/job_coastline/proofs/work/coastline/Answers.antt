-- Each ending by its lemma on a job that reads an input and then opens an output.
use Rattle.osm_host.specs.Outside.{output}
use Rattle.osm_words.specs.Answers.{coastline_seen}
use Rattle.osm_job.proofs.InputThenOutput.{lacks_input, output_not_opened, output_written}
use Rattle.job_coastline.specs.Coastline.{IsCoastline}
use Rattle.job_coastline.proofs.CoastWhole.{goes_out, not_split}
use Rattle.job_coastline.proofs.work.coastline.Goals as goal

pub returns-in-Err : goal.returns-in-Err
returns-in-Err g c =
    lacks_input c.streams_append.ensures c.args.settings.now.file.now (output c.args.settings.now.output.now c.args.settings.now.overwrite) (IsCoastline (coastline_seen c.args.settings.now))
    (g.H.Host.seen c.args.host.now) c.in-Err.ended (g.H.Host.seen c.read_input.new.host) c.in-Err.ensures

pub returns-in-Err-outlines_in : goal.returns-in-Err-outlines_in
returns-in-Err-outlines_in g c =
    rw c.ended_unsplit.ensures
    (not_split c.streams_append.ensures (coastline_seen c.args.settings.now) c.args.settings.now.file.now (output c.args.settings.now.output.now c.args.settings.now.overwrite)
    (g.H.Host.seen c.args.host.now) c.in-Ok.store (g.H.Host.seen c.read_input.new.host) c.in-Ok.ensures c.in-Err-outlines_in.error c.in-Err-outlines_in.ensures.many)

pub returns-in_default : goal.returns-in_default
returns-in_default g c =
    let e = c.in_default.ensures in
    let settings = coastline_seen c.args.settings.now in
    let counted = c.in-Ok-outlines_in.ensures.counted in
    output_not_opened c.streams_append.ensures c.args.settings.now.file.now (output c.args.settings.now.output.now c.args.settings.now.overwrite) (IsCoastline settings)
    (g.H.Host.seen c.args.host.now) c.in-Ok.store (g.H.Host.seen c.read_input.new.host) c.in-Ok.ensures (g.H.Host.seen c.open_output.new.self) e.rest e.left e.cause.never_falls e.bytes_read
    (goes_out settings c.in-Ok.store counted.input counted.is_input c.in-Ok-outlines_in.outlines counted.are c.pieces_exist.ensures.tiles c.pieces_exist.ensures.sided c.pieces_exist.ensures.report counted.few (g.H.Host.seen c.args.host.now))
    e.cause.failed e.listed_or_not

pub returns : goal.returns
returns g c =
    let e = c.in-Ok-open_output.ensures in
    output_written c.streams_append.ensures c.args.settings.now.file.now (output c.args.settings.now.output.now c.args.settings.now.overwrite) (IsCoastline (coastline_seen c.args.settings.now))
    (g.H.Host.seen c.args.host.now) c.in-Ok.store (g.H.Host.seen c.read_input.new.host) c.in-Ok.ensures (g.H.Host.seen c.open_output.new.self) e.rest e.left e.cause.never_falls e.bytes_read e.listed e.cause.answered
    (g.H.Host.seen c.write_all.new.host) c.write_all.result (c.write_all.ensures c.in-Ok.store c.in-Ok-outlines_in.ensures.counted)
