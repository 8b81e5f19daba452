-- Each ending by its lemma on a job that reads an input and a text and then opens an output.
use Rattle.std.proofs.Common.{[], ◌∷◌, refl, subst}
use Rattle.osm_host.specs.Outside.{output}
use Rattle.osm_job.proofs.BothThenOutput.{both_not_opened, both_written, lacks_both}
use Rattle.osm_job.proofs.Sparing.{either_spared}
use Rattle.osm_job.proofs.TextWritten.{right_written}
use Rattle.osm_job.specs.TextWhole.{IsText, whole_of_text}
use Rattle.osm_job.specs.Worked.{WroteOver}
use Rattle.osm_input.specs.PointLines.Errors.{IsErrorOf}
use Rattle.osm_words.specs.Answers.{locate_seen}
use Rattle.job_small.proofs.Locating.Located.{no_points, ran_out_read, text_right}
use Rattle.job_small.specs.Locating.Locate.{IsLocate}
use Rattle.job_small.proofs.locate.work.locate_points.Goals as goal

pub returns-in-Err-clause-works : goal.returns-in-Err-clause-works
returns-in-Err-clause-works g c =
    lacks_both c.streams_append.ensures c.args.settings.now.file.now c.args.settings.now.points.now (output c.args.settings.now.output.now c.args.settings.now.overwrite ∷ [])
    (IsLocate (locate_seen c.args.settings.now)) (g.H.Host.seen c.args.host.now) c.in-Err.ended (g.H.Host.seen c.read_both.new.host) c.in-Err.ensures

pub returns-in-Err-read_points-clause-works : goal.returns-in-Err-read_points-clause-works
returns-in-Err-read_points-clause-works g c =
    rw c.points_ended.ensures
    (no_points c.streams_append.ensures (locate_seen c.args.settings.now) (g.H.Host.seen c.args.host.now) c.in-Ok.both.0 c.in-Ok.both.1.items (g.H.Host.seen c.read_both.new.host)
    c.in-Ok.ensures c.in-Err-read_points.error (subst (λ text. IsErrorOf text c.in-Err-read_points.error) c.deref.ensures.value c.in-Err-read_points.ensures.bad))

pub returns-in_default-clause-works : goal.returns-in_default-clause-works
returns-in_default-clause-works g c =
    ran_out_read c.streams_append.ensures (locate_seen c.args.settings.now) (g.H.Host.seen c.args.host.now) c.in-Ok.both.0 c.in-Ok.both.1.items (g.H.Host.seen c.read_both.new.host) c.in-Ok.ensures

pub returns-in_default-open_output-clause-works : goal.returns-in_default-open_output-clause-works
returns-in_default-open_output-clause-works g c =
    let e = c.in_default-open_output.ensures in
    let settings = locate_seen c.args.settings.now in
    let lines = c.in-Ok-lines_for.lines.items in
    let right = text_right settings c.in-Ok.both.0 c.in-Ok.both.1.items c.deref.result.now c.in-Ok-read_points.points.items c.deref-2.result.now lines c.deref.ensures.value
    c.in-Ok-read_points.ensures.points c.deref-2.ensures.value c.in-Ok-lines_for.ensures in
    both_not_opened c.streams_append.ensures c.args.settings.now.file.now c.args.settings.now.points.now (output c.args.settings.now.output.now c.args.settings.now.overwrite)
    (IsLocate settings) (g.H.Host.seen c.args.host.now) c.in-Ok.both.0 c.in-Ok.both.1.items (g.H.Host.seen c.read_both.new.host) c.in-Ok.ensures
    (g.H.Host.seen c.open_output.new.self) e.rest e.left e.cause.never_falls e.bytes_read (whole_of_text lines, right, refl) e.cause.failed e.listed_or_not

pub returns-clause-works : goal.returns-clause-works
returns-clause-works g c =
    let e = c.in-Ok-open_output.ensures in
    let settings = locate_seen c.args.settings.now in
    let lines = c.in-Ok-lines_for.lines.items in
    let right = text_right settings c.in-Ok.both.0 c.in-Ok.both.1.items c.deref.result.now c.in-Ok-read_points.points.items c.deref-2.result.now lines c.deref.ensures.value
    c.in-Ok-read_points.ensures.points c.deref-2.ensures.value c.in-Ok-lines_for.ensures in
    both_written c.streams_append.ensures c.args.settings.now.file.now c.args.settings.now.points.now (output c.args.settings.now.output.now c.args.settings.now.overwrite)
    (IsLocate settings) (g.H.Host.seen c.args.host.now) c.in-Ok.both.0 c.in-Ok.both.1.items (g.H.Host.seen c.read_both.new.host) c.in-Ok.ensures
    (g.H.Host.seen c.open_output.new.self) e.rest e.left e.cause.never_falls e.bytes_read e.listed e.cause.answered (g.H.Host.seen c.write_text.new.host) c.write_text.result
    (right_written (IsLocate settings c.in-Ok.both.0 c.in-Ok.both.1.items) lines right c.write_text.result (g.H.Host.seen c.open_output.new.self) (g.H.Host.seen c.write_text.new.host)
    (subst (λ sent. WroteOver (IsText sent) c.write_text.result (g.H.Host.seen c.open_output.new.self) (g.H.Host.seen c.write_text.new.host)) c.deref-3.ensures.value
    c.write_text.ensures.works))

-- ---- where memory ran out

pub returns-in-Err-clause-spares : goal.returns-in-Err-clause-spares
returns-in-Err-clause-spares g c =
    either_spared c.args.settings.now.file.now c.args.settings.now.points.now (g.H.Host.seen c.args.host.now) (g.H.Host.seen c.read_both.new.host) c.in-Err.ended c.in-Err.ensures

pub returns-in-Err-read_points-clause-spares : goal.returns-in-Err-read_points-clause-spares
returns-in-Err-read_points-clause-spares g c =
    λ is. record { opened = 2; opens = c.in-Ok.ensures.opens; out = c.in-Ok.ensures.silent.out }

pub returns-in_default-clause-spares : goal.returns-in_default-clause-spares
returns-in_default-clause-spares g c =
    λ is. record { opened = 2; opens = c.in-Ok.ensures.opens; out = c.in-Ok.ensures.silent.out }

pub returns-in_default-open_output-clause-spares : goal.returns-in_default-open_output-clause-spares
returns-in_default-open_output-clause-spares g c = λ is. absurd (cc)

pub returns-clause-spares : goal.returns-clause-spares
returns-clause-spares g c = λ is. absurd (c.write_text.ensures.not_memory is)
