use Rattle.std.proofs.Common.{◌∙◌}
use Rattle.osm_words.specs.Answers.{settings_seen}
use Rattle.job_export.proofs.Wholes.{header_failed, candidates_halted, footer_failed, whole_written}
use Rattle.job_export.proofs.work.write_whole.Goals as goal

pub returns-in_default : goal.returns-in_default
returns-in_default g c =
    header_failed (settings_seen c.args.settings.now) c.args.store.now c.outcome_exists.ensures c.problem_line_exists.ensures c.as_bytes.result.now (c.as_bytes.ensures.value ∙ c.header.ensures)
    (g.H.Host.seen c.args.host.now) (g.H.Host.seen c.write_out.new.host) c.in_default.field-0 c.in_default.ensures

pub returns-in-Err : goal.returns-in-Err
returns-in-Err g c =
    candidates_halted (settings_seen c.args.settings.now) c.args.store.now c.as_bytes.result.now (c.as_bytes.ensures.value ∙ c.header.ensures)
    (g.H.Host.seen c.args.host.now) (g.H.Host.seen c.write_out.new.host) c.in-Ok.field-0 c.in-Ok.ensures c.args.candidates.now c.requires.all (g.H.Host.seen c.write_candidates.new.host)
    c.outcome_exists.ensures c.problem_line_exists.ensures c.in-Err.halt c.in-Err.ensures

pub returns-in_default-write_out : goal.returns-in_default-write_out
returns-in_default-write_out g c =
    footer_failed (settings_seen c.args.settings.now) c.args.store.now c.as_bytes.result.now (c.as_bytes.ensures.value ∙ c.header.ensures)
    (g.H.Host.seen c.args.host.now) (g.H.Host.seen c.write_out.new.host) c.in-Ok.field-0 c.in-Ok.ensures c.args.candidates.now c.requires.all (g.H.Host.seen c.write_candidates.new.host)
    c.in_default-write_candidates.field-0 c.in_default-write_candidates.ensures c.as_bytes-2.result.now (c.as_bytes-2.ensures.value ∙ c.footer.ensures) (g.H.Host.seen c.write_out-2.new.host)
    c.in_default-write_out.field-0 c.in_default-write_out.ensures

pub returns : goal.returns
returns g c =
    whole_written (settings_seen c.args.settings.now) c.args.store.now c.as_bytes.result.now (c.as_bytes.ensures.value ∙ c.header.ensures)
    (g.H.Host.seen c.args.host.now) (g.H.Host.seen c.write_out.new.host) c.in-Ok.field-0 c.in-Ok.ensures c.args.candidates.now c.requires.all (g.H.Host.seen c.write_candidates.new.host)
    c.in_default-write_candidates.field-0 c.in_default-write_candidates.ensures c.as_bytes-2.result.now (c.as_bytes-2.ensures.value ∙ c.footer.ensures) (g.H.Host.seen c.write_out-2.new.host)
    c.in-Ok-write_out.field-0 c.in-Ok-write_out.ensures
