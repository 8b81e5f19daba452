use Rattle.std.proofs.Common.{inl, inr}
use Rattle.osm_job.proofs.BothRead.{both_read, no_text}
use Rattle.osm_job.proofs.input.read_both.Goals as goal

pub returns-in-Err : goal.returns-in-Err
returns-in-Err g c = inl c.in-Err.ensures

pub returns-in-Ok-read_content : goal.returns-in-Ok-read_content
returns-in-Ok-read_content g c =
    both_read c.streams_append.ensures c.args.file.now c.args.text.now c.in-Ok.store (g.H.Host.seen c.args.host.now) (g.H.Host.seen c.read_input.new.host) c.in-Ok.ensures
    (g.H.Host.seen c.read_content.new.host) c.in-Ok-read_content.content.items c.in-Ok-read_content.ensures

pub returns-in-Err-read_content : goal.returns-in-Err-read_content
returns-in-Err-read_content g c =
    inr (no_text c.streams_append.ensures c.args.file.now c.args.text.now c.in-Ok.store (g.H.Host.seen c.args.host.now) (g.H.Host.seen c.read_input.new.host) c.in-Ok.ensures
    (g.H.Host.seen c.read_content.new.host) c.in-Err-read_content.ended c.in-Err-read_content.ensures)
