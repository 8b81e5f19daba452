use Rattle.osm_job.proofs.InputRead.{input_not_opened, input_read, input_not_read}
use Rattle.osm_job.proofs.input.read_input.Goals as goal

pub returns-in_default : goal.returns-in_default
returns-in_default g c =
    input_not_opened c.args.name.now (g.H.Host.seen c.args.host.now) (g.H.Host.seen c.open_input.new.self)
    c.in_default.ensures.rest c.in_default.ensures.told c.in_default.ensures.cause.never_falls c.in_default.ensures.cause.failed c.in_default.ensures.listed_or_not

pub returns-in-Ok-read_all : goal.returns-in-Ok-read_all
returns-in-Ok-read_all g c =
    input_read c.args.name.now (g.H.Host.seen c.args.host.now) (g.H.Host.seen c.open_input.new.self)
    c.in-Ok.ensures.rest c.in-Ok.ensures.told c.in-Ok.ensures.cause.never_falls c.in-Ok.ensures.listed c.in-Ok.ensures.begins c.in-Ok.ensures.none_read c.in-Ok.ensures.cause.answered
    (g.H.Host.seen c.read_all.new.host) c.in-Ok-read_all.ensures.rest c.in-Ok-read_all.ensures.keeps c.in-Ok-read_all.store c.in-Ok-read_all.ensures.reads c.in-Ok-read_all.ensures.told c.in-Ok-read_all.ensures.at_once

pub returns-in-Err : goal.returns-in-Err
returns-in-Err g c =
    rw c.ending_of_read.ensures (input_not_read c.args.name.now (g.H.Host.seen c.args.host.now) (g.H.Host.seen c.open_input.new.self)
    c.in-Ok.ensures.rest c.in-Ok.ensures.told c.in-Ok.ensures.cause.never_falls c.in-Ok.ensures.listed c.in-Ok.ensures.begins c.in-Ok.ensures.none_read c.in-Ok.ensures.cause.answered
    (g.H.Host.seen c.read_all.new.host) c.in-Err.ensures.rest c.in-Err.ensures.keeps c.in-Err.error c.in-Err.ensures.reads c.in-Err.ensures.told c.in-Err.ensures.at_once)
