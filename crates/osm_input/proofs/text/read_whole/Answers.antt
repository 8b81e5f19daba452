use Rattle.std.proofs.Common.{rules, refl, ap, ◌∙◌, Ok}
use Rattle.osm_input.proofs.BytesTaken.{no_end}
use Rattle.osm_input.proofs.Taking.{keeps_all, no_reads}
use Rattle.osm_input.proofs.TextTaken.{no_text_taken, text_failed, text_whole, text_passed, text_more}
use Rattle.osm_input.proofs.text.read_whole.Goals as goal

pub loop-count-init : goal.loop-count-init
loop-count-init g c = record {
  taken = no_text_taken c.args.limit (g.H.Host.seen c.args.host.now) c.new-text.result.items (search rules);
  no_fault = refl;
  goes_on = search rules;
  keeps = keeps_all (g.H.Host.seen c.args.host.now);
  rest = no_reads (g.H.Host.seen c.args.host.now);
}

pub returns-in_default-clause-reads : goal.returns-in_default-clause-reads
returns-in_default-clause-reads g c =
    text_failed c.args.limit (g.H.Host.seen c.args.host.now) (g.H.Host.seen c.loop-count.host) c.loop-count.text.items c.loop-count.room c.loop-count.invariant.taken
    (g.H.Host.seen c.read.new.self) c.in_default.ensures.failed c.in_default.ensures.none_counted

pub returns-then-count-eq0-clause-reads : goal.returns-then-count-eq0-clause-reads
returns-then-count-eq0-clause-reads g c =
    text_whole c.args.limit (g.H.Host.seen c.args.host.now) (g.H.Host.seen c.loop-count.host) c.loop-count.text.items c.loop-count.room c.loop-count.invariant.taken
    (g.H.Host.seen c.read.new.self) c.read.new.buf c.in-Ok.count c.in-Ok.ensures.taken c.in-Ok.ensures.counted
    c.if-count-eq0.true (c.in-Ok.ensures.ended (ap Ok c.if-count-eq0.true) (search rules))

pub returns-then-room-count-clause-reads : goal.returns-then-room-count-clause-reads
returns-then-room-count-clause-reads g c =
    text_passed c.args.limit (g.H.Host.seen c.args.host.now) (g.H.Host.seen c.loop-count.host) c.loop-count.text.items c.loop-count.room c.loop-count.invariant.taken
    (g.H.Host.seen c.read.new.self) c.read.new.buf c.in-Ok.count c.in-Ok.ensures.taken c.in-Ok.ensures.counted
    (search rules) c.streams_append.ensures.taken (search rules) (search rules)

pub loop-count-preserved : goal.loop-count-preserved
loop-count-preserved g c = record {
  taken = text_more c.args.limit (g.H.Host.seen c.args.host.now) (g.H.Host.seen c.loop-count.host) c.loop-count.text.items c.loop-count.room c.loop-count.invariant.taken
      (g.H.Host.seen c.read.new.self) c.read.new.buf c.in-Ok.count c.in-Ok.ensures.taken c.in-Ok.ensures.counted
      (search rules) c.streams_append.ensures.taken _ _ (search rules) (search rules) refl;
  no_fault = search rules;
  goes_on = c.in-Ok.ensures.at_end ∙ no_end c.in-Ok.count _ c.if-count-eq0.false;
  keeps = search rules;
  rest = search rules;
}
