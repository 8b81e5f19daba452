use Rattle.std.proofs.Common.{rules, refl, ap, ◌∙◌, Ok}
use Rattle.osm_input.proofs.BytesTaken.{no_end}
use Rattle.osm_input.proofs.Taking.{nothing_taken, keeps_all, no_reads, read_failed, whole_taken, piece_reads, piece_at_once, limit_passed, piece_taken}
use Rattle.osm_input.proofs.reading.take_pieces.Goals as goal

pub loop-count-init : goal.loop-count-init
loop-count-init g c = record {
  taken = nothing_taken c.args.limit c.args.lines.now.longest (g.H.Host.seen c.args.host.now) c.args.lines.now c.args.store.now c.requires.begins c.requires.empty;
  no_fault = refl;
  goes_on = search rules;
  keeps = keeps_all (g.H.Host.seen c.args.host.now);
  rest = no_reads (g.H.Host.seen c.args.host.now);
}

pub returns-in_default-clause-refused : goal.returns-in_default-clause-refused
returns-in_default-clause-refused g c =
    read_failed c.args.limit c.args.lines.now.longest (g.H.Host.seen c.args.host.now) (g.H.Host.seen c.loop-count.host) c.loop-count.lines c.loop-count.store c.loop-count.room c.loop-count.invariant.taken
    (g.H.Host.seen c.read.new.self) c.in_default.ensures.failed c.in_default.ensures.none_counted

pub returns-then-count-eq0-clause-taken : goal.returns-then-count-eq0-clause-taken
returns-then-count-eq0-clause-taken g c =
    let t = c.loop-count.invariant.taken in
    whole_taken c.args.limit c.args.lines.now.longest (g.H.Host.seen c.args.host.now) (g.H.Host.seen c.loop-count.host) c.loop-count.lines c.loop-count.store c.loop-count.room t (g.H.Host.seen c.read.new.self)
    c.read.new.buf c.in-Ok.count c.if-count-eq0.true c.in-Ok.ensures.taken c.in-Ok.ensures.counted (c.in-Ok.ensures.ended (ap Ok c.if-count-eq0.true) (search rules))

pub returns-in-Err-clause-refused : goal.returns-in-Err-clause-refused
returns-in-Err-clause-refused g c =
    let t = c.loop-count.invariant.taken in
    piece_reads c.args.limit c.args.lines.now.longest (g.H.Host.seen c.args.host.now) (g.H.Host.seen c.loop-count.host) c.loop-count.lines c.loop-count.store c.loop-count.room t (g.H.Host.seen c.read.new.self)
    c.read.new.buf c.in-Ok.count c.min-within.result (search rules) c.in-Ok.ensures.taken c.in-Ok.ensures.counted c.streams_append.ensures.taken (search rules)
    (search rules) c.in-Err.error (c.in-Err.ensures.holds c.args.lines.now.longest t.bytes t.holds)

pub returns-in-Err-clause-at_once : goal.returns-in-Err-clause-at_once
returns-in-Err-clause-at_once g c =
    let t = c.loop-count.invariant.taken in
    piece_at_once c.args.limit c.args.lines.now.longest (g.H.Host.seen c.args.host.now) (g.H.Host.seen c.loop-count.host) c.loop-count.lines c.loop-count.store c.loop-count.room t (g.H.Host.seen c.read.new.self)
    c.read.new.buf c.in-Ok.count c.min-within.result (search rules) c.in-Ok.ensures.taken c.in-Ok.ensures.counted c.streams_append.ensures.taken (search rules)
    c.in-Err.error (c.in-Err.ensures.holds c.args.lines.now.longest t.bytes t.holds) (search rules)

pub returns-then-within-count-clause-refused : goal.returns-then-within-count-clause-refused
returns-then-within-count-clause-refused g c =
    let t = c.loop-count.invariant.taken in
    limit_passed c.args.limit c.args.lines.now.longest (g.H.Host.seen c.args.host.now) (g.H.Host.seen c.loop-count.host) c.loop-count.lines c.loop-count.store c.loop-count.room t (g.H.Host.seen c.read.new.self)
    c.read.new.buf c.in-Ok.count c.min-within.result (search rules) c.in-Ok.ensures.taken c.in-Ok.ensures.counted c.streams_append.ensures.taken (search rules)
    c.read_piece.new.lines c.read_piece.new.store (c.in_default-read_piece.ensures.holds c.args.lines.now.longest t.bytes t.holds) (search rules) (search rules)

pub loop-count-preserved : goal.loop-count-preserved
loop-count-preserved g c =
    let t = c.loop-count.invariant.taken in
    record {
      taken = piece_taken c.args.limit c.args.lines.now.longest (g.H.Host.seen c.args.host.now) (g.H.Host.seen c.loop-count.host) c.loop-count.lines c.loop-count.store c.loop-count.room t (g.H.Host.seen c.read.new.self)
          c.read.new.buf c.in-Ok.count c.min-within.result (search rules) c.in-Ok.ensures.taken c.in-Ok.ensures.counted c.streams_append.ensures.taken (search rules)
          c.read_piece.new.lines c.read_piece.new.store (c.in_default-read_piece.ensures.holds c.args.lines.now.longest t.bytes t.holds) _ (search rules) refl;
      no_fault = search rules;
      goes_on = c.in-Ok.ensures.at_end ∙ no_end c.in-Ok.count _ c.if-count-eq0.false;
      keeps = search rules;
      rest = search rules;
    }
