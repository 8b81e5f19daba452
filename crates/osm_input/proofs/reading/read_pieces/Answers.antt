use Rattle.std.proofs.Common.{ℕ, Err, ap, subst}
use Rattle.opl_reader.specs.Reader.{Reader}
use Rattle.osm_input.specs.Reading.{Reads}
use Rattle.osm_input.proofs.Taking.{end_reads, end_at_once}
use Rattle.osm_input.proofs.reading.read_pieces.Goals as goal

pub returns-in-Err-clause-reads : goal.returns-in-Err-clause-reads
returns-in-Err-clause-reads g c =
    subst (λ (n : ℕ). Reads c.args.limit n (g.H.Host.seen c.args.host.now) (g.H.Host.seen c.take_pieces.new.host) (Err c.in-Err.error))
    (ap (λ (r : Reader). r.longest) c.new-lines.ensures) c.in-Err.ensures.refused

pub returns-clause-reads : goal.returns-clause-reads
returns-clause-reads g c =
    let longest = c.new-lines.result.longest in
    let t = c.in_default.ensures.taken in
    let before = g.H.Host.seen c.args.host.now in
    let now = g.H.Host.seen c.take_pieces.new.host in
    subst (λ (n : ℕ). Reads c.args.limit n before now c.finish.result) (ap (λ (r : Reader). r.longest) c.new-lines.ensures)
    (end_reads c.args.limit longest before now c.take_pieces.new.lines c.take_pieces.new.store t c.finish.result (c.finish.ensures longest t.bytes t.holds))

pub returns-clause-at_once : goal.returns-clause-at_once
returns-clause-at_once g c =
    let longest = c.new-lines.result.longest in
    let t = c.in_default.ensures.taken in
    end_at_once longest t.bytes (g.H.Host.seen c.args.host.now) (g.H.Host.seen c.take_pieces.new.host) c.finish.result (c.finish.ensures longest t.bytes t.holds) c.in_default.ensures.no_fault
