use Rattle.std.proofs.Common.{rules, ℕ, Vec, Ok, Err}
use Rattle.std.specs.declared.alloc.Global.{Global}
use Rattle.osm_job.specs.Sent.{to_output}
use Rattle.osm_job.proofs.Writes.{next_wrote, next_failed, same_line}
use Rattle.osm_job.proofs.writing.write_pieces.Goals as goal

pub returns-in-Err : goal.returns-in-Err
returns-in-Err g c =
    next_failed to_output (λ (piece : Vec ℕ Global). piece.items) c.args.pieces.now c.loop-piece.piece-index c.piece-item.result c.loop-piece-test.true
    (g.H.Host.seen c.args.host.now) (g.H.Host.seen c.loop-piece.host) (g.H.Host.seen c.write_out.new.host) c.in-Err.fault c.loop-piece.invariant
    (same_line to_output _ _ _ (g.H.Host.seen c.loop-piece.host) (g.H.Host.seen c.write_out.new.host) (Err c.in-Err.fault) c.piece-item.is c.deref.ensures.value c.in-Err.ensures)

pub loop-piece-preserved : goal.loop-piece-preserved
loop-piece-preserved g c =
    next_wrote to_output (λ (piece : Vec ℕ Global). piece.items) c.args.pieces.now c.loop-piece.piece-index c.piece-item.result c.loop-piece-test.true
    (g.H.Host.seen c.args.host.now) (g.H.Host.seen c.loop-piece.host) (g.H.Host.seen c.write_out.new.host) c.loop-piece.invariant
    (same_line to_output _ _ _ (g.H.Host.seen c.loop-piece.host) (g.H.Host.seen c.write_out.new.host) (Ok tt) c.piece-item.is c.deref.ensures.value (search rules))
