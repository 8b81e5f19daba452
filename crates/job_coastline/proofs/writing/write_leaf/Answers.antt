use Rattle.std.proofs.Common.{map, ap, ◌++◌, ◌∙◌, subst, Ok, Err, List}
use Rattle.osm_host.specs.declared.host.Failed.{Failed}
use Rattle.osm_job.specs.Sent.{lines_text, to_output}
use Rattle.osm_job.specs.Writes.{Wrote}
use Rattle.osm_text.specs.declared.coast.CoastLine.{CoastLine}
use Rattle.job_coastline.proofs.Made.{leaf_failed, leaf_not_told, leaf_written, no_pieces}
use Rattle.job_coastline.proofs.writing.write_leaf.Goals as goal

pub returns-in_default : goal.returns-in_default
returns-in_default g c =
    no_pieces c.args.kind c.pieces_exist.ensures.tiles c.args.leaf c.requires c.args.lines.now.items c.args.lines.now.items (g.H.Host.seen c.args.host.now)

pub returns-in_default-write_pieces : goal.returns-in_default-write_pieces
returns-in_default-write_pieces g c =
    leaf_failed c.args.kind c.args.leaf c.in-Ok.pieces c.in-Ok.ensures (g.H.Host.seen c.args.host.now) (g.H.Host.seen c.write_pieces.new.host) c.args.lines.now.items c.args.lines.now.items c.in_default-write_pieces.field-0
    (subst (λ ps. Wrote {T = Unit {0}} {E = Failed} (map to_output (lines_text ps)) (g.H.Host.seen c.args.host.now) (g.H.Host.seen c.write_pieces.new.host) (Err c.in_default-write_pieces.field-0)) c.deref.ensures.value c.in_default-write_pieces.ensures)

pub returns-in_default-extend_from_slice : goal.returns-in_default-extend_from_slice
returns-in_default-extend_from_slice g c =
    leaf_not_told c.args.kind c.args.leaf c.in-Ok.pieces c.in-Ok.ensures (g.H.Host.seen c.args.host.now) (g.H.Host.seen c.write_pieces.new.host) c.args.lines.now.items c.extend_from_slice.new.self.items
    (subst (λ ps. Wrote {T = Unit {0}} {E = Failed} (map to_output (lines_text ps)) (g.H.Host.seen c.args.host.now) (g.H.Host.seen c.write_pieces.new.host) (Ok tt)) c.deref.ensures.value c.in-Ok-write_pieces.ensures)

pub returns : goal.returns
returns g c =
    leaf_written c.args.kind c.args.leaf c.in-Ok.pieces c.in-Ok.ensures (g.H.Host.seen c.args.host.now) (g.H.Host.seen c.write_pieces.new.host) c.args.lines.now.items c.extend_from_slice.new.self.items
    (subst (λ ps. Wrote {T = Unit {0}} {E = Failed} (map to_output (lines_text ps)) (g.H.Host.seen c.args.host.now) (g.H.Host.seen c.write_pieces.new.host) (Ok tt)) c.deref.ensures.value c.in-Ok-write_pieces.ensures)
    (c.in-Ok-extend_from_slice.ensures.items ∙ ap (λ (ls : List CoastLine). c.args.lines.now.items ++ ls) c.deref-2.ensures.value)
