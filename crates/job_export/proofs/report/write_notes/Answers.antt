-- One note more, or the first at which the run is broken off.
use Rattle.std.proofs.Common.{Err, Ok, [], take, ◌+◌, ◌≡◌}
use Rattle.osm_text.specs.Report.{note_line}
use Rattle.job_export.proofs.ReportLines.{AreNoteLines, done_again, notes_halted, notes_next, text_behind}
use Rattle.job_export.proofs.report.write_notes.Goals as goal

pub returns-in-Err : goal.returns-in-Err
returns-in-Err g c =
    let of = c.args.of in let notes = c.args.notes.now in let k = c.loop-note.note-index in let n = c.note-item.result in
    notes_halted of notes k n c.loop-note-test.true c.note-item.is (g.H.Host.seen c.args.host.now) (g.H.Host.seen c.write_note.new.host) c.in-Err.halt
    (text_behind [] (AreNoteLines of (take k notes)) (λ text. text ≡ note_line of n) (AreNoteLines of (take (k + 1) notes)) (g.H.Host.seen c.args.host.now) (g.H.Host.seen c.loop-note.host) (g.H.Host.seen c.write_note.new.host) tt (Err c.in-Err.halt)
    c.loop-note.invariant c.in-Err.ensures (notes_next of notes k n c.loop-note-test.true c.note-item.is))

pub loop-note-preserved : goal.loop-note-preserved
loop-note-preserved g c =
    let of = c.args.of in let notes = c.args.notes.now in let k = c.loop-note.note-index in let n = c.note-item.result in
    done_again [] (AreNoteLines of (take (k + 1) notes)) (g.H.Host.seen c.args.host.now) (g.H.Host.seen c.write_note.new.host) c.in_default.field-0 tt
    (text_behind [] (AreNoteLines of (take k notes)) (λ text. text ≡ note_line of n) (AreNoteLines of (take (k + 1) notes)) (g.H.Host.seen c.args.host.now) (g.H.Host.seen c.loop-note.host) (g.H.Host.seen c.write_note.new.host) tt (Ok c.in_default.field-0)
    c.loop-note.invariant c.in_default.ensures (notes_next of notes k n c.loop-note-test.true c.note-item.is))
