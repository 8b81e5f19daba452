use Rattle.std.proofs.Common.{◌≡◌, ◌∙◌, sym, ap, ◌+◌, ◌-◌, take, drop, length, ◌∷◌, arith, List, ℕ}
use Rattle.std.proofs.lemmas.List.{take_all, length-drop}
use Rattle.opl_reader.specs.Lines.{is_newline}
use Rattle.opl_reader.proofs.ReaderKit.{parts-none, parts-some}
use Rattle.osm_input.specs.PointLines.Points.{lines_parted}
use Rattle.osm_input.proofs.points.reading.next_line.Goals as goal

pub returns-in-Some-clause-lines : goal.returns-in-Some-clause-lines
returns-in-Some-clause-lines c =
    let text = c.args.text.now in
    let k = c.in-Some.end in
    let left : take (length text - (k + 1)) (drop (k + 1) text) ≡ drop (k + 1) text = take_all (length text - (k + 1)) (drop (k + 1) text) (omega (arith, length-drop (k + 1) text)) in
    parts-some is_newline text k c.in-Some.ensures.0 c.in-Some.ensures.1 ∙ ap (λ (rest : List ℕ). take k text ∷ lines_parted rest) (sym left)

pub returns-in-None-clause-lines : goal.returns-in-None-clause-lines
returns-in-None-clause-lines c = parts-none is_newline c.args.text.now c.in-None.ensures
