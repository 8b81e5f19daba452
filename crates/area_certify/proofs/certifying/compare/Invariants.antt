use Rattle.std.proofs.Common.{◌≤◌, take}
use Rattle.area_certify.specs.Lines.{text_lines}
use Rattle.area_certify.proofs.RightLines.{IsSeen}
use Rattle.area_certify.proofs.certifying.compare.Given as goal

abbrev pub invariant-loop-candidate : goal.invariant-loop-candidate
invariant-loop-candidate l = (l.right ≤ l.candidate-index) × IsSeen l.ids l.store (take l.candidate-index l.candidates) (text_lines l.text)
    (text_lines l.rest) l.right
