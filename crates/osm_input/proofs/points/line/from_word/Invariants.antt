use Rattle.std.proofs.Common.{◌≡◌, length}
use Rattle.osm_input.specs.PointLines.Lines.{words_in}
use Rattle.osm_input.proofs.points.line.from_word.Given as goal

abbrev pub invariant-loop-rest : goal.invariant-loop-rest
invariant-loop-rest l = words_in l.rest ≡ words_in l.text

abbrev pub decreases-loop-rest : goal.decreases-loop-rest
decreases-loop-rest l = length l.rest
