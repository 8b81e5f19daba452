use Rattle.std.proofs.Common.{◌≡◌, length, false}
use Rattle.osm_input.proofs.Steps.{Within}
use Rattle.osm_input.proofs.pieces.read_piece.Given as goal

abbrev pub invariant-loop-rest : goal.invariant-loop-rest
invariant-loop-rest l = record {
  goes_on : l.lines.has_ended ≡ false;
  read : Within l.fn.lines l.lines l.fn.store l.store l.piece l.rest;
}

abbrev pub decreases-loop-rest : goal.decreases-loop-rest
decreases-loop-rest l = length l.rest
