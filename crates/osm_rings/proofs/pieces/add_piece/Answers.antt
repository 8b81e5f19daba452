-- One more piece.
use Rattle.std.proofs.Common.{[], subst, sym, ◌++◌, ◌∷◌}
use Rattle.orbits.specs.Along.{StandAlong}
use Rattle.osm_rings.proofs.PieceSteps.{stand-more}
use Rattle.osm_rings.proofs.pieces.add_piece.Goals as goal

pub returns : goal.returns
returns c before along =
    let places = c.args.pieces.now.places.items in let sizes = c.args.pieces.now.sizes.items in let piece = c.args.piece.now in
    subst (λ ps. StandAlong (before ++ piece ∷ []) ps c.push.new.self.items) (sym c.in_ok-extend_from_slice.ensures.items)
    (subst (λ ns. StandAlong (before ++ piece ∷ []) (places ++ piece) ns) (sym c.in_ok-push.ensures.items)
    (stand-more before piece places sizes along))
