-- A walk whose nodes no other edge leaves is its own piece.
use Rattle.std.proofs.Common.{All, [], false, get_or, subst, true, ◌∷◌, ◌≡◌}
use Rattle.osm_rings.proofs.PieceSteps.{apart-walk}
use Rattle.osm_rings.proofs.pieces.add_walk.Goals as goal

pub returns-then-is_apart : goal.returns-then-is_apart
returns-then-is_apart c =
    let numbers = c.args.nodes.now.numbers.items in let marks = c.args.nodes.now.shared.items in let walk = c.args.walk.now in
    let apart : All (λ i. get_or marks i true ≡ false) walk = subst (λ ms. All (λ i. get_or ms i true ≡ false) walk) c.deref.ensures.value (c.is_apart.ensures c.if-is_apart.true) in
    record {
      pieces = walk ∷ [];
      cut = apart-walk numbers walk marks c.requires.own c.requires.within c.requires.some c.requires.once apart;
      along = c.in_ok-add_piece.ensures;
    }
