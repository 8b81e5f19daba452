-- One more piece; at the end all.
use Rattle.std.proofs.Common.{[], ap, arith, map, subst, sym, take, ◌++◌, ◌∙◌, ◌∷◌, ◌≡◌}
use Rattle.std.proofs.lemmas.List.{append-nil, take_all}
use Rattle.orbits.specs.Along.{StandAlong}
use Rattle.osm_rings.proofs.PieceSteps.{one-more}
use Rattle.osm_rings.proofs.pieces.add_cut.Goals as goal

pub loop-piece-init : goal.loop-piece-init
loop-piece-init c before along = subst (λ ps. StandAlong ps c.args.pieces.now.places.items c.args.pieces.now.sizes.items) (sym (append-nil before)) along

pub loop-piece-preserved : goal.loop-piece-preserved
loop-piece-preserved c before along =
    let k = c.loop-piece.piece-index in let all = c.deref-piece-items.result.now in let x = c.piece-item.result in
    let so_far = c.loop-piece.invariant before along in
    let here = before ++ map (λ p. p.items) (take k all) in
    let one = c.in_ok-add_piece.ensures here so_far in
    subst (λ ps. StandAlong ps c.add_piece.new.pieces.places.items c.add_piece.new.pieces.sizes.items)
    (ap (λ y. here ++ y ∷ []) c.deref.ensures.value ∙ one-more (λ p. p.items) all k x c.loop-piece-test.true c.piece-item.is before)
    one

pub returns : goal.returns
returns c =
    let all = c.deref-piece-items.result.now in
    let whole : take c.loop-piece.piece-index all ≡ all = take_all c.loop-piece.piece-index all (omega arith) in
    record {
      pieces = map (λ p. p.items) c.in_ok-cut.cut.items;
      cut = c.in_ok-cut.ensures;
      along = λ before along. subst (λ ps. StandAlong (before ++ map (λ p. p.items) ps) c.loop-piece.pieces.places.items c.loop-piece.pieces.sizes.items) (whole ∙ c.deref-piece-items.ensures.value) (c.loop-piece.invariant before along);
    }
