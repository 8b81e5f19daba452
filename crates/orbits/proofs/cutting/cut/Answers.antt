-- Each item is cut off or put on the stack; what is left at the end is the last piece.
use Rattle.std.proofs.Common.{◌≡◌, ◌<◌, ◌++◌, ◌∷◌, [], map, drop, get_or, length, refl, arith, rules}
use Rattle.std.proofs.lemmas.List.{map-append, drop_all}
use Rattle.orbits.proofs.CutSteps.{step_taken, cut_rest, cut_all}
use Rattle.orbits.proofs.cutting.cut.Goals as goal
use Rattle.orbits.proofs.cutting.cut.Goals.{then-not-is_empty+in_ok-push, else-not-is_empty}

pub loop-item-preserved : goal.loop-item-preserved
loop-item-preserved c =
    let keys = c.args.keys.now in
    let walk = c.args.walk.now in
    let depths = c.loop-item.depths in
    let place = c.loop-item.item-index in
    let item = get_or walk place 0 in
    let l : place < length walk = c.loop-item-test.true in
    let keyed : item < length keys = c.requires.keyed place 0 l in
    let within : get_or keys item 0 < length c.args.depths.now = c.requires.room item 0 keyed in
    step_taken keys walk depths place (map (λ p. p.items) c.loop-item.pieces.items) c.loop-item.stack.items c.loop-item.invariant item _ _ _ l refl keyed (omega arith) c.in_ok-take_item.ensures

pub returns : goal.returns
returns c =
    let keys = c.args.keys.now in
    let walk = c.args.walk.now in
    let depths = c.loop-item.depths in
    let place = c.loop-item.item-index in
    let stack = c.loop-item.stack.items in
    let pieces = map (λ p. p.items) c.loop-item.pieces.items in
    let none : drop place walk ≡ [] = drop_all place walk c.loop-item-test.false in
    elim c.if-not-is_empty.branch [
      | then-not-is_empty+in_ok-push w ↦
          let is : map (λ p. p.items) c.if-not-is_empty.pieces.items ≡ pieces ++ stack ∷ [] = rw (w.pieces-is, w.in_ok-push.ensures.items, map-append) refl in
          rw is (cut_rest keys walk depths place pieces stack c.loop-item.invariant none (search rules))
      | else-not-is_empty w ↦ rw w.pieces-is (cut_all keys walk depths place pieces stack c.loop-item.invariant none (search rules))
    ]
