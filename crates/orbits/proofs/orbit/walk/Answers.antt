use Rattle.std.proofs.Common.{◌≡◌, ◌≢◌, ◌++◌, ◌∷◌, [], Some, arith, rules}
use Rattle.orbits.specs.Orbits.{after}
use Rattle.orbits.proofs.Reading.{length_push}
use Rattle.orbits.proofs.Walks.{walk_to_more, walk_short}
use Rattle.orbits.proofs.orbit.walk.Goals as goal

pub loop-place-preserved : goal.loop-place-preserved
loop-place-preserved c =
    let on : after c.args.next.now c.loop-place.place ≡ Some c.in-Some.after = search rules in
    let new : c.in-Some.after ≢ c.args.from = search rules in
    rw c.in_ok-push-2.ensures.items (walk_to_more c.args.next.now c.requires.map c.args.from c.loop-place.place c.in-Some.after c.loop-place.walk.items c.loop-place.invariant on new)

pub loop-place-smaller : goal.loop-place-smaller
loop-place-smaller c =
    let on : after c.args.next.now c.loop-place.place ≡ Some c.in-Some.after = search rules in
    let new : c.in-Some.after ≢ c.args.from = search rules in
    let walk = walk_to_more c.args.next.now c.requires.map c.args.from c.loop-place.place c.in-Some.after c.loop-place.walk.items c.loop-place.invariant on new in
    let short = walk_short c.args.next.now c.requires.map (c.loop-place.walk.items ++ c.in-Some.after ∷ []) walk.walk in
    let long = length_push c.loop-place.walk.items c.in-Some.after in
    rw c.in_ok-push-2.ensures.items (omega arith)
