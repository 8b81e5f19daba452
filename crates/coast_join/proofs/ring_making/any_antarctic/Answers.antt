-- One more chain.
use Rattle.std.proofs.Common.{◌+◌, ◌∙◌, sym, true, false, arith}
use Rattle.coast_join.proofs.Following.{any_more, any_front}
use Rattle.coast_join.proofs.ring_making.any_antarctic.Goals as goal

pub returns-then-is_antarctic : goal.returns-then-is_antarctic
returns-then-is_antarctic c =
    let i = c.loop-place.place-index in
    let more = any_more c.args.chains.now c.args.places.now i c.index-chains-place.result c.loop-place-test.true (c.requires i 0 c.loop-place-test.true) c.index-chains-place.is true (sym c.is_antarctic.ensures ∙ c.if-is_antarctic.true) c.loop-place.invariant in
    sym (any_front c.args.chains.now c.args.places.now (i + 1) (let l = c.loop-place-test.true in omega arith) more)

pub loop-place-preserved : goal.loop-place-preserved
loop-place-preserved c =
    let i = c.loop-place.place-index in
    any_more c.args.chains.now c.args.places.now i c.index-chains-place.result c.loop-place-test.true (c.requires i 0 c.loop-place-test.true) c.index-chains-place.is false (sym c.is_antarctic.ensures ∙ c.if-is_antarctic.false) c.loop-place.invariant
