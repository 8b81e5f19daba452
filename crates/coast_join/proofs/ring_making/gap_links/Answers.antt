-- One more gap.
use Rattle.std.proofs.Common.{◌≡◌, ◌<◌, length, get_or}
use Rattle.std.proofs.lemmas.List.{get_or_default}
use Rattle.coast_join.specs.declared.gap.Gap.{Gap}
use Rattle.coast_join.proofs.Following.{links_more}
use Rattle.coast_join.proofs.ring_making.gap_links.Goals as goal

pub loop-gap-preserved : goal.loop-gap-preserved
loop-gap-preserved c =
    let gaps = c.args.gaps.now in
    let i = c.loop-gap.gap-index in
    let zero : Gap = record { square = 0; from_chain = 0; to_chain = 0 } in
    let g : Gap = get_or gaps i zero in
    let inside : i < length gaps = c.loop-gap-test.true in
    let is : g ≡ get_or gaps i g = get_or_default gaps i zero g inside in
    links_more gaps c.args.chains i c.loop-gap.links.items g inside is c.requires.from c.requires.apart c.loop-gap.invariant
