use Rattle.std.proofs.Common.{◌∙◌, ◌<◌, length, rules}
use Rattle.osm_elements.proofs.HeldLemmas.{fewer_bytes, last_goes_on}
use Rattle.osm_elements.proofs.refs.last_behind.Goals as goal

pub loop-last-smaller : goal.loop-last-smaller
loop-last-smaller c =
    let some : 0 < length c.loop-last.rest.now = search rules in
    rw c.after_ref-rest.ensures (fewer_bytes c.loop-last.rest.now some)

pub loop-last-preserved : goal.loop-last-preserved
loop-last-preserved c =
    let some : 0 < length c.loop-last.rest.now = search rules in
    rw c.after_ref-rest.ensures (last_goes_on c.args.first _ c.loop-last.rest.now some ∙ c.loop-last.invariant)
