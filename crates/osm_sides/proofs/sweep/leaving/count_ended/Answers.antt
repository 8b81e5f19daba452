use Rattle.std.proofs.Common.{ap, sym, ◌∙◌}
use Rattle.lists.proofs.ListsKit.{same_get}
use Rattle.osm_sides.specs.Sweep.{ends_above}
use Rattle.osm_sides.proofs.SweptHeights.{above-from}
use Rattle.osm_sides.proofs.sweep.leaving.count_ended.Goals as goal

pub returns-else-not-is_above-clause-stay : goal.returns-else-not-is_above-clause-stay
returns-else-not-is_above-clause-stay c =
    let ends = c.args.ends.now in let count = c.loop-count.count in let y = c.args.at.y in let t = c.index-ends-count.result in
    above-from y ends c.requires.rise count
    (λ d. ap (ends_above y) (same_get ends count d t c.loop-count-test.true ∙ sym c.index-ends-count.is) ∙ sym c.is_above.ensures ∙ c.if-not-is_above.false)
