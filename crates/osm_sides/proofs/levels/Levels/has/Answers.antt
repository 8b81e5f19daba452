-- More begin by the location than end before it exactly where some have it on them.
use Rattle.std.proofs.Common.{ap, nat_lt, subst, sym, ◌∙◌}
use Rattle.std.specs.Prelude.{nat_le}
use Rattle.std.specs.List.{count_by}
use Rattle.std.specs.List.Sorted.{IsSorted}
use Rattle.std.specs.Ordering.{nat_cmp}
use Rattle.osm_sides.specs.PointSteps.{is_level_on, place_number}
use Rattle.osm_sides.proofs.LevelCounts.{level_count, more_begun}
use Rattle.osm_sides.proofs.levels.Levels.has.Goals as goal

pub returns : goal.returns
returns c segs are =
    let n = place_number c.args.p in let told = c.place_number-place.ensures in let i = c.count_up_to-begun.result in let j = c.count_below-ended.result in
    let begun = ap (count_by (λ m. nat_le m n)) (sym c.deref.ensures.value) ∙ ap (λ k. count_by (λ m. nat_le m k) c.deref.result.now) (sym told) ∙ c.count_up_to-begun.ensures (subst (IsSorted nat_cmp) (sym c.deref.ensures.value) are.begins_rise) in
    let ended = ap (count_by (λ m. nat_lt m n)) (sym c.deref-2.ensures.value) ∙ ap (λ k. count_by (λ m. nat_lt m k) c.deref-2.result.now) (sym told) ∙ c.count_below-ended.ensures (subst (IsSorted nat_cmp) (sym c.deref-2.ensures.value) are.ends_rise) in
    more_begun (count_by (is_level_on c.args.p) segs) i j (level_count c.args.p segs c.args.self.now are i j begun ended)
