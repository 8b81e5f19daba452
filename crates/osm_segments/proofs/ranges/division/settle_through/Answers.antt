use Rattle.std.proofs.Common.{Contains, IsPermutation, subst, ⊎_elim, ◌++◌, ◌≡◌}
use Rattle.std.proofs.lemmas.List.Elements.{Contains-append_left, Contains-append_right}
use Rattle.std.proofs.lemmas.List.Sorted.{Contains-permutation}
use Rattle.osm_segments.specs.declared.ranges.strips.SegAt.{SegAt}
use Rattle.osm_segments.specs.Ranges.{IsReduced}
use Rattle.osm_segments.proofs.SettledPairs.{reduced_more, reduced_none}
use Rattle.osm_segments.proofs.ranges.division.settle_through.Goals as goal

pub returns-clause-reduced : goal.returns-clause-reduced
returns-clause-reduced c =
    let segs = c.args.segs.now in let strip = c.args.strip in let all = c.args.all.items in
    let new = c.settle_rows.new.told.items in let through = c.in_ok-through.field-0.through.items in let others = c.in_ok-through.field-0.others.items in let sorted = c.in_order_across-through.result.items in
    let others_is = c.in_ok-through.others-is in let value = c.deref.ensures.value in
    let others_now : c.deref.result.now ≡ others = cc in
    let moved : IsPermutation through sorted = c.in_order_across-through.ensures in
    let reduced : IsReduced segs strip new others (sorted ++ others) = subst (λ xs. IsReduced segs strip new xs (sorted ++ xs)) others_now c.in_ok-settle_rows.ensures.reduced in
    let within : (s : SegAt) → Contains all s → Contains (sorted ++ others) s =
    λ s a. ⊎_elim
    (λ (k : Contains through s). Contains-append_left sorted others s (Contains-permutation through sorted s moved k))
    (λ (k : Contains others s). Contains-append_right sorted others s k)
    (c.in_ok-through.ensures s a) in
    reduced_more segs strip new new others (sorted ++ others) all (λ p k. k) (reduced_none segs strip new (sorted ++ others) all within) reduced
