-- Sorted again, they are the same departures still.
use Rattle.std.proofs.Common.{arith, length, ◌≡◌}
use Rattle.std.specs.List.Sorted.{IsPermutation}
use Rattle.std.proofs.lemmas.List.Sorted.{IsPermutation-trans}
use Rattle.osm_rings.proofs.RingLists.{if-ok}
use Rattle.osm_rings.proofs.SortedRounds.{put-back}
use Rattle.osm_rings.proofs.departures.in_order.Goals as goal

pub returns-then-are_in_order-2-clause-moved : goal.returns-then-are_in_order-2-clause-moved
returns-then-are_in_order-2-clause-moved c =
    let first = c.sort_by_key.new.self in let ok = first.ok in
    let size : length first.items ≡ first.len = omega (arith, ok) in
    put-back c.args.departures.items first.items c.deref_mut.result.now c.sort_rounds.new.departures first.len c.in_ok-sort_by_key.ensures.permutation c.deref_mut.ensures.value c.sort_rounds.ensures size

pub returns-clause-moved : goal.returns-clause-moved
returns-clause-moved c =
    let given = c.args.departures.items in let first = c.sort_by_key.new.self in let ok = first.ok in
    let size : length first.items ≡ first.len = omega (arith, ok) in
    let before = put-back given first.items c.deref_mut.result.now c.sort_rounds.new.departures first.len c.in_ok-sort_by_key.ensures.permutation c.deref_mut.ensures.value c.sort_rounds.ensures size in
    if-ok _ (λ v. IsPermutation given v.items) c.sorted.result (λ v again. IsPermutation-trans given _ v.items before again) c.sorted.ensures.moved
