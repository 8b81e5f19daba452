-- Those of one point change places.
use Rattle.std.proofs.Common.{subst, sym, ◌-◌, ◌≤◌}
use Rattle.std.proofs.lemmas.List.Sorted.{IsPermutation-put_mid, IsPermutation-trans, length_permutation}
use Rattle.osm_rings.proofs.rounds.sort_rounds.Goals as goal
use borrow.Rule.Slice.PartMut.{put_mid}

pub loop-from-preserved-then-end-from-gt1 : goal.loop-from-preserved-then-end-from-gt1
loop-from-preserved-then-end-from-gt1 c =
    let from = c.loop-from.from in let end = c.end_of_key-end.result in let before = c.loop-from.departures in let part = c.sort_unstable_by.new.self in
    let after = put_mid from (end - from) before part in
    let moved = IsPermutation-put_mid from (end - from) before part c.sort_unstable_by.ensures.permutation in
    (subst (λ n. end ≤ n) (sym (length_permutation before after moved)) c.end_of_key-end.ensures.inside, IsPermutation-trans c.args.departures.now before after c.loop-from.invariant.1 moved)
