-- One segment more is found among those to be taken away, or put behind those that are left.
use Rattle.std.proofs.Common.{AllPairs, ap, arith, get_or, length, set, subst, sym, take, true, ◌+◌, ◌<◌, ◌∙◌, ◌≡◌, ◌≤◌}
use Rattle.std.proofs.lemmas.List.{get_or-set_other, length-set, take_all, take_more_set}
use Rattle.lists.specs.Rising.{count_of}
use Rattle.osm_lattice.specs.Seg.{seg_cmp}
use Rattle.coast_sides.proofs.TakenAway.{ahead_more, one_found, one_left, ordered_more}
use Rattle.coast_sides.proofs.taking_away.take_away.Goals.{else-is_next, then-is_next}
use Rattle.coast_sides.proofs.taking_away.take_away.Goals as goal

pub loop-place-preserved : goal.loop-place-preserved
loop-place-preserved c =
    let old = c.args.segs.now.items in let segs = c.loop-place.segs.items in let away = c.args.away.now in
    let i = c.loop-place.place in let left = c.loop-place.left in let found = c.loop-place.found in
    let seg = c.index-seg.result.now in let so_far = c.loop-place.invariant in
    let sized = so_far.sized in let front = so_far.front in
    let inside : i < length old = (let h = c.loop-place-test.true in let e = c.len-place-end.ensures in let ok = c.args.segs.now.ok.0 in omega arith) in
    let is : seg ≡ get_or old i seg = c.index-seg.ensures ∙ so_far.unread i seg (omega arith) in
    elim c.if-is_next.branch [
      | then-is_next w ↦
          let same : c.if-is_next.segs.items ≡ segs = ap (λ v. v.items) w.segs-is in
          let stays : c.if-is_next.left ≡ left = w.left-is in
          let one : c.if-is_next.found ≡ found + 1 = w.found-is in
          let there = c.is_next.ensures.inside w.if-is_next.true in
          rw (same, stays, one) (record {
            within = omega arith;
            front = omega arith;
            sized = sized;
            unread = λ k d h. so_far.unread k d (omega arith);
            counts = one_found old away (take left segs) i found seg inside is so_far.counts there (c.is_next.ensures.next w.if-is_next.true);
            ordered = so_far.ordered;
            ahead = λ r pairs j k d h m l. so_far.ahead r pairs j k d h (omega arith) l;
          })
      | else-is_next w ↦
          let same : c.if-is_next.segs.items ≡ set segs left seg = ap (λ v. v.items) w.segs-is in
          let more : c.if-is_next.left ≡ left + 1 = w.left-is in
          let stays : c.if-is_next.found ≡ found = w.found-is in
          rw (same, more, stays) (record {
            within = so_far.within;
            front = omega arith;
            sized = length-set segs left seg ∙ sized;
            unread = λ k d h. get_or-set_other segs left k seg d (λ e. absurd (omega arith)) ∙ so_far.unread k d (omega arith);
            counts = one_left old away (take left segs) i found seg inside is so_far.counts (take (left + 1) (set segs left seg)) (take_more_set segs left seg (omega arith));
            ordered = λ r pairs. ordered_more r old segs left i seg pairs front inside sized is (so_far.ordered r pairs) (so_far.ahead r pairs);
            ahead = λ r pairs. ahead_more r old segs left i seg pairs front inside sized is (so_far.ordered r pairs) (so_far.ahead r pairs);
          })
    ]

pub returns-clause-counts : goal.returns-clause-counts
returns-clause-counts c s =
    let end : length c.args.segs.now.items ≤ c.loop-place.place = (let h = c.loop-place-test.false in let e = c.len-place-end.ensures in let ok = c.args.segs.now.ok.0 in omega arith) in
    ap (λ xs. count_of seg_cmp s xs + count_of seg_cmp s (take c.loop-place.found c.args.away.now)) c.truncate.ensures.items
    ∙ (c.loop-place.invariant.counts s ∙ ap (count_of seg_cmp s) (take_all c.loop-place.place c.args.segs.now.items end))

pub returns-clause-order : goal.returns-clause-order
returns-clause-order c r pairs = subst (AllPairs (λ s t. r s t ≡ true)) (sym c.truncate.ensures.items) (c.loop-place.invariant.ordered r pairs)
