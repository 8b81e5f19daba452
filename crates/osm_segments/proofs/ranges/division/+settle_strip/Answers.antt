use Rattle.std.proofs.Common.{subst}
use Rattle.std.proofs.lemmas.Result.{on_ok_weaker}
use Rattle.osm_segments.specs.Ranges.{AreSettled, IsGrown}
use Rattle.osm_segments.proofs.SettledPairs.{grown_more, halves_settled}
use Rattle.osm_segments.proofs.TriedPairs.{OnOk-both}
use Rattle.osm_segments.proofs.ranges.division.+settle_strip.Goals as goal

pub returns-then-len-le-FEW-clause-settled : goal.returns-then-len-le-FEW-clause-settled
returns-then-len-le-FEW-clause-settled t c =
    let new = c.try_each.new.told.items in
    on_ok_weaker c.try_each.result
    (λ settled. subst (AreSettled c.args.segs.now new c.args.strip) c.deref.ensures.value settled)
    c.try_each.ensures.settled

pub returns-then-is_empty-clause-grown : goal.returns-then-is_empty-clause-grown
returns-then-is_empty-clause-grown t c =
    let segs = c.args.segs.now in let mid = c.settle_through.new.told.items in let new = c.try_each-then-is_empty.new.told.items in
    on_ok_weaker c.try_each-then-is_empty.result
    (λ (grown : IsGrown segs mid new). grown_more segs c.args.told.now.items mid new c.in_ok-others.ensures.grown grown)
    c.try_each-then-is_empty.ensures.grown

pub returns-then-is_empty-clause-settled : goal.returns-then-is_empty-clause-settled
returns-then-is_empty-clause-settled t c =
    let segs = c.args.segs.now in let strip = c.args.strip in let mid = c.settle_through.new.told.items in let new = c.try_each-then-is_empty.new.told.items in
    let tried = c.deref-then-is_empty.result.now in
    OnOk-both c.try_each-then-is_empty.result (IsGrown segs mid new) (AreSettled segs new strip tried) (AreSettled segs new strip c.args.all.items)
    (λ (grown : IsGrown segs mid new) (settled : AreSettled segs new strip tried). c.in_ok-others.ensures.reduced new grown.kept (subst (AreSettled segs new strip) c.deref-then-is_empty.ensures.value settled))
    c.try_each-then-is_empty.ensures.grown c.try_each-then-is_empty.ensures.settled

pub returns-clause-grown : goal.returns-clause-grown
returns-clause-grown t c =
    let segs = c.args.segs.now in let first = c.args.told.now.items in let through = c.settle_through.new.told.items in let mid = c.settle_strip.new.told.items in let new = c.settle_strip-2.new.told.items in
    on_ok_weaker c.settle_strip-2.result
    (λ (grown : IsGrown segs mid new). grown_more segs first mid new (grown_more segs first through mid c.in_ok-others.ensures.grown c.in_ok-settle_strip.ensures.grown) grown)
    c.settle_strip-2.ensures.grown

pub returns-clause-settled : goal.returns-clause-settled
returns-clause-settled t c =
    let segs = c.args.segs.now in let strip = c.args.strip in let mid = c.settle_strip.new.told.items in let new = c.settle_strip-2.new.told.items in
    let m = c.index-heights-at.result in let half = c.in_ok-settle_strip.ensures in
    let below = c.in_ok-below.field-0.below.items in let above = c.in_ok-below.field-0.above.items in let rest = c.in_ok-above.above.items in
    let low : AreSettled segs mid (record { low = strip.low; high = m }) below = c.in_ok-below-2.ensures segs mid (record { low = strip.low; high = m }) half.settled in
    OnOk-both c.settle_strip-2.result (IsGrown segs mid new) (AreSettled segs new (record { low = m; high = strip.high }) rest) (AreSettled segs new strip c.args.all.items)
    (λ (grown : IsGrown segs mid new) (settled : AreSettled segs new (record { low = m; high = strip.high }) rest).
    c.in_ok-others.ensures.reduced new (λ p k. grown.kept p (half.grown.kept p k))
    (halves_settled segs mid new strip m c.in_ok-others.others.items below above c.in_ok-below.ensures.below c.in_ok-below.ensures.above grown.kept low
    (c.in_ok-above.ensures segs new (record { low = m; high = strip.high }) settled)))
    c.settle_strip-2.ensures.grown c.settle_strip-2.ensures.settled
