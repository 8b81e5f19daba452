-- Once all rings are parted, the outer ones are joined with what stands under them.
use Rattle.std.proofs.Common.{ap, map-id, rules, sym, ◌∙◌, ◌≡◌}
use Rattle.std.proofs.lemmas.Iterator.Adapters.{YieldsList-from_vec}
use Rattle.std.proofs.lemmas.Iterator.Consumers.{YieldsList-end}
use Rattle.std.proofs.lemmas.Result.{IfOk-weaker}
use Rattle.osm_nest.specs.Grouped.{polygons_of}
use Rattle.osm_nest.proofs.Parting.{all-empty, parted-all, parted-more, parted-placed}
use Rattle.osm_nest.proofs.grouping.polygons_of.Goals as goal

pub with_inner_rings-requires-clause-within : goal.with_inner_rings-requires-clause-within
with_inner_rings-requires-clause-within c =
    let end = YieldsList-end (YieldsList-from_vec {s = c.into_iter-ring-iterator.result} c.args.rings.items (search rules) (search rules)) c.loop-ring.yielded c.loop-ring.ring-iterator c.loop-ring.yielded_by c.next.result c.next.new.self c.in-None.is c.next.ensures.steps in
    let all_passed : c.loop-ring.yielded ≡ c.args.rings.items = sym (map-id c.loop-ring.yielded) ∙ end.0 in
    (parted-placed c.args.enclosers.now c.args.rings.items c.loop-ring.yielded c.loop-ring.outers.items c.loop-ring.under.items all_passed c.requires.placed c.loop-ring.invariant).within

pub with_inner_rings-requires-clause-once : goal.with_inner_rings-requires-clause-once
with_inner_rings-requires-clause-once c =
    let end = YieldsList-end (YieldsList-from_vec {s = c.into_iter-ring-iterator.result} c.args.rings.items (search rules) (search rules)) c.loop-ring.yielded c.loop-ring.ring-iterator c.loop-ring.yielded_by c.next.result c.next.new.self c.in-None.is c.next.ensures.steps in
    let all_passed : c.loop-ring.yielded ≡ c.args.rings.items = sym (map-id c.loop-ring.yielded) ∙ end.0 in
    (parted-placed c.args.enclosers.now c.args.rings.items c.loop-ring.yielded c.loop-ring.outers.items c.loop-ring.under.items all_passed c.requires.placed c.loop-ring.invariant).once

pub loop-ring-init : goal.loop-ring-init
loop-ring-init c = record {
  outer = c.new-outers.ensures.items;
  sized = c.in_ok-under.ensures.sized;
  inner = all-empty c.in_ok-under.under.items c.in_ok-under.ensures.empty;
}

pub loop-ring-preserved : goal.loop-ring-preserved
loop-ring-preserved c =
    let more = c.in_ok-place_ring.ensures in
    parted-more c.args.enclosers.now c.loop-ring.yielded c.loop-ring.outers.items c.place_ring.new.outers.items c.loop-ring.under.items c.place_ring.new.under.items c.in-Some.ring more.outers more.room more.under c.loop-ring.invariant

pub returns : goal.returns
returns c =
    let end = YieldsList-end (YieldsList-from_vec {s = c.into_iter-ring-iterator.result} c.args.rings.items (search rules) (search rules)) c.loop-ring.yielded c.loop-ring.ring-iterator c.loop-ring.yielded_by c.next.result c.next.new.self c.in-None.is c.next.ensures.steps in
    let all_passed : c.loop-ring.yielded ≡ c.args.rings.items = sym (map-id c.loop-ring.yielded) ∙ end.0 in
    let parted = parted-all c.args.enclosers.now c.loop-ring.yielded c.loop-ring.outers.items c.loop-ring.under.items c.loop-ring.invariant in
    IfOk-weaker c.with_inner_rings.result _ _ (λ polygons is. is ∙ (parted ∙ ap (polygons_of c.args.enclosers.now) all_passed)) c.with_inner_rings.ensures
