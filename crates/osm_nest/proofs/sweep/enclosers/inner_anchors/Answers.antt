-- One more anchor; then in another order.
use Rattle.std.proofs.Common.{All, ap, subst, sym, ◌∙◌}
use Rattle.std.proofs.lemmas.List.Sorted.{All-permutation}
use Rattle.osm_nest.specs.SweptEdges.{IsInnerAnchor}
use Rattle.osm_nest.proofs.AnchorLists.{inner-anchor, outer-at}
use Rattle.osm_nest.proofs.KnownEnclosers.{one-anchor}
use Rattle.osm_nest.proofs.sweep.enclosers.inner_anchors.Goals as goal
use Rattle.osm_nest.proofs.sweep.enclosers.inner_anchors.Goals.{then-not-index+in_ok-push, else-not-index}

pub loop-place-preserved : goal.loop-place-preserved
loop-place-preserved c =
    let rs = c.args.rings.now in let place = c.loop-place.place in let inside = c.loop-place-test.true in
    let told = outer-at rs c.args.anchors.now c.requires place c.index.result.now inside c.index.ensures in
    elim c.if-not-index.branch [
      | then-not-index+in_ok-push w ↦
          subst (All (IsInnerAnchor rs)) (sym (ap (λ v. v.items) w.inner-is ∙ w.in_ok-push.ensures.items))
          (one-anchor rs c.loop-place.inner.items w.index-then-not-index.result.now c.loop-place.invariant
          (inner-anchor rs c.args.anchors.now c.requires place w.index-then-not-index.result.now inside w.index-then-not-index.ensures (told.1.0 w.if-not-index.true)))
      | else-not-index w ↦ subst (All (IsInnerAnchor rs)) (sym (ap (λ v. v.items) w.inner-is)) c.loop-place.invariant
    ]

pub returns : goal.returns
returns c = All-permutation (IsInnerAnchor c.args.rings.now) c.loop-place.inner.items c.sort_by_lower_ends.new.edges.items c.sort_by_lower_ends.ensures.moved c.loop-place.invariant
