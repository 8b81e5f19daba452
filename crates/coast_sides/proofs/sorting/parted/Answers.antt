-- One more ring.
use Rattle.std.proofs.Common.{Bool, ◌++◌, ◌∷◌, [], if◌then◌else◌, ap, ◌∙◌}
use Rattle.std.specs.BTreeSet.{contains}
use Rattle.std.specs.List.{list_any}
use Rattle.osm_lattice.specs.Seg.{seg_cmp}
use Rattle.coast_rings.specs.declared.ring.CoastRing.{CoastRing}
use Rattle.coast_sides.specs.Segments.{segments_round}
use Rattle.coast_sides.proofs.ListSteps.{kept_step, left_step}
use Rattle.coast_sides.proofs.sorting.parted.Goals as goal

pub loop-ring-preserved : goal.loop-ring-preserved
loop-ring-preserved c =
    let p : CoastRing → Bool = λ ring. list_any (contains seg_cmp c.args.segs.now) (segments_round ring.path) in
    let is = c.runs_along-is_along.ensures ∙ ap (λ path. list_any (contains seg_cmp c.args.segs.now) (segments_round path)) c.as_slice.ensures in (
      left_step p c.args.rings.now c.loop-ring.ring-index c.ring-item.result c.runs_along-is_along.result c.loop-ring.free _ c.loop-ring-test.true c.ring-item.is is c.loop-ring.invariant.0
          (c.in_ok-put.ensures.free ∙ ap (λ (r : CoastRing). c.loop-ring.free ++ (if c.runs_along-is_along.result then [] else r ∷ [])) c.in_ok-copy.ensures),
      kept_step p c.args.rings.now c.loop-ring.ring-index c.ring-item.result c.runs_along-is_along.result c.loop-ring.along _ c.loop-ring-test.true c.ring-item.is is c.loop-ring.invariant.1
          (c.in_ok-put.ensures.along ∙ ap (λ (r : CoastRing). c.loop-ring.along ++ (if c.runs_along-is_along.result then r ∷ [] else [])) c.in_ok-copy.ensures),
    )
