-- One more step; and its segments are those of the line.
use Rattle.std.proofs.Common.{◌+◌, sym, ◌∙◌}
use Rattle.std.specs.BTreeSet.{contains}
use Rattle.osm_lattice.specs.Seg.{seg_cmp}
use Rattle.coast_sides.proofs.RoundSteps.{passes_along, passes_by, tested_all, tested_front, tested_more}
use Rattle.coast_sides.proofs.conflicting.runs_along.Goals as goal

pub returns-then-is_step_among : goal.returns-then-is_step_among
returns-then-is_step_among c =
    let f = passes_by (contains seg_cmp c.args.segs.now) in
    sym (passes_along (contains seg_cmp c.args.segs.now) c.args.path.now ∙ tested_front f c.args.path.now (c.loop-place.place + 1)
    (tested_more f c.args.path.now c.loop-place.place c.next_round.result c.index-path-place.result c.index-path-next_round.result _ c.loop-place-test.true c.next_round.ensures.inside c.next_round.ensures.value c.index-path-place.is c.index-path-next_round.is
    (sym c.is_step_among.ensures ∙ c.if-is_step_among.true) c.loop-place.invariant))

pub loop-place-preserved : goal.loop-place-preserved
loop-place-preserved c =
    tested_more (passes_by (contains seg_cmp c.args.segs.now)) c.args.path.now c.loop-place.place c.next_round.result c.index-path-place.result c.index-path-next_round.result _ c.loop-place-test.true c.next_round.ensures.inside c.next_round.ensures.value c.index-path-place.is c.index-path-next_round.is
    (sym c.is_step_among.ensures ∙ c.if-is_step_among.false) c.loop-place.invariant

pub returns : goal.returns
returns c = sym (passes_along (contains seg_cmp c.args.segs.now) c.args.path.now ∙ tested_all (passes_by (contains seg_cmp c.args.segs.now)) c.args.path.now c.loop-place.place c.loop-place-test.false c.loop-place.invariant)
