-- Row by row up to the location, and then to its height.
use Rattle.std.proofs.Common.{arith, ap, false, get_or, length, subst, sym, take, ◌<◌, ◌≡◌, ◌∙◌}
use Rattle.std.proofs.lemmas.List.{get_or_default}
use Rattle.plane_lists.specs.Statuses.Status.{IsStatus}
use Rattle.lists.proofs.ListsKit.{not-false-out}
use Rattle.osm_lattice.specs.declared.seg.Seg.{Seg}
use Rattle.osm_lattice.specs.Loc.{vector_of}
use Rattle.osm_lattice.specs.Seg.{edge_of}
use Rattle.osm_sides.specs.Sweep.{begins_by}
use Rattle.osm_sides.proofs.RisingSweeps.{arrived, not_lower}
use Rattle.osm_sides.proofs.Statuses.{remaining, risen}
use Rattle.osm_sides.proofs.SweptHeights.{ended-below, ended-still}
use Rattle.osm_sides.proofs.sweep.rising.rise.Goals.{else-loop-begun-test, then-loop-begun-test+else-begins_by}
use Rattle.osm_sides.proofs.sweep.rising.rise.Goals as goal

pub leave-left-requires-clause-remains : goal.leave-left-requires-clause-remains
leave-left-requires-clause-remains c =
    remaining c.args.segs.now c.requires.outline.rising c.requires.outline.clear c.args.ends.now c.requires.ends c.loop-begun.begun c.loop-begun.left c.loop-begun.status c.loop-begun.invariant.0 _

pub leave-left-requires-clause-ended : goal.leave-left-requires-clause-ended
leave-left-requires-clause-ended c i d h l =
    let segs = c.args.segs.now in let k = c.loop-begun.begun in let s = c.index-segs-begun-in-loop-begun.result in let swept = c.loop-begun.invariant.0 in
    let up = not-false-out _ (swept.swept.later k s (omega arith) c.loop-begun-test.true) in
    ended-below swept.height.y (get_or segs k s).a.y (get_or c.args.ends.now i d).b.y up (swept.ended i d h l)

pub enter_row-requires-clause-status : goal.enter_row-requires-clause-status
enter_row-requires-clause-status c =
    let segs = c.args.segs.now in let k = c.loop-begun.begun in let s = c.index-segs-begun-in-loop-begun.result in let swept = c.loop-begun.invariant.0 in
    let up = not-false-out _ (swept.swept.later k s (omega arith) c.loop-begun-test.true) in
    subst (IsStatus edge_of (vector_of (get_or segs k s).a) (take k segs)) (sym c.leave-left.ensures.stay)
    (risen segs c.requires.outline.rising c.requires.outline.clear c.args.ends.now c.requires.ends k c.loop-begun.left c.loop-begun.status swept (vector_of (get_or segs k s).a) up)

pub loop-begun-preserved : goal.loop-begun-preserved
loop-begun-preserved c =
    let segs = c.args.segs.now in let k = c.loop-begun.begun in let s = c.index-segs-begun-in-loop-begun.result in
    let low : begins_by c.args.at.y (get_or segs k s) ≡ _ = ap (begins_by c.args.at.y) (get_or_default segs k s c.index-segs-begun.result c.loop-begun-test.true ∙ sym c.index-segs-begun.is) ∙ sym c.begins_by.ensures ∙ c.if-begins_by.true in
    (record { height = vector_of (get_or segs k s).a; swept = c.in_ok-begun.ensures.swept; ended = c.leave-left.ensures.ended }, not_lower (get_or segs k s).a.y c.args.at.y low)

pub leave-left-requires-2-clause-remains : goal.leave-left-requires-2-clause-remains
leave-left-requires-2-clause-remains c =
    remaining c.args.segs.now c.requires.outline.rising c.requires.outline.clear c.args.ends.now c.requires.ends c.loop-begun.begun c.loop-begun.left c.loop-begun.status c.loop-begun.invariant.0 c.args.at.y

pub leave-left-requires-2-clause-ended : goal.leave-left-requires-2-clause-ended
leave-left-requires-2-clause-ended c i d h l =
    let swept = c.loop-begun.invariant.0 in ended-still swept.height.y c.args.at.y (get_or c.args.ends.now i d).b.y c.loop-begun.invariant.1 (swept.ended i d h l)

pub returns : goal.returns
returns c =
    let segs = c.args.segs.now in let k = c.loop-begun.begun in
    let later : (d : Seg) → k < length segs → begins_by c.args.at.y (get_or segs k d) ≡ false = elim c.loop-begun-test.branch [
      | then-loop-begun-test+else-begins_by w ↦ λ d inside. ap (begins_by c.args.at.y) (get_or_default segs k d w.index-segs-begun.result inside ∙ sym w.index-segs-begun.is) ∙ sym w.begins_by.ensures ∙ w.if-begins_by.false
      | else-loop-begun-test w ↦ λ d inside. absurd (let none = w.loop-begun-test.false in omega (arith, none, inside))
    ] in
    arrived segs c.args.ends.now c.loop-begun.status c.requires.outline.rising c.requires.outline.clear c.requires.ends k c.loop-begun.left c.loop-begun.invariant.0 c.args.at c.loop-begun.invariant.1 later
    c.leave-left-2.result c.leave-left-2.new.status c.leave-left-2.ensures.stay c.leave-left-2.ensures.ended
