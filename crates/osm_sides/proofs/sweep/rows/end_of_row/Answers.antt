-- The segments before the first are no higher than it, and those after the first that is higher are higher, too.
use Rattle.std.proofs.Common.{Bool, ap, arith, false, get_or, length, not, refl, true, ◌≡◌, ◌≤◌, ◌∙◌, sym}
use Rattle.lists.proofs.ListsKit.{same_get}
use Rattle.osm_lattice.specs.declared.loc.Loc.{Loc}
use Rattle.osm_lattice.specs.declared.seg.Seg.{Seg}
use Rattle.osm_sides.specs.Sweep.{begins_by}
use Rattle.osm_sides.proofs.SweptHeights.{begins-level, begins-parts, later-from}
use Rattle.osm_sides.proofs.sweep.rows.end_of_row.Goals as goal

pub loop-end-init : goal.loop-end-init
loop-end-init c =
    let segs = c.args.segs.now in let from = c.args.from in let y = c.args.at.y in let inside = c.requires.inside in
    (omega arith, omega arith, λ k d h l. begins-parts segs c.requires.outline.rising y k from d (omega arith) inside (begins-level y (get_or segs from d).a.y (ap (λ (p : Loc). p.y) (c.requires.first d))))

pub returns-else-begins_by-clause-later : goal.returns-else-begins_by-clause-later
returns-else-begins_by-clause-later c =
    let segs = c.args.segs.now in let end = c.loop-end.end in let y = c.args.at.y in let s = c.index-segs-end.result in
    later-from segs c.requires.outline.rising y end c.loop-end-test.true (λ d. ap (begins_by y) (same_get segs end d s c.loop-end-test.true ∙ sym c.index-segs-end.is) ∙ sym c.begins_by.ensures ∙ c.if-begins_by.false)
