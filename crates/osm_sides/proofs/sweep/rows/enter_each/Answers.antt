use Rattle.std.proofs.Common.{◌≡◌, ◌<◌, ◌+◌, arith, ap, length, subst, sym, take, true, false, ◌∙◌}
use Rattle.plane_lists.specs.Statuses.Status.{IsStatus}
use Rattle.osm_lattice.specs.declared.seg.Seg.{Seg}
use Rattle.osm_lattice.specs.Loc.{vector_of}
use Rattle.osm_lattice.specs.Seg.{edge_of}
use Rattle.osm_sides.specs.Sweep.{ends_above}
use Rattle.osm_sides.proofs.Statuses.{entered, next-parts, passed}
use Rattle.osm_sides.proofs.sweep.rows.enter_each.Goals as goal
use Rattle.osm_sides.proofs.sweep.rows.enter_each.Goals.{then-is_above+in_ok-enter, else-is_above}

pub enter-requires : goal.enter-requires
enter-requires c =
    let segs = c.args.segs.now in let k = c.loop-i.i in let s = c.index-segs-i.result in let p = vector_of c.args.at in
    let inside : k < length segs = omega arith in
    let level : s.a.y ≡ p.y = ap (λ (t : Seg). t.a.y) c.index-segs-i.is ∙ c.requires.row k s c.loop-i.invariant.0 c.loop-i-test.true in
    let high : ends_above p.y s ≡ true = sym c.is_above.ensures ∙ c.if-is_above.true in
    next-parts segs c.requires.outline.rising c.requires.outline.clear p k s c.loop-i.status inside c.index-segs-i.is level c.loop-i.invariant.2 high

pub loop-i-preserved : goal.loop-i-preserved
loop-i-preserved c =
    let segs = c.args.segs.now in let k = c.loop-i.i in let s = c.index-segs-i.result in let p = vector_of c.args.at in let status = c.loop-i.status in
    let inside : k < length segs = omega arith in
    let level : s.a.y ≡ p.y = ap (λ (t : Seg). t.a.y) c.index-segs-i.is ∙ c.requires.row k s c.loop-i.invariant.0 c.loop-i-test.true in
    let next : IsStatus edge_of p (take (k + 1) segs) c.if-is_above.status = elim c.if-is_above.branch [
      | then-is_above+in_ok-enter w ↦
          let high : ends_above p.y s ≡ true = sym c.is_above.ensures ∙ w.if-is_above.true in
          subst (IsStatus edge_of p (take (k + 1) segs)) (sym w.status-is)
          (entered segs c.requires.outline.rising c.requires.outline.clear p k s status inside c.index-segs-i.is level c.loop-i.invariant.2 _ high w.in_ok-enter.ensures)
      | else-is_above w ↦
          let low : ends_above p.y s ≡ false = sym c.is_above.ensures ∙ w.if-is_above.false in
          subst (IsStatus edge_of p (take (k + 1) segs)) (sym w.status-is)
          (passed segs c.requires.outline.rising c.requires.outline.clear p k s status inside c.index-segs-i.is level c.loop-i.invariant.2 low)
    ] in (omega arith, omega arith, next)

pub returns : goal.returns
returns c = subst (λ k. IsStatus edge_of (vector_of c.args.at) (take k c.args.segs.now) c.loop-i.status) (omega arith) c.loop-i.invariant.2
