use Rattle.std.proofs.Common.{Bool, cond, false, true, refl, if◌then◌else◌, ◌≡◌, ◌<◌, arith, ap, length, subst, sym, ◌∙◌}
use Rattle.lists.specs.Member.{In}
use Rattle.plane_lists.specs.Lists.OddSide as odd_side
use Rattle.osm_geom.specs.declared.edge.Carrier.TheVariants.{OfSeg}
use Rattle.osm_lattice.specs.declared.loc.Loc.{Loc}
use Rattle.osm_geom.specs.declared.point.Point.TheVariants.{Lattice}
use Rattle.osm_lattice.specs.declared.seg.Seg.{Seg}
use Rattle.osm_lattice.specs.Seg.{edge_of}
use Rattle.osm_sides.specs.Directions.{first_end, last_end}
use Rattle.osm_sides.specs.Sweep.{AreDirectedTo}
use Rattle.osm_sides.specs.Survivors.{plane_edges_of}
use Rattle.osm_sides.proofs.Pushes.{map_more}
use Rattle.osm_sides.proofs.Statuses.{counted-parts, left-parts, runs_up-whole}
use Rattle.osm_sides.proofs.SweptHeights.{sloping-high}
use Rattle.osm_sides.proofs.sweep.rows.direct_row.Goals as goal
use Rattle.lists.proofs.ListsKit.{at-in}

pub place_of-place-requires-clause-flat : goal.place_of-place-requires-clause-flat
place_of-place-requires-clause-flat c flat =
    let segs = c.args.segs.now in let k = c.loop-i.i in let s = c.index-segs-i.result in let p = c.requires.row.0 in let r = c.requires.row.1 in
    let level : s.a.y ≡ p.y = ap (λ (t : Seg). t.a.y) c.index-segs-i.is ∙ r.level k s c.loop-i.invariant.0 c.loop-i-test.true in
    left-parts segs c.requires.outline.rising c.requires.outline.clear p c.args.status.now r.swept.is s.a level

pub place_of-place-requires-clause-sloping : goal.place_of-place-requires-clause-sloping
place_of-place-requires-clause-sloping c sloping =
    let segs = c.args.segs.now in let k = c.loop-i.i in let s = c.index-segs-i.result in let p = c.requires.row.0 in let r = c.requires.row.1 in
    let inside : k < length segs = omega (arith, r.within) in
    let level : s.a.y ≡ p.y = ap (λ (t : Seg). t.a.y) c.index-segs-i.is ∙ r.level k s c.loop-i.invariant.0 c.loop-i-test.true in
    counted-parts segs c.requires.outline.rising c.requires.outline.clear p s (subst (λ t. In t segs) (sym c.index-segs-i.is) (at-in segs k s inside)) level (sloping-high s p.y level sloping) segs c.args.status.now (λ t i. i) r.swept.is

ends_by : (b : Bool) (p q : Loc) → (if b then Lattice p else Lattice q) ≡ Lattice (cond b p q)
ends_by true p q = refl
ends_by false p q = refl

pub loop-i-preserved : goal.loop-i-preserved
loop-i-preserved c =
    let segs = c.args.segs.now in let k = c.loop-i.i in let s = c.index-segs-i.result in let p = c.requires.row.0 in let r = c.requires.row.1 in let b = c.runs_up_at.result in
    let inside : k < length segs = omega (arith, r.within) in
    let level : s.a.y ≡ p.y = ap (λ (t : Seg). t.a.y) c.index-segs-i.is ∙ r.level k s c.loop-i.invariant.0 c.loop-i-test.true in
    let up : b ≡ odd_side.runs_up_by_odd_side (plane_edges_of segs) (edge_of s) = c.runs_up_at.ensures ∙ sym (runs_up-whole segs c.requires.outline.rising c.requires.outline.clear p c.args.status.now r.swept.is s level) in
    let es = c.loop-i.edges.items in let new = c.push.new.self.items in let e = c.of.result in let grown = c.in_ok-push.ensures.items in
    let from : e.from ≡ first_end segs s = c.of.ensures.from ∙ ends_by b s.a s.b ∙ ap (λ d. Lattice (cond d s.a s.b)) up in
    let to : e.to ≡ last_end segs s = c.of.ensures.to ∙ ends_by b s.b s.a ∙ ap (λ d. Lattice (cond d s.b s.a)) up in
    let so_far = c.loop-i.invariant.2 in (
      omega arith,
      omega arith,
      record {
        carriers = map_more (λ e. e.carrier) OfSeg segs k s es new e so_far.carriers c.of.ensures.carrier grown c.index-segs-i.is inside;
        firsts = map_more (λ e. e.from) (first_end segs) segs k s es new e so_far.firsts from grown c.index-segs-i.is inside;
        lasts = map_more (λ e. e.to) (last_end segs) segs k s es new e so_far.lasts to grown c.index-segs-i.is inside;
      },
    )

pub returns : goal.returns
returns c = subst (λ k. AreDirectedTo c.args.segs.now k c.loop-i.edges.items) (omega (arith, c.requires.row.1.more)) c.loop-i.invariant.2
