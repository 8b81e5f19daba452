use Rattle.std.proofs.Common.{Bool, None, Option, ap, arith, replicate, subst, sym, ◌∙◌, ◌≡◌}
use Rattle.std.proofs.lemmas.List.{length-replicate}
use Rattle.plane_lists.specs.Lists.OddSide as odd_side
use Rattle.osm_geom.specs.declared.edge.Carrier.TheVariants.{OfSeg}
use Rattle.osm_lattice.specs.declared.seg.Seg.{Seg}
use Rattle.osm_lattice.specs.Seg.{edge_of}
use Rattle.osm_sides.specs.Directions.{first_end, last_end}
use Rattle.osm_sides.specs.Survivors.{plane_edges_of}
use Rattle.osm_sides.specs.Sweep.{AreDirectedTo}
use Rattle.osm_sides.proofs.Followers.{first-is, known-none, last-is, none-there}
use Rattle.osm_sides.proofs.Pushes.{map_more}
use Rattle.osm_sides.proofs.Statuses.{none-directed}
use Rattle.osm_sides.proofs.directions.direct_few.Goals as goal

pub loop-place-init : goal.loop-place-init
loop-place-init c = (
  known-none c.args.segs.now (replicate 32 None) (let size = length-replicate {A = Option Bool} 32 None in let few = c.requires.few in omega arith) (none-there 32),
  subst (AreDirectedTo c.args.segs.now 0) (sym c.in_ok-edges.ensures.items) (none-directed c.args.segs.now),
)

pub loop-place-preserved : goal.loop-place-preserved
loop-place-preserved c =
    let ss = c.args.segs.now in let i = c.loop-place.place in let s = c.index-segs-place.result in
    let es = c.loop-place.edges.items in let new = c.push.new.self.items in let e = c.of.result in
    let grown = c.in_ok-push.ensures.items in let so_far = c.loop-place.invariant.1 in
    let up : c.direction.result ≡ odd_side.runs_up_by_odd_side (plane_edges_of ss) (edge_of s) = c.direction.ensures.right s ∙ ap (λ (t : Seg). odd_side.runs_up_by_odd_side (plane_edges_of ss) (edge_of t)) (sym c.index-segs-place.is) in (
      c.direction.ensures.known,
      record {
        carriers = map_more (λ e. e.carrier) OfSeg ss i s es new e so_far.carriers c.of.ensures.carrier grown c.index-segs-place.is c.loop-place-test.true;
        firsts = map_more (λ e. e.from) (first_end ss) ss i s es new e so_far.firsts (c.of.ensures.from ∙ first-is s _ _ up) grown c.index-segs-place.is c.loop-place-test.true;
        lasts = map_more (λ e. e.to) (last_end ss) ss i s es new e so_far.lasts (c.of.ensures.to ∙ last-is s _ _ up) grown c.index-segs-place.is c.loop-place-test.true;
      },
    )
