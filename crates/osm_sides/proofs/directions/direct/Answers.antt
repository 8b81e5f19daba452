use Rattle.std.proofs.Common.{All, List, arith, ap, length, map, subst, sym, ◌∙◌, ◌≡◌}
use Rattle.std.proofs.lemmas.List.{take_all}
use Rattle.std.proofs.lemmas.Result.{IfOk-weaker}
use Rattle.osm_lattice.specs.declared.seg.Seg.{Seg}
use Rattle.osm_geom.specs.declared.edge.Carrier.TheVariants.{OfSeg}
use Rattle.osm_geom.specs.WholeSegment.{IsWholeSegment}
use Rattle.osm_geom.specs.InPlane.Sided.{IsSided}
use Rattle.osm_segments.specs.Outlines.{IsOutline}
use Rattle.osm_sides.specs.Directions.{AreDirected, CountsParity, first_end, last_end}
use Rattle.osm_sides.specs.Sweep.{AreDirectedTo}
use Rattle.osm_sides.proofs.DirectedSides.{directed_is_sided, directed_counts}
use Rattle.osm_sides.proofs.WholeSegments.{directed_is_whole}
use Rattle.osm_sides.proofs.directions.direct.Goals as goal

pub direct_all-requires-clause-outline : goal.direct_all-requires-clause-outline
direct_all-requires-clause-outline c = subst IsOutline (sym (c.deref.ensures.value ∙ c.into_parts-segs.ensures.segments)) c.into_parts-segs.ensures.outline

pub returns-clause-odd_side : goal.returns-clause-odd_side
returns-clause-odd_side c =
    let lent = c.deref.result.now in let ss = c.args.outline in
    let same : lent ≡ ss = c.deref.ensures.value ∙ c.into_parts-segs.ensures.segments in
    let all = take_all (length lent) lent (omega arith) in
    IfOk-weaker c.direct_all.result (λ v. AreDirectedTo lent (length lent) v.items) (λ v. AreDirected ss v.items)
    (λ v d. subst (λ (segs : List Seg). AreDirected segs v.items) same (record { whole = d.carriers ∙ ap (map OfSeg) all; firsts = d.firsts ∙ ap (map (first_end lent)) all; lasts = d.lasts ∙ ap (map (last_end lent)) all }))
    c.direct_all.ensures

pub returns-clause-whole : goal.returns-clause-whole
returns-clause-whole c =
    IfOk-weaker c.direct_all.result (λ v. AreDirected c.args.outline v.items) (λ v. All IsWholeSegment v.items)
    (λ v d. directed_is_whole c.args.outline v.items d) (returns-clause-odd_side c)

pub returns-clause-sided : goal.returns-clause-sided
returns-clause-sided c =
    let is = c.into_parts-segs.ensures.outline in
    IfOk-weaker c.direct_all.result (λ v. AreDirected c.args.outline v.items) (λ v. IsSided v.items)
    (λ v d. directed_is_sided c.args.outline v.items is.rising is.clear is.even d) (returns-clause-odd_side c)

pub returns-clause-parity : goal.returns-clause-parity
returns-clause-parity c =
    let is = c.into_parts-segs.ensures.outline in
    IfOk-weaker c.direct_all.result (λ v. AreDirected c.args.outline v.items) (λ v. CountsParity c.args.outline v.items)
    (λ v d. directed_counts c.args.outline v.items is.rising is.clear is.even d) (returns-clause-odd_side c)
