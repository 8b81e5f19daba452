-- The rings under their enclosers are the polygons.
use Rattle.std.proofs.Common.{All, subst, sym}
use Rattle.std.proofs.lemmas.Result.{IfOk-weaker}
use Rattle.osm_geom.specs.WholeSegment.{IsWholeSegment}
use Rattle.osm_nest.specs.Cover.{AreSided, CoverAsRings}
use Rattle.osm_nest.specs.Grouped.{IsGrouping}
use Rattle.osm_nest.specs.Nested.{AreNested, HasKinds}
use Rattle.osm_nest.specs.Polygons.{rings_of}
use Rattle.osm_nest.proofs.GroupedRings.{all_rings_of, cover_grouped, kinds_grouped, nested, sided_grouped}
use Rattle.osm_nest.proofs.grouping.nest_rings.Goals as goal

pub returns-clause-nested : goal.returns-clause-nested
returns-clause-nested c =
    let rs = c.args.rings in
    IfOk-weaker c.group.result (IsGrouping rs) (AreNested rs)
    (λ v g. subst (AreNested rs) (sym g.is) (nested rs c.requires g.enclosers g.right g.begun g.in_turn)) c.group.ensures

pub returns-clause-kinds : goal.returns-clause-kinds
returns-clause-kinds c =
    let rs = c.args.rings in
    IfOk-weaker c.group.result (IsGrouping rs) (All HasKinds)
    (λ v g. subst (All HasKinds) (sym g.is) (kinds_grouped rs c.requires g.enclosers g.right g.begun g.in_turn)) c.group.ensures

pub returns-clause-whole : goal.returns-clause-whole
returns-clause-whole c whole =
    let rs = c.args.rings in
    IfOk-weaker c.group.result (IsGrouping rs) (λ v. All (All IsWholeSegment) (rings_of v))
    (λ v g. subst (λ v. All (All IsWholeSegment) (rings_of v)) (sym g.is) (all_rings_of rs c.requires g.enclosers g.right g.begun g.in_turn IsWholeSegment whole)) c.group.ensures

pub returns-clause-sided : goal.returns-clause-sided
returns-clause-sided c =
    let rs = c.args.rings in
    IfOk-weaker c.group.result (IsGrouping rs) (AreSided)
    (λ v g. subst (AreSided) (sym g.is) (sided_grouped rs c.requires g.enclosers g.right g.begun g.in_turn)) c.group.ensures

pub returns-clause-cover : goal.returns-clause-cover
returns-clause-cover c =
    let rs = c.args.rings in
    IfOk-weaker c.group.result (IsGrouping rs) (CoverAsRings rs)
    (λ v g. subst (CoverAsRings rs) (sym g.is) (cover_grouped rs c.requires g.enclosers g.right g.begun g.in_turn)) c.group.ensures
