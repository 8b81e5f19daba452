-- One more is inner.
use Rattle.std.proofs.Common.{[], subst, ◌∙◌}
use Rattle.std.proofs.lemmas.List.{get_or_default}
use Rattle.osm_nest.specs.Outer.{IsInner, IsOuter}
use Rattle.osm_nest.proofs.DirectEnclosers.{clear-item}
use Rattle.osm_nest.proofs.OneOuter.{between-more}
use Rattle.osm_nest.proofs.few.one_outer.first_outer.Goals as goal

pub is_outer-requires : goal.is_outer-requires
is_outer-requires c = clear-item c.args.rings.now c.requires c.loop-place.place c.index-rings-place.result c.loop-place-test.true c.index-rings-place.is

pub returns-then-is_outer : goal.returns-then-is_outer
returns-then-is_outer c =
    let rs = c.args.rings.now in let place = c.loop-place.place in let r = c.index-rings-place.result in
    record {
      inside = c.loop-place-test.true;
      outer = subst IsOuter (c.index-rings-place.is ∙ get_or_default rs place r [] c.loop-place-test.true) (c.is_outer.ensures.anchor.0 c.if-is_outer.true);
      before = c.loop-place.invariant;
    }

pub loop-place-preserved : goal.loop-place-preserved
loop-place-preserved c =
    let rs = c.args.rings.now in let place = c.loop-place.place in let r = c.index-rings-place.result in
    between-more rs 0 place (subst IsInner (c.index-rings-place.is ∙ get_or_default rs place r [] c.loop-place-test.true) (c.is_outer.ensures.inner.0 c.if-is_outer.false)) c.loop-place.invariant
