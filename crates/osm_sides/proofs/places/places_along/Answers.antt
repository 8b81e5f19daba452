-- Location by location.
use Rattle.std.proofs.Common.{List, ap, false, length, map, subst, sym, ◌<◌, ◌∙◌, ◌≡◌}
use Rattle.std.specs.Prelude.{slice_index_or}
use Rattle.std.proofs.lemmas.List.{take_all}
use lib.Signed.{lt_z}
use Rattle.osm_lattice.specs.declared.loc.Loc.{Loc}
use Rattle.osm_lattice.specs.declared.seg.Seg.{Seg}
use Rattle.osm_sides.specs.PointPlaces.{place_among}
use Rattle.osm_sides.specs.Sweep.{IsSweptFrom}
use Rattle.osm_sides.proofs.RisingSweeps.{all_above, next_above, one_more_place}
use Rattle.osm_sides.proofs.Statuses.{none-swept}
use Rattle.osm_sides.proofs.places.places_along.Goals as goal

pub loop-p-init : goal.loop-p-init
loop-p-init c =
    let segs = c.args.segs.now in let ends = c.args.ends.now in let points = c.args.points.now in (
      subst (λ (status : List Seg). (x : IsSweptFrom segs ends 0 0 status) × ((d : Loc) → 0 < length points → lt_z (slice_index_or points 0 d).y x.height.y ≡ false)) (sym c.new-status.ensures)
          (none-swept segs ends, λ d some. all_above segs ends (slice_index_or points 0 d)),
      c.in_ok-places.ensures.items,
    )

pub rise-requires-clause-swept : goal.rise-requires-clause-swept
rise-requires-clause-swept c =
    let inv = c.loop-p.invariant.0 in
    (inv.0, subst (λ (p : Loc). lt_z p.y inv.0.height.y ≡ false) (sym c.p-item.is) (inv.1 c.p-item.result c.loop-p-test.true))

pub loop-p-preserved : goal.loop-p-preserved
loop-p-preserved c =
    let segs = c.args.segs.now in let points = c.args.points.now in let j = c.loop-p.p-index in let p = c.p-item.result in
    let now = c.in_ok-progress.ensures in
    let place = c.place_of.ensures segs c.requires.outline c.requires.levels now.0.height (sym now.1) now.0.swept.is in (
      (now.0, λ d inside. next_above points j p d now.0.height.y c.requires.points c.p-item.is now.1 inside),
      one_more_place segs points j p c.loop-p.places.items c.push.new.self.items c.place_of.result c.loop-p.invariant.1 place c.in_ok-push.ensures.items c.p-item.is c.loop-p-test.true,
    )

pub place_of-requires : goal.place_of-requires
place_of-requires c =
    let now = c.in_ok-progress.ensures in
    (c.args.segs.now, c.requires.outline, c.requires.levels, now.0.height, sym now.1, now.0.swept.is)

pub returns : goal.returns
returns c =
    let points = c.args.points.now in
    c.loop-p.invariant.1 ∙ ap (map (λ (p : Loc). place_among p c.args.segs.now)) (take_all c.loop-p.p-index points c.loop-p-test.false)
