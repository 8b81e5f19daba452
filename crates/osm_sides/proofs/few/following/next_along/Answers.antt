-- The sole other one leaves where the first stops.
use Rattle.std.proofs.Common.{ap, subst, sym, ◌∙◌}
use Rattle.osm_lattice.specs.declared.seg.Seg.{Seg}
use Rattle.osm_sides.specs.Following.{IsDirected, IsSoleOther}
use Rattle.osm_sides.specs.SideTests.{same}
use Rattle.osm_sides.proofs.Followers.{sole-leaves}
use Rattle.osm_sides.proofs.few.following.next_along.Goals as goal

pub returns : goal.returns
returns c =
    let ss = c.args.segs.now in let place = c.args.place in let next = c.in_ok-next.next in
    let s = c.index-segs-place.result in let t = c.index-segs-next.result in
    let at = c.stop_of-stop.result in let stop = c.stop_of-stop.ensures in
    subst (IsDirected ss next) (sym (c.is_same.ensures ∙ (ap (λ (x : Seg). same x.a at) (sym c.index-segs-next.is) ∙ ap (same t.a) stop)))
    (sole-leaves ss c.requires.outline.rising c.requires.outline.clear c.requires.outline.even place next c.args.up s t c.index-segs-place.is c.index-segs-next.is c.requires.directed (subst (λ p. IsSoleOther ss place p next) stop c.in_ok-next.ensures))
