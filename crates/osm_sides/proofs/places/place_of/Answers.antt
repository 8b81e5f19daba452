-- The status and the level parts tell the place.
use Rattle.std.proofs.Common.{ap, arith, count_by, length, nat_lt, sym, ◌%◌, ◌-◌, ◌==◌, ◌∙◌, ◌≡◌, ◌||◌}
use Rattle.osm_lattice.specs.Loc.{vector_of}
use Rattle.osm_sides.specs.PointPlaces.{on_count, place_by_parity}
use Rattle.osm_sides.specs.SideTests.{left_count}
use Rattle.osm_sides.proofs.PassedPoints.{left_counted, on_told, passing_counted}
use Rattle.osm_sides.proofs.Statuses.{at-point, left-parts}
use Rattle.osm_sides.proofs.places.place_of.Goals as goal

pub left_from-from-requires : goal.left_from-from-requires
left_from-from-requires c = let r = c.requires in left-parts r.0 r.1.rising r.1.clear r.3 c.args.status.now r.5 c.args.p r.4

pub is_passed-requires-clause-status : goal.is_passed-requires-clause-status
is_passed-requires-clause-status c = let r = c.requires in (r.0, at-point r.0 r.1.rising r.1.clear r.3 c.args.status.now r.5 c.args.p r.4)

pub returns : goal.returns
returns c segs outline are height level is =
    let p = c.args.p in let status = c.args.status.now in
    let here = at-point segs outline.rising outline.clear height status is p level in
    let odd = c.left_from-from.ensures.count ∙ left_counted p segs status here in
    let on = on_told p segs c.has.result c.is_passed.result (c.has.ensures segs are) (c.is_passed.ensures ∙ ap (nat_lt 0) (passing_counted p segs status here)) in
    c.place_by.ensures ∙ ap (λ n. place_by_parity (c.has.result || c.is_passed.result) ((n - c.left_from-from.result) % 2 == 1)) c.len.ensures ∙ ap (λ b. place_by_parity b ((length status - c.left_from-from.result) % 2 == 1)) (sym on) ∙ ap (λ n. place_by_parity (nat_lt 0 (on_count p segs)) (n % 2 == 1)) odd
