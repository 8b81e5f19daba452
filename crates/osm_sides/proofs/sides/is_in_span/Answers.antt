-- The two comparisons of heights, one after the other.
use Rattle.std.proofs.Common.{◌≡◌, true, false, rules, w32}
use Rattle.std.proofs.lemmas.Int.{to_z-of_z}
use lib.Signed.{le_z}
use Rattle.osm_sides.proofs.SegmentTests.{span_above, span_below}
use Rattle.osm_sides.proofs.sides.is_in_span.Goals as goal

pub returns-then-t-p : goal.returns-then-t-p
returns-then-t-p c =
    let p = c.args.p in let t = c.args.t in
    let here = to_z-of_z w32 p.y (search rules) in
    let low = to_z-of_z w32 t.a.y (search rules) in
    let high = to_z-of_z w32 t.b.y (search rules) in
    let above : le_z t.a.y p.y ≡ true = rw (low, here) at c.if-t-p.true in
    rw (here, high) (span_above p t above)

pub returns-else-t-p : goal.returns-else-t-p
returns-else-t-p c =
    let p = c.args.p in let t = c.args.t in
    let here = to_z-of_z w32 p.y (search rules) in
    let low = to_z-of_z w32 t.a.y (search rules) in
    let below : le_z t.a.y p.y ≡ false = rw (low, here) at c.if-t-p.false in
    rw (here, low) (span_below p t below)
