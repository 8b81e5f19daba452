use Rattle.std.proofs.Common.{lit<}
use Rattle.osm_geom.specs.Dir.{dot}
use Rattle.osm_lattice.proofs.LatticeKit.{from_i64, times, plus, plus_fits, held_is}
use Rattle.osm_geom.proofs.turning.dot.Goals as goal

pub overflow_add-result : goal.overflow_add-result
overflow_add-result c =
    let ux = from_i64 _ c.args.d.dx 3_600_000_000 c.from.ensures c.args.d.dx_in (lit< tt) in
    let vx = from_i64 _ c.args.e.dx 3_600_000_000 c.from-2.ensures c.args.e.dx_in (lit< tt) in
    let uy = from_i64 _ c.args.d.dy 3_600_000_000 c.from-3.ensures c.args.d.dy_in (lit< tt) in
    let vy = from_i64 _ c.args.e.dy 3_600_000_000 c.from-4.ensures c.args.e.dy_in (lit< tt) in
    plus_fits (times ux vx (lit< tt)) (times uy vy (lit< tt)) (lit< tt)

pub returns : goal.returns
unfolding dot
returns c =
    let ux = from_i64 _ c.args.d.dx 3_600_000_000 c.from.ensures c.args.d.dx_in (lit< tt) in
    let vx = from_i64 _ c.args.e.dx 3_600_000_000 c.from-2.ensures c.args.e.dx_in (lit< tt) in
    let uy = from_i64 _ c.args.d.dy 3_600_000_000 c.from-3.ensures c.args.d.dy_in (lit< tt) in
    let vy = from_i64 _ c.args.e.dy 3_600_000_000 c.from-4.ensures c.args.e.dy_in (lit< tt) in
    held_is (plus (times ux vx (lit< tt)) (times uy vy (lit< tt)) (lit< tt))
