use Rattle.std.proofs.Common.{lit<, refl}
use Rattle.osm_geom.specs.LineOrder.{x_num}
use Rattle.osm_lattice.proofs.LatticeKit.{given, from_unsigned, times, times_fits, plus, plus_fits, held_is, held_within}
use Rattle.osm_geom.proofs.level.Level.x_num.Goals as goal

pub overflow_mul-result-2 : goal.overflow_mul-result-2
overflow_mul-result-2 c =
    let x = given _ c.args.l.x 1_800_000_000 refl c.args.l.x_in (lit< tt) in
    let rise = given _ c.args.l.rise 1_800_000_000 refl c.args.l.rise_in (lit< tt) in
    let den = from_unsigned _ _ 3_600_000_000 c.from.ensures c.args.self.den_in.1 (lit< tt) in
    times_fits (times x rise (lit< tt)) den (lit< tt)

pub overflow_mul-result-3 : goal.overflow_mul-result-3
overflow_mul-result-3 c =
    let above = given _ _ 6_480_000_000_000_000_000 c.above.ensures.value c.above.ensures.small (lit< tt) in
    let run = given _ c.args.l.run 3_600_000_000 refl c.args.l.run_in (lit< tt) in
    times_fits above run (lit< tt)

pub overflow_add-result : goal.overflow_add-result
overflow_add-result c =
    let x = given _ c.args.l.x 1_800_000_000 refl c.args.l.x_in (lit< tt) in
    let rise = given _ c.args.l.rise 1_800_000_000 refl c.args.l.rise_in (lit< tt) in
    let den = from_unsigned _ _ 3_600_000_000 c.from.ensures c.args.self.den_in.1 (lit< tt) in
    let above = given _ _ 6_480_000_000_000_000_000 c.above.ensures.value c.above.ensures.small (lit< tt) in
    let run = given _ c.args.l.run 3_600_000_000 refl c.args.l.run_in (lit< tt) in
    plus_fits (times (times x rise (lit< tt)) den (lit< tt)) (times above run (lit< tt)) (lit< tt)

pub returns-clause-value : goal.returns-clause-value
unfolding x_num
returns-clause-value c =
    let x = given _ c.args.l.x 1_800_000_000 refl c.args.l.x_in (lit< tt) in
    let rise = given _ c.args.l.rise 1_800_000_000 refl c.args.l.rise_in (lit< tt) in
    let den = from_unsigned _ _ 3_600_000_000 c.from.ensures c.args.self.den_in.1 (lit< tt) in
    let above = given _ _ 6_480_000_000_000_000_000 c.above.ensures.value c.above.ensures.small (lit< tt) in
    let run = given _ c.args.l.run 3_600_000_000 refl c.args.l.run_in (lit< tt) in
    held_is (plus (times (times x rise (lit< tt)) den (lit< tt)) (times above run (lit< tt)) (lit< tt))

pub returns-clause-small : goal.returns-clause-small
returns-clause-small c =
    let x = given _ c.args.l.x 1_800_000_000 refl c.args.l.x_in (lit< tt) in
    let rise = given _ c.args.l.rise 1_800_000_000 refl c.args.l.rise_in (lit< tt) in
    let den = from_unsigned _ _ 3_600_000_000 c.from.ensures c.args.self.den_in.1 (lit< tt) in
    let above = given _ _ 6_480_000_000_000_000_000 c.above.ensures.value c.above.ensures.small (lit< tt) in
    let run = given _ c.args.l.run 3_600_000_000 refl c.args.l.run_in (lit< tt) in
    let sum = plus (times (times x rise (lit< tt)) den (lit< tt)) (times above run (lit< tt)) (lit< tt) in
    held_within sum
