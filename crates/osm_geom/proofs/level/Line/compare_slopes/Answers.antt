use Rattle.std.proofs.Common.{ℤ, refl, lit<, unsigned_abs, ◌≤◌}
use Rattle.osm_lattice.proofs.LatticeKit.{Is, given, times, times_fits, held_is}
use Rattle.osm_geom.proofs.level.Line.compare_slopes.Goals as goal

rise_is : (r : ℤ) → unsigned_abs r ≤ 1_800_000_000 → Is r r 1_800_000_000
rise_is r h = given r r _ refl h (lit< tt)

run_is : (r : ℤ) → unsigned_abs r ≤ 3_600_000_000 → Is r r 3_600_000_000
run_is r h = given r r _ refl h (lit< tt)

pub overflow_mul-self : goal.overflow_mul-self
overflow_mul-self c = times_fits (run_is c.args.self.run c.args.self.run_in) (rise_is c.args.other.rise c.args.other.rise_in) (lit< tt)

pub overflow_mul-other : goal.overflow_mul-other
overflow_mul-other c = times_fits (run_is c.args.other.run c.args.other.run_in) (rise_is c.args.self.rise c.args.self.rise_in) (lit< tt)

pub returns : goal.returns
returns c =
    let one = held_is (times (run_is c.args.self.run c.args.self.run_in) (rise_is c.args.other.rise c.args.other.rise_in) (lit< tt)) in
    let two = held_is (times (run_is c.args.other.run c.args.other.run_in) (rise_is c.args.self.rise c.args.self.rise_in) (lit< tt)) in
    rw (one, two) at c.cmp.ensures
