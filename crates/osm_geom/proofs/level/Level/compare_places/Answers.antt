use Rattle.std.proofs.Common.{◌≡◌, ℤ, refl, lit<, unsigned_abs, ◌≤◌}
use Rattle.osm_lattice.proofs.LatticeKit.{Is, given, times, times_fits, held_is}
use Rattle.osm_geom.proofs.level.Level.compare_places.Goals as goal

x_is : (r z : ℤ) → r ≡ z → unsigned_abs r ≤ 34_992_000_000_000_000_000_000_000_000 → Is r z 34_992_000_000_000_000_000_000_000_000
x_is r z e h = given r z _ e h (lit< tt)

rise_is : (r : ℤ) → unsigned_abs r ≤ 1_800_000_000 → Is r r 1_800_000_000
rise_is r h = given r r _ refl h (lit< tt)

pub overflow_mul-x_num : goal.overflow_mul-x_num
overflow_mul-x_num c = times_fits (x_is _ _ c.x_num.ensures.value c.x_num.ensures.small) (rise_is c.args.m.rise c.args.m.rise_in) (lit< tt)

pub overflow_mul-x_num-2 : goal.overflow_mul-x_num-2
overflow_mul-x_num-2 c = times_fits (x_is _ _ c.x_num-2.ensures.value c.x_num-2.ensures.small) (rise_is c.args.l.rise c.args.l.rise_in) (lit< tt)

pub returns : goal.returns
returns c =
    let one = held_is (times (x_is _ _ c.x_num.ensures.value c.x_num.ensures.small) (rise_is c.args.m.rise c.args.m.rise_in) (lit< tt)) in
    let two = held_is (times (x_is _ _ c.x_num-2.ensures.value c.x_num-2.ensures.small) (rise_is c.args.l.rise c.args.l.rise_in) (lit< tt)) in
    rw (one, two) at c.cmp.ensures
