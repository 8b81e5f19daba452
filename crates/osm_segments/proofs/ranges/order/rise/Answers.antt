use Rattle.std.proofs.Common.{arith, pos, unsigned_abs, ◌*ℤ◌, ◌+ℤ◌, ◌<◌, ◌^◌}
use Rattle.std.specs.Int.{w64}
use Rattle.osm_lattice.proofs.LatticeKit.{back, signed}
use Rattle.osm_segments.proofs.ranges.order.rise.Goals as goal

pub returns-clause-value : goal.returns-clause-value
returns-clause-value c =
    let y = c.step_y.result in let x = c.step_x.result in
    let y_in = c.step_y.ensures.small in let x_in = c.step_x.ensures.small in
    let y_is = c.step_y.ensures.value in let x_is = c.step_x.ensures.value in
    let wide : unsigned_abs (y *ℤ pos 4_294_967_296) < 2 ^ 63 = omega (arith, signed) in
    let whole : unsigned_abs (y *ℤ pos 4_294_967_296 +ℤ x) < 2 ^ 63 = omega (arith, signed) in
    rw (back w64 y (omega arith), back w64 x (omega arith), back w64 (y *ℤ pos 4_294_967_296) wide, back w64 (y *ℤ pos 4_294_967_296 +ℤ x) whole) (omega (arith, signed))

pub returns-clause-small : goal.returns-clause-small
returns-clause-small c =
    let y = c.step_y.result in let x = c.step_x.result in
    let y_in = c.step_y.ensures.small in let x_in = c.step_x.ensures.small in
    let wide : unsigned_abs (y *ℤ pos 4_294_967_296) < 2 ^ 63 = omega (arith, signed) in
    let whole : unsigned_abs (y *ℤ pos 4_294_967_296 +ℤ x) < 2 ^ 63 = omega (arith, signed) in
    rw (back w64 y (omega arith), back w64 x (omega arith), back w64 (y *ℤ pos 4_294_967_296) wide, back w64 (y *ℤ pos 4_294_967_296 +ℤ x) whole) whole
