-- One half is in lowest terms.
use Rattle.std.proofs.Common.{arith}
use Rattle.std.proofs.Math.Nat.{eq-one_of_dvd-one}
use Rattle.tests_plane.proofs.reading.half.Goals as goal

pub invariant_of-result : goal.invariant_of-result
invariant_of-result c = record { den_in = (omega arith, omega arith); above_in = omega arith; num_in = omega arith; lowest = λ d one two. eq-one_of_dvd-one one }
