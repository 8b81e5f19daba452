-- One half is in lowest terms.
use Rattle.std.proofs.Common.{◌≡◌, ℕ}
use Prim.Native.Nat.{◌∣◌}
use Rattle.std.proofs.Math.Nat.{eq-one_of_dvd-one}

pub half_lowest : (d : ℕ) → d ∣ 1 → d ∣ 2 → d ≡ 1
half_lowest d one two = eq-one_of_dvd-one one
