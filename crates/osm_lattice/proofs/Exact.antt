-- What the code computes in i128, step by step: which whole number it is, and how large it is at most.
use Rattle.std.proofs.Common.{◌≡◌, ℕ, ◌+◌, ◌*◌, ◌^◌, ◌<◌, ◌≤◌, ℤ, pos, ◌+ℤ◌, ◌-ℤ◌, ◌*ℤ◌, unsigned_abs, FitsSigned, arith, refl, sym, to_z, of_z}
use Rattle.std.specs.Int.{w32, w64, w128}
use Rattle.std.proofs.lemmas.Int.{fits_signed_from_abs}
use Rattle.osm_lattice.proofs.Sizes.{signed, product_within, back}

-- a number as an operation of the code reads it
abbrev pub held : ℤ → ℤ
held z = to_z w128 (of_z w128 z)

-- r is z, whose absolute value is at most m
pub record Is (r z : ℤ) (m : ℕ) : Type 0 where
  pub same : r ≡ z
  pub size : unsigned_abs z ≤ m
  pub fits : m < 2 ^ 127

-- what a call returned
pub given : (r z : ℤ) (m : ℕ) → r ≡ z → unsigned_abs r ≤ m → m < 2 ^ 127 → Is r z m
given r z m e h f = record { same = e; size = rw (sym e) h; fits = f }

-- a number that was widened
pub from_i32 : (r z : ℤ) (m : ℕ) → r ≡ to_z w32 (of_z w32 z) → unsigned_abs z ≤ m → m < 2 ^ 31 → Is r z m
from_i32 r z m e h f = record { same = rw e (back w32 z (omega arith)); size = h; fits = omega arith }

pub from_i64 : (r z : ℤ) (m : ℕ) → r ≡ to_z w64 (of_z w64 z) → unsigned_abs z ≤ m → m < 2 ^ 63 → Is r z m
from_i64 r z m e h f = record { same = rw e (back w64 z (omega arith)); size = h; fits = omega arith }

pub from_unsigned : (r : ℤ) (n m : ℕ) → r ≡ pos n → n ≤ m → m < 2 ^ 127 → Is r (pos n) m
from_unsigned r n m e h f = record { same = e; size = h; fits = f }

pub held_is : {r z : ℤ} {m : ℕ} → Is r z m → held r ≡ z
held_is {r} {z} {m} i = rw i.same (back w128 z (omega (arith, i.size, i.fits)))

-- how large a result is that was read again
pub held_within : {r z : ℤ} {m : ℕ} → Is r z m → unsigned_abs (held r) ≤ m
held_within {r} {z} {m} i = rw (held_is i) i.size

module _ {r z s y : ℤ} {m n : ℕ} (a : Is r z m) (b : Is s y n) where
  times_is : held r *ℤ held s ≡ z *ℤ y
  times_is = rw (held_is a, held_is b) refl

  pub times : m * n < 2 ^ 127 → Is (held r *ℤ held s) (z *ℤ y) (m * n)
  times f = record { same = times_is; size = product_within z y m n a.size b.size; fits = f }

  pub times_fits : m * n < 2 ^ 127 → FitsSigned w128 (held r *ℤ held s)
  times_fits f = rw times_is (fits_signed_from_abs w128 (z *ℤ y) (omega (arith, product_within z y m n a.size b.size)))

  plus_is : held r +ℤ held s ≡ z +ℤ y
  plus_is = rw (held_is a, held_is b) refl

  plus_within : unsigned_abs (z +ℤ y) ≤ m + n
  plus_within = omega (arith, signed, a.size, b.size)

  pub plus : m + n < 2 ^ 127 → Is (held r +ℤ held s) (z +ℤ y) (m + n)
  plus f = record { same = plus_is; size = plus_within; fits = f }

  pub plus_fits : m + n < 2 ^ 127 → FitsSigned w128 (held r +ℤ held s)
  plus_fits f = rw plus_is (fits_signed_from_abs w128 (z +ℤ y) (omega (arith, plus_within)))

  minus_is : held r -ℤ held s ≡ z -ℤ y
  minus_is = rw (held_is a, held_is b) refl

  minus_within : unsigned_abs (z -ℤ y) ≤ m + n
  minus_within = omega (arith, signed, a.size, b.size)

  pub minus : m + n < 2 ^ 127 → Is (held r -ℤ held s) (z -ℤ y) (m + n)
  minus f = record { same = minus_is; size = minus_within; fits = f }

  pub minus_fits : m + n < 2 ^ 127 → FitsSigned w128 (held r -ℤ held s)
  minus_fits f = rw minus_is (fits_signed_from_abs w128 (z -ℤ y) (omega (arith, minus_within)))
