-- Integers.
use Rattle.std.proofs.Common.{T, arith, int_eq, negsuc, pos, subst, sym, true, ℕ, ℤ, ◌*ℤ◌, ◌+ℤ◌, ◌-ℤ◌, ◌<ℤ◌, ◌<◌, ◌≡◌, ◌≤ℤ◌}
use Rattle.std.specs.Int.{int_div_euclid}
use Rattle.std.specs.Int.Signed.{lt_z, lt_z_yes}
use Rattle.std.proofs.lemmas.Bool.Decides.{Decides-int_eq}
use Rattle.std.proofs.lemmas.Int.{ints}

pub int_eq-true : (a b : ℤ) → int_eq a b ≡ true → a ≡ b
int_eq-true a b h = grind (arith, Decides-int_eq)

pub int_eq-same : (a b : ℤ) → a ≡ b → int_eq a b ≡ true
int_eq-same a b h = grind (arith, Decides-int_eq)

pub below_from : (a b : ℤ) → lt_z a b ≡ true → a <ℤ b
below_from a b h = lt_z_yes (subst T (sym h) tt)

pub same_from_difference : (a b : ℤ) → a -ℤ b ≡ pos 0 → a ≡ b
same_from_difference a b h = omega (arith, ints)

pub less_nothing : (a b : ℤ) → b ≡ pos 0 → a -ℤ b ≡ a
less_nothing a b h = omega (arith, ints)

-- what is left of a sum of nothing
pub rest_nothing : (a b c : ℤ) → a +ℤ b ≡ c → a ≡ pos 0 → c ≡ pos 0 → b ≡ pos 0
rest_nothing a b c h k m = omega (arith, ints)

pub least_trans : (a b c : ℤ) → a ≤ℤ b → b ≤ℤ c → a ≤ℤ c
least_trans a b c h k = omega (arith, ints)

pub sum_none : (z : ℤ) → z +ℤ (pos 0 -ℤ z) ≡ pos 0
sum_none z = omega (arith, ints)

-- neither of two numbers is greater
pub same_from_least : (a b : ℤ) → a ≤ℤ b → b ≤ℤ a → a ≡ b
same_from_least a b h k = omega (arith, ints)

pub product_not_below : (a b : ℤ) → pos 0 ≤ℤ a → pos 0 ≤ℤ b → pos 0 ≤ℤ (a *ℤ b)
product_not_below (pos a) (pos b) h k = omega (arith, ints)
product_not_below (negsuc a) b h k = absurd (omega (arith, ints))
product_not_below a (negsuc b) h k = absurd (omega (arith, ints))

-- a quotient rounded down, times its divisor
pub floor_below : (z : ℤ) (k : ℕ) → 0 < k → (int_div_euclid z (pos k) *ℤ pos k) ≤ℤ z
floor_below (pos a) k h = omega (arith, ints)
floor_below (negsuc a) k h = omega (arith, ints)

pub floor_above : (z : ℤ) (k : ℕ) → 0 < k → z <ℤ (int_div_euclid z (pos k) *ℤ pos k +ℤ pos k)
floor_above (pos a) k h = omega (arith, ints)
floor_above (negsuc a) k h = omega (arith, ints)
