-- Polynomial identities over ℤ by `omega`: an integer together with two naturals whose difference it is.
use Rattle.std.proofs.Common.{ap, arith, ℕ, ◌*◌, ◌+◌, ◌∙◌, ◌≡◌}
use borrow.Author.Differences.{down, ints, product_is, same_in, up}
use lib.IntN.{pos, ℤ, ◌*ℤ◌, ◌+ℤ◌, ◌-ℤ◌}

-- z is p - n
pub record Split : Type 0 where
  pub z : ℤ
  pub p : ℕ
  pub n : ℕ
  pub is : up z + n ≡ down z + p

abbrev pub lift : ℤ → Split
lift a = record { z = a; p = up a; n = down a; is = omega arith }

pub add-is : (a b : ℤ) (p n q m : ℕ) → up a + n ≡ down a + p → up b + m ≡ down b + q → up (a +ℤ b) + (n + m) ≡ down (a +ℤ b) + (p + q)
add-is a b p n q m e f = omega (arith, ints)

pub sub-is : (a b : ℤ) (p n q m : ℕ) → up a + n ≡ down a + p → up b + m ≡ down b + q → up (a -ℤ b) + (n + q) ≡ down (a -ℤ b) + (p + m)
sub-is a b p n q m e f = omega (arith, ints)

mul-nat : (u d n p v w m q : ℕ) → u + n ≡ d + p → v + m ≡ w + q → (u * v + d * w) + (p * m + n * q) ≡ (u * w + d * v) + (p * q + n * m)
mul-nat u d n p v w m q e f = omega (arith, ap (λ (k : ℕ). k * v) e, ap (λ (k : ℕ). k * w) e, ap (λ (k : ℕ). p * k) f, ap (λ (k : ℕ). n * k) f)

pub mul-is : (a b : ℤ) (p n q m : ℕ) → up a + n ≡ down a + p → up b + m ≡ down b + q → up (a *ℤ b) + (p * m + n * q) ≡ down (a *ℤ b) + (p * q + n * m)
mul-is a b p n q m e f = omega (arith, product_is a b, mul-nat (up a) (down a) n p (up b) (down b) m q e f)

infixl 6 ◌⊞◌ ◌⊟◌
infixl 7 ◌⊠◌
abbrev pub ◌⊞◌ : Split → Split → Split
a ⊞ b = record { z = a.z +ℤ b.z; p = a.p + b.p; n = a.n + b.n; is = add-is a.z b.z a.p a.n b.p b.n a.is b.is }

abbrev pub ◌⊟◌ : Split → Split → Split
a ⊟ b = record { z = a.z -ℤ b.z; p = a.p + b.n; n = a.n + b.p; is = sub-is a.z b.z a.p a.n b.p b.n a.is b.is }

abbrev pub ◌⊠◌ : Split → Split → Split
a ⊠ b = record { z = a.z *ℤ b.z; p = a.p * b.p + a.n * b.n; n = a.p * b.n + a.n * b.p; is = mul-is a.z b.z a.p a.n b.p b.n a.is b.is }

pub same : (a b : Split) → a.p + b.n ≡ b.p + a.n → a.z ≡ b.z
same a b e = same_in a.z b.z (omega (arith, a.is, b.is))

pub apart : (a b : Split) → a.z ≡ b.z → a.p + b.n ≡ b.p + a.n
apart a b e = let h = ap up e in let k = ap down e in omega (arith, a.is, b.is)

pub minus_zeros : (a b x y : ℤ) → x ≡ pos 0 → y ≡ pos 0 → a *ℤ x -ℤ b *ℤ y ≡ pos 0
minus_zeros a b x y h k =
    ap (λ (z : ℤ). a *ℤ z -ℤ b *ℤ y) h ∙ ap (λ (z : ℤ). a *ℤ pos 0 -ℤ b *ℤ z) k ∙ same (lift a ⊠ lift (pos 0) ⊟ lift b ⊠ lift (pos 0)) (lift (pos 0)) (omega arith)

-- how far c / n is above a / k is how far b / m is above a / k and c / n above b / m
pub rises_sum : (a b c : ℤ) (k m n : ℕ) → pos n *ℤ (b *ℤ pos k -ℤ a *ℤ pos m) +ℤ pos k *ℤ (c *ℤ pos m -ℤ b *ℤ pos n) ≡ pos m *ℤ (c *ℤ pos k -ℤ a *ℤ pos n)
rises_sum a b c k m n =
    let nat : ℕ → Split = λ i. record { z = pos i; p = i; n = 0; is = omega arith } in
    same (nat n ⊠ (lift b ⊠ nat k ⊟ lift a ⊠ nat m) ⊞ nat k ⊠ (lift c ⊠ nat m ⊟ lift b ⊠ nat n)) (nat m ⊠ (lift c ⊠ nat k ⊟ lift a ⊠ nat n)) (omega arith)
