-- Factors of products of whole numbers.
use Rattle.std.proofs.Common.{◌≡◌, ◌≢◌, ◌≤◌, ℕ, zero, suc, ℤ, pos, negsuc, ◌-ℤ◌, ◌*ℤ◌, refl, ◌∙◌, arith, inl, inr, ⊎_elim, ◌⊎◌}
use Rattle.std.proofs.lemmas.Int.{ints}
use Rattle.plane.proofs.SignKit.{lift, same, ◌⊟◌, ◌⊠◌}
use Rattle.lists.proofs.ListsKit.{same_from_difference}

pub some : (n : ℕ) → 1 ≤ n → pos n ≢ pos 0
some zero h e = absurd (omega arith)
some (suc n) h e = cc

-- a product is 0 only where a factor is
pub zero_factor : (x y : ℤ) → x *ℤ y ≡ pos 0 → (x ≡ pos 0) ⊎ (y ≡ pos 0)
zero_factor (pos zero) y e = inl refl
zero_factor (pos (suc a)) (pos zero) e = inr refl
zero_factor (pos (suc a)) (pos (suc b)) e = absurd (omega (arith, ints))
zero_factor (pos (suc a)) (negsuc b) e = absurd (omega (arith, ints))
zero_factor (negsuc a) (pos zero) e = inr refl
zero_factor (negsuc a) (pos (suc b)) e = absurd (omega (arith, ints))
zero_factor (negsuc a) (negsuc b) e = absurd (omega (arith, ints))

pub zero_other : (k x : ℤ) → k ≢ pos 0 → k *ℤ x ≡ pos 0 → x ≡ pos 0
zero_other k x some e = ⊎_elim (λ z. absurd (some z)) (λ z. z) (zero_factor k x e)

-- a common factor that is not 0 may be left out
pub cancel_factor : (x y k : ℤ) → k ≢ pos 0 → k *ℤ x ≡ k *ℤ y → x ≡ y
cancel_factor x y k some e =
    let parted : k *ℤ (x -ℤ y) ≡ k *ℤ x -ℤ k *ℤ y = same (lift k ⊠ (lift x ⊟ lift y)) (lift k ⊠ lift x ⊟ lift k ⊠ lift y) (omega arith) in
    same_from_difference x y (zero_other k (x -ℤ y) some (parted ∙ gone (k *ℤ x) (k *ℤ y) e))
  where
    gone : (a b : ℤ) → a ≡ b → a -ℤ b ≡ pos 0
    gone a b e = omega (arith, ints)
