-- Rounding tells nothing of the denominator.
use Rattle.std.proofs.Common.{arith, refl, subst, suc, zero, ℕ, ◌*◌, ◌<◌, ◌≡◌}
use borrow.Author.Differences.{ints}
use lib.IntN.{negsuc, pos, ℤ, ◌*ℤ◌, ◌+ℤ◌, ◌-ℤ◌}
use lib.Signed.{◌<ℤ◌, ◌≤ℤ◌}
use Rattle.plane.proofs.SignKit.{lift, same, ◌⊞◌, ◌⊟◌, ◌⊠◌}
use Rattle.plane_lists.specs.Rounded.RoundedEdges.{whole_near}
use Rattle.lists.proofs.ListsKit.{floor_above, floor_below, product_not_below, same_from_least}

gap : (s r d : ℤ) → (s -ℤ r -ℤ pos 1) *ℤ d ≡ s *ℤ d -ℤ (r *ℤ d +ℤ d)
gap s r d = same ((lift s ⊟ lift r ⊟ lift (pos 1)) ⊠ lift d) (lift s ⊠ lift d ⊟ (lift r ⊠ lift d ⊞ lift d)) (omega arith)

clash : (p q d n x : ℤ) → p ≤ℤ n → n <ℤ (q +ℤ d) → x ≡ p -ℤ (q +ℤ d) → pos 0 ≤ℤ x → ⊥
clash p q d n x h k e l = omega (arith, ints)

least-by : (s r d n : ℤ) → pos 0 ≤ℤ d → (s *ℤ d) ≤ℤ n → n <ℤ (r *ℤ d +ℤ d) → (z : ℤ) → r -ℤ s ≡ z → s ≤ℤ r
least-by s r d n l h k (pos m) e = omega (arith, ints)
least-by s r d n l h k (negsuc m) e =
    absurd (clash (s *ℤ d) (r *ℤ d) d n ((s -ℤ r -ℤ pos 1) *ℤ d) h k (gap s r d) (product_not_below (s -ℤ r -ℤ pos 1) d (omega (arith, ints)) l))

from-zero : (x y : ℤ) → pos 0 ≤ℤ (x -ℤ y) → y ≤ℤ x
from-zero x y h = omega (arith, ints)

from-more : (x y : ℤ) (k : ℕ) → 0 < k → pos 0 ≤ℤ (x -ℤ y -ℤ pos k) → y <ℤ x
from-more x y k h l = omega (arith, ints)

rest : (x y : ℤ) → y ≤ℤ x → pos 0 ≤ℤ (x -ℤ y)
rest x y h = omega (arith, ints)

rest-more : (x y : ℤ) → y <ℤ x → pos 0 ≤ℤ (x -ℤ y -ℤ pos 1)
rest-more x y h = omega (arith, ints)

more : (k m : ℕ) → 0 < k → 0 < m → 0 < k * m
more (suc k) (suc m) h l = omega arith
more zero m h l = absurd (omega arith)
more (suc k) zero h l = absurd (omega arith)

module _ (k m : ℕ) (hk : 0 < k) (hm : 0 < m) (z r : ℤ) where
  low : pos k *ℤ (pos 2 *ℤ z +ℤ pos m -ℤ r *ℤ pos (2 * m)) ≡ pos 2 *ℤ (pos k *ℤ z) +ℤ pos (k * m) -ℤ r *ℤ pos (2 * (k * m))
  low = same (lift (pos k) ⊠ (lift (pos 2) ⊠ lift z ⊞ lift (pos m) ⊟ lift r ⊠ lift (pos (2 * m)))) (lift (pos 2) ⊠ (lift (pos k) ⊠ lift z) ⊞ lift (pos (k * m)) ⊟ lift r ⊠ lift (pos (2 * (k * m)))) (omega arith)

  high : pos k *ℤ (r *ℤ pos (2 * m) +ℤ pos (2 * m) -ℤ (pos 2 *ℤ z +ℤ pos m) -ℤ pos 1) ≡ r *ℤ pos (2 * (k * m)) +ℤ pos (2 * (k * m)) -ℤ (pos 2 *ℤ (pos k *ℤ z) +ℤ pos (k * m)) -ℤ pos k
  high = same (lift (pos k) ⊠ (lift r ⊠ lift (pos (2 * m)) ⊞ lift (pos (2 * m)) ⊟ (lift (pos 2) ⊠ lift z ⊞ lift (pos m)) ⊟ lift (pos 1))) (lift r ⊠ lift (pos (2 * (k * m))) ⊞ lift (pos (2 * (k * m))) ⊟ (lift (pos 2) ⊠ (lift (pos k) ⊠ lift z) ⊞ lift (pos (k * m))) ⊟ lift (pos k)) (omega arith)

  some : 0 < 2 * (k * m)
  some = let p = more k m hk hm in omega arith

  pub factor-by : (r *ℤ pos (2 * m)) ≤ℤ (pos 2 *ℤ z +ℤ pos m) → (pos 2 *ℤ z +ℤ pos m) <ℤ (r *ℤ pos (2 * m) +ℤ pos (2 * m)) → whole_near (pos k *ℤ z) (k * m) ≡ r
  factor-by a b =
      let d = pos (2 * (k * m)) in let n = pos 2 *ℤ (pos k *ℤ z) +ℤ pos (k * m) in let s = whole_near (pos k *ℤ z) (k * m) in
      let a' = from-zero n (r *ℤ d) (subst (λ (x : ℤ). pos 0 ≤ℤ x) low (product_not_below (pos k) _ (omega (arith, ints)) (rest _ _ a))) in
      let b' = from-more (r *ℤ d +ℤ d) n k hk (subst (λ (x : ℤ). pos 0 ≤ℤ x) high (product_not_below (pos k) _ (omega (arith, ints)) (rest-more _ _ b))) in
      let c = floor_below n (2 * (k * m)) some in let e = floor_above n (2 * (k * m)) some in
      same_from_least s r (least-by s r d n (omega (arith, ints)) c b' (r -ℤ s) refl) (least-by r s d n (omega (arith, ints)) a' e (s -ℤ r) refl)

pub factor-rounds : (k m : ℕ) → 0 < k → 0 < m → (z : ℤ) → whole_near (pos k *ℤ z) (k * m) ≡ whole_near z m
factor-rounds k m hk hm z =
    factor-by k m hk hm z (whole_near z m) (floor_below (pos 2 *ℤ z +ℤ pos m) (2 * m) (omega arith)) (floor_above (pos 2 *ℤ z +ℤ pos m) (2 * m) (omega arith))
