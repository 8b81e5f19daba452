-- A point near one that is left of a square is left of the square's middle.
use Rattle.std.proofs.Common.{arith, inl, inr, ◌≡◌, ◌⊎◌}
use borrow.Author.Differences.{ints}
use lib.IntN.{negsuc, pos, ℤ, ◌*ℤ◌, ◌+ℤ◌, ◌-ℤ◌}
use lib.Signed.{◌≤ℤ◌}
use Rattle.plane.specs.Sign.{Plus, sign}
use Rattle.plane.specs.Vector.{Vector, cross, from_to}
use Rattle.plane.proofs.PlaneKit.{cross2, from_to2, lift2}
use Rattle.plane.proofs.SignKit.{lift, plus-is, same, ◌⊞◌, ◌⊟◌, ◌⊠◌}
use Rattle.plane_lists.specs.Rounded.Clear.{IsLeftOf, IsLeftOfSquare}
use Rattle.plane_lists.specs.Rounded.Square.{IsNear}
use Rattle.lists.proofs.ListsKit.{product_not_below}

down-product : (x z : ℤ) → x ≤ℤ pos 0 → z ≤ℤ pos 0 → pos 0 ≤ℤ (x *ℤ z)
down-product x z h k =
    let e = product_not_below (pos 0 -ℤ x) (pos 0 -ℤ z) (omega (arith, ints)) (omega (arith, ints)) in
    let f : (pos 0 -ℤ x) *ℤ (pos 0 -ℤ z) ≡ x *ℤ z = same ((lift (pos 0) ⊟ lift x) ⊠ (lift (pos 0) ⊟ lift z)) (lift x ⊠ lift z) (omega arith) in
    rw f at e

-- one of the two ends of what b may be is behind it, along x
behind : (x b h : ℤ) → b ≤ℤ h → pos 0 ≤ℤ (b +ℤ h) → (pos 0 ≤ℤ (x *ℤ (b +ℤ h))) ⊎ (pos 0 ≤ℤ (x *ℤ (b -ℤ h)))
behind (pos n) b h l m = inl (product_not_below (pos n) (b +ℤ h) (omega (arith, ints)) m)
behind (negsuc n) b h l m = inr (down-product (negsuc n) (b -ℤ h) (omega (arith, ints)) (omega (arith, ints)))

pub gain : (a b c r : ℤ) → sign a ≡ Plus → pos 0 ≤ℤ b → pos 0 ≤ℤ c → a +ℤ b +ℤ c ≡ r → sign r ≡ Plus
gain a b c r h k l e = let p = (plus-is a).0 h in (plus-is r).1 (omega (arith, ints))

module _ (h : ℤ) (d p u v : Vector) (l : IsLeftOfSquare h d p u) where
  left-by : (pos 0 ≤ℤ (d.x *ℤ (v.y -ℤ u.y +ℤ h))) ⊎ (pos 0 ≤ℤ (d.x *ℤ (v.y -ℤ u.y -ℤ h))) → (pos 0 ≤ℤ (d.y *ℤ (u.x -ℤ v.x +ℤ h))) ⊎ (pos 0 ≤ℤ (d.y *ℤ (u.x -ℤ v.x -ℤ h))) → IsLeftOf d p v
  left-by (inl y) (inl x) =
      let h' = lift h in let d' = lift2 d in let p' = lift2 p in let u' = lift2 u in let v' = lift2 v in
      gain _ _ _ (cross d (from_to p v)) l.upper_left y x
      (same (cross2 d' (record { x2 = u'.x2 ⊟ (p'.x2 ⊟ h'); y2 = u'.y2 ⊟ (p'.y2 ⊞ h') }) ⊞ d'.x2 ⊠ (v'.y2 ⊟ u'.y2 ⊞ h') ⊞ d'.y2 ⊠ (u'.x2 ⊟ v'.x2 ⊞ h')) (cross2 d' (from_to2 p' v')) (omega arith))
  left-by (inl y) (inr x) =
      let h' = lift h in let d' = lift2 d in let p' = lift2 p in let u' = lift2 u in let v' = lift2 v in
      gain _ _ _ (cross d (from_to p v)) l.upper_right y x
      (same (cross2 d' (record { x2 = u'.x2 ⊟ (p'.x2 ⊞ h'); y2 = u'.y2 ⊟ (p'.y2 ⊞ h') }) ⊞ d'.x2 ⊠ (v'.y2 ⊟ u'.y2 ⊞ h') ⊞ d'.y2 ⊠ (u'.x2 ⊟ v'.x2 ⊟ h')) (cross2 d' (from_to2 p' v')) (omega arith))
  left-by (inr y) (inl x) =
      let h' = lift h in let d' = lift2 d in let p' = lift2 p in let u' = lift2 u in let v' = lift2 v in
      gain _ _ _ (cross d (from_to p v)) l.lower_left y x
      (same (cross2 d' (record { x2 = u'.x2 ⊟ (p'.x2 ⊟ h'); y2 = u'.y2 ⊟ (p'.y2 ⊟ h') }) ⊞ d'.x2 ⊠ (v'.y2 ⊟ u'.y2 ⊟ h') ⊞ d'.y2 ⊠ (u'.x2 ⊟ v'.x2 ⊞ h')) (cross2 d' (from_to2 p' v')) (omega arith))
  left-by (inr y) (inr x) =
      let h' = lift h in let d' = lift2 d in let p' = lift2 p in let u' = lift2 u in let v' = lift2 v in
      gain _ _ _ (cross d (from_to p v)) l.lower_right y x
      (same (cross2 d' (record { x2 = u'.x2 ⊟ (p'.x2 ⊞ h'); y2 = u'.y2 ⊟ (p'.y2 ⊟ h') }) ⊞ d'.x2 ⊠ (v'.y2 ⊟ u'.y2 ⊟ h') ⊞ d'.y2 ⊠ (u'.x2 ⊟ v'.x2 ⊟ h')) (cross2 d' (from_to2 p' v')) (omega arith))

  pub near-left : IsNear h u v → IsLeftOf d p v
  near-left n =
      let a = n.x_below in let b = n.x_above in let c = n.y_below in let e = n.y_above in
      left-by (behind d.x (v.y -ℤ u.y) h (omega (arith, ints)) (omega (arith, ints))) (behind d.y (u.x -ℤ v.x) h (omega (arith, ints)) (omega (arith, ints)))

-- a point is near itself where it is near some point
pub near-itself : (h : ℤ) (u v : Vector) → IsNear h u v → IsNear h u u
near-itself h u v n =
    let a = n.x_below in let b = n.x_above in
    record { x_below = omega (arith, ints); x_above = omega (arith, ints); y_below = omega (arith, ints); y_above = omega (arith, ints) }

-- and then the square isn't empty
pub some-side : (h : ℤ) (u v : Vector) → IsNear h u v → pos 0 ≤ℤ h
some-side h u v n = let a = n.x_below in let b = n.x_above in omega (arith, ints)
