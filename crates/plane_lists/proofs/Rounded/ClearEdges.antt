-- An edge of which no point is in a square is clear of the square.
use Rattle.std.proofs.Common.{ap, arith, refl, ◌≡◌, ◌↔◌}
use borrow.Author.Differences.{ints}
use lib.IntN.{negsuc, pos, ℤ, ◌*ℤ◌, ◌+ℤ◌, ◌-ℤ◌}
use lib.Signed.{◌<ℤ◌, ◌≤ℤ◌}
use Rattle.plane.specs.Edge.{Edge}
use Rattle.plane.specs.Sign.{Minus, sign}
use Rattle.plane.specs.Vector.{Vector, cross, from_to}
use Rattle.plane.proofs.SignKit.{lift, minus-is, plus-is, same, ◌⊞◌, ◌⊟◌, ◌⊠◌}
use Rattle.plane_lists.specs.Rounded.Clear.{IsClearOfSquare, IsLeftOf, IsLeftOfSquare}
use Rattle.plane_lists.specs.Rounded.Square.{HasNoPointNear}
use Rattle.plane_lists.proofs.Rounded.ClearPoints.{no-point}
use Rattle.plane_lists.proofs.Rounded.Separations.{AreFar, Along, Back, IsMore, Left, Lower, Parting, Right, Upper, at-most, parted, turn, turned-more, turned-step}

not-minus : (a : ℤ) → pos 0 ≤ℤ a → sign a ≡ Minus → ⊥
not-minus a h m = let k = (minus-is a).0 m in omega (arith, ints)

-- ---- lines along an axis
abbrev axis : ℤ → ℤ → Vector
axis x y = record { x = x; y = y }

upright-right : (c w : Vector) → c.x <ℤ w.x → IsLeftOf (axis (pos 0) (negsuc 0)) c w
upright-right c w h =
    let e : cross (axis (pos 0) (negsuc 0)) (from_to c w) ≡ w.x -ℤ c.x = same (lift (pos 0) ⊠ (lift w.y ⊟ lift c.y) ⊟ lift (negsuc 0) ⊠ (lift w.x ⊟ lift c.x)) (lift w.x ⊟ lift c.x) (omega arith) in
    (plus-is _).1 (omega (arith, ints))

upright-left : (c w : Vector) → w.x <ℤ c.x → IsLeftOf (axis (pos 0) (pos 1)) c w
upright-left c w h =
    let e : cross (axis (pos 0) (pos 1)) (from_to c w) ≡ c.x -ℤ w.x = same (lift (pos 0) ⊠ (lift w.y ⊟ lift c.y) ⊟ lift (pos 1) ⊠ (lift w.x ⊟ lift c.x)) (lift c.x ⊟ lift w.x) (omega arith) in
    (plus-is _).1 (omega (arith, ints))

level-above : (c w : Vector) → c.y <ℤ w.y → IsLeftOf (axis (pos 1) (pos 0)) c w
level-above c w h =
    let e : cross (axis (pos 1) (pos 0)) (from_to c w) ≡ w.y -ℤ c.y = same (lift (pos 1) ⊠ (lift w.y ⊟ lift c.y) ⊟ lift (pos 0) ⊠ (lift w.x ⊟ lift c.x)) (lift w.y ⊟ lift c.y) (omega arith) in
    (plus-is _).1 (omega (arith, ints))

level-below : (c w : Vector) → w.y <ℤ c.y → IsLeftOf (axis (negsuc 0) (pos 0)) c w
level-below c w h =
    let e : cross (axis (negsuc 0) (pos 0)) (from_to c w) ≡ c.y -ℤ w.y = same (lift (negsuc 0) ⊠ (lift w.y ⊟ lift c.y) ⊟ lift (pos 0) ⊠ (lift w.x ⊟ lift c.x)) (lift c.y ⊟ lift w.y) (omega arith) in
    (plus-is _).1 (omega (arith, ints))

module _ (h : ℤ) (some : pos 0 ≤ℤ h) (p : Vector) where
  right-of : (w : Vector) → h <ℤ (w.x -ℤ p.x) → IsLeftOfSquare h (axis (pos 0) (negsuc 0)) p w
  right-of w l = record {
    upper_right = upright-right _ w (omega (arith, ints));
    upper_left = upright-right _ w (omega (arith, ints));
    lower_right = upright-right _ w (omega (arith, ints));
    lower_left = upright-right _ w (omega (arith, ints));
  }

  left-of : (w : Vector) → h <ℤ (pos 0 -ℤ (w.x -ℤ p.x)) → IsLeftOfSquare h (axis (pos 0) (pos 1)) p w
  left-of w l = record {
    upper_right = upright-left _ w (omega (arith, ints));
    upper_left = upright-left _ w (omega (arith, ints));
    lower_right = upright-left _ w (omega (arith, ints));
    lower_left = upright-left _ w (omega (arith, ints));
  }

  above : (w : Vector) → h <ℤ (w.y -ℤ p.y) → IsLeftOfSquare h (axis (pos 1) (pos 0)) p w
  above w l = record {
    upper_right = level-above _ w (omega (arith, ints));
    upper_left = level-above _ w (omega (arith, ints));
    lower_right = level-above _ w (omega (arith, ints));
    lower_left = level-above _ w (omega (arith, ints));
  }

  below : (w : Vector) → h <ℤ (pos 0 -ℤ (w.y -ℤ p.y)) → IsLeftOfSquare h (axis (negsuc 0) (pos 0)) p w
  below w l = record {
    upper_right = level-below _ w (omega (arith, ints));
    upper_left = level-below _ w (omega (arith, ints));
    lower_right = level-below _ w (omega (arith, ints));
    lower_left = level-below _ w (omega (arith, ints));
  }

  -- ---- a line along the edge: what a corner adds
  corner : (d w : Vector) (x y : ℤ) → cross d (from_to (axis x y) w) ≡ cross d (from_to p w) +ℤ d.y *ℤ (x -ℤ p.x) -ℤ d.x *ℤ (y -ℤ p.y)
  corner d w x y =
      let a = lift d.x in let b = lift d.y in let c = lift w.x in let e = lift w.y in let f = lift p.x in let g = lift p.y in let m = lift x in let n = lift y in
      same (a ⊠ (e ⊟ n) ⊟ b ⊠ (c ⊟ m)) (a ⊠ (e ⊟ g) ⊟ b ⊠ (c ⊟ f) ⊞ b ⊠ (m ⊟ f) ⊟ a ⊠ (n ⊟ g)) (omega arith)

  plus-side : (z x : ℤ) → (z +ℤ x) -ℤ z ≡ x
  plus-side z x = omega (arith, ints)

  minus-side : (d z x : ℤ) → d *ℤ ((z -ℤ x) -ℤ z) ≡ pos 0 -ℤ d *ℤ x
  minus-side d z x = same (lift d ⊠ ((lift z ⊟ lift x) ⊟ lift z)) (lift (pos 0) ⊟ lift d ⊠ lift x) (omega arith)

  more-side : (d z x : ℤ) → d *ℤ ((z +ℤ x) -ℤ z) ≡ d *ℤ x
  more-side d z x = ap (λ (y : ℤ). d *ℤ y) (plus-side z x)

  beside : (d w : Vector) (k : ℤ) → cross d (from_to p w) ≡ k → IsMore k (d.x *ℤ h) (d.y *ℤ h) → IsLeftOfSquare h d p w
  beside d w k e m =
      let a = m.both in let b = m.first in let c = m.second in let f = m.none in
      let xm = more-side d.y p.x h in let xl = minus-side d.y p.x h in let ym = more-side d.x p.y h in let yl = minus-side d.x p.y h in
      record {
        upper_right = let g = corner d w (p.x +ℤ h) (p.y +ℤ h) in (plus-is _).1 (omega (arith, ints));
        upper_left = let g = corner d w (p.x -ℤ h) (p.y +ℤ h) in (plus-is _).1 (omega (arith, ints));
        lower_right = let g = corner d w (p.x +ℤ h) (p.y -ℤ h) in (plus-is _).1 (omega (arith, ints));
        lower_left = let g = corner d w (p.x -ℤ h) (p.y -ℤ h) in (plus-is _).1 (omega (arith, ints));
      }

  module _ (e : Edge) where
    abbrev u : Vector
    u = from_to p e.from

    abbrev v : Vector
    v = from_to p e.to

    abbrev k : ℤ
    k = turn u.x u.y v.x v.y

    ahead-from : cross (from_to u v) u ≡ k
    ahead-from = same ((lift v.x ⊟ lift u.x) ⊠ lift u.y ⊟ (lift v.y ⊟ lift u.y) ⊠ lift u.x) (lift v.x ⊠ lift u.y ⊟ lift v.y ⊠ lift u.x) (omega arith)

    ahead-to : cross (from_to u v) v ≡ k
    ahead-to = same ((lift v.x ⊟ lift u.x) ⊠ lift v.y ⊟ (lift v.y ⊟ lift u.y) ⊠ lift v.x) (lift v.x ⊠ lift u.y ⊟ lift v.y ⊠ lift u.x) (omega arith)

    back-from : cross (from_to v u) u ≡ pos 0 -ℤ k
    back-from = same ((lift u.x ⊟ lift v.x) ⊠ lift u.y ⊟ (lift u.y ⊟ lift v.y) ⊠ lift u.x) (lift (pos 0) ⊟ (lift v.x ⊠ lift u.y ⊟ lift v.y ⊠ lift u.x)) (omega arith)

    back-to : cross (from_to v u) v ≡ pos 0 -ℤ k
    back-to = same ((lift u.x ⊟ lift v.x) ⊠ lift v.y ⊟ (lift u.y ⊟ lift v.y) ⊠ lift v.x) (lift (pos 0) ⊟ (lift v.x ⊠ lift u.y ⊟ lift v.y ⊠ lift u.x)) (omega arith)

    clear-by : Parting h u.x u.y v.x v.y → IsClearOfSquare h p e
    clear-by (Right a b) = record { along = axis (pos 0) (negsuc 0); from_left = right-of e.from a; to_left = right-of e.to b }
    clear-by (Left a b) = record { along = axis (pos 0) (pos 1); from_left = left-of e.from a; to_left = left-of e.to b }
    clear-by (Upper a b) = record { along = axis (pos 1) (pos 0); from_left = above e.from a; to_left = above e.to b }
    clear-by (Lower a b) = record { along = axis (negsuc 0) (pos 0); from_left = below e.from a; to_left = below e.to b }
    clear-by (Along m) = record { along = from_to u v; from_left = beside (from_to u v) e.from k ahead-from m; to_left = beside (from_to u v) e.to k ahead-to m }
    clear-by (Back m) =
        let n = turned-more h u.x u.y v.x v.y (pos 0 -ℤ k) (pos 0 -ℤ k) ((u.x -ℤ v.x) *ℤ h) ((u.y -ℤ v.y) *ℤ h) ((v.x -ℤ u.x) *ℤ h) ((v.y -ℤ u.y) *ℤ h) refl
        (turned-step h u.x u.y v.x v.y v.x u.x) (turned-step h u.x u.y v.x v.y v.y u.y) m in
        record { along = from_to v u; from_left = beside (from_to v u) e.from (pos 0 -ℤ k) back-from n; to_left = beside (from_to v u) e.to (pos 0 -ℤ k) back-to n }

    -- ---- the points of the edge, seen from p
    seen : (a b f t c : ℤ) → a *ℤ f +ℤ b *ℤ t ≡ (a *ℤ (f -ℤ c) +ℤ b *ℤ (t -ℤ c)) +ℤ (a +ℤ b) *ℤ c
    seen a b f t c = same (lift a ⊠ lift f ⊞ lift b ⊠ lift t) (lift a ⊠ (lift f ⊟ lift c) ⊞ lift b ⊠ (lift t ⊟ lift c) ⊞ (lift a ⊞ lift b) ⊠ lift c) (omega arith)

    far-seen : HasNoPointNear h p e → AreFar h u.x u.y v.x v.y
    far-seen far a b na nb c xh xl yh yl =
        let x = seen a b e.from.x e.to.x p.x in let y = seen a b e.from.y e.to.y p.y in
        far a b (not-minus a na) (not-minus b nb) ((plus-is (a +ℤ b)).1 c)
        (record { x_below = omega (arith, ints); x_above = omega (arith, ints); y_below = omega (arith, ints); y_above = omega (arith, ints) })

    pub clear-of : HasNoPointNear h p e → IsClearOfSquare h p e
    clear-of far = clear-by (parted h u.x u.y v.x v.y some (far-seen far) (at-most u.x v.x))

pub clear-exactly : (h : ℤ) → pos 0 ≤ℤ h → (p : Vector) (e : Edge) → IsClearOfSquare h p e ↔ HasNoPointNear h p e
clear-exactly h some p e = (no-point h p e, clear-of h some p e)
