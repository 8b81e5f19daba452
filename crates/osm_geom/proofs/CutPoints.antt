-- The point in which a segment meets a line of whole coordinate.
use Rattle.std.proofs.Common.{Bool, ap, arith, not, pos, refl, subst, sym, true, false, ℕ, ℤ, ◌*ℤ◌, ◌+ℤ◌, ◌-ℤ◌, ◌*◌, ◌+◌, ◌-◌, ◌∙◌, ◌≡◌, ◌≤◌, unsigned_abs}
use Rattle.std.proofs.Math.Nat.{eq-one_of_dvd-one}
use Rattle.plane.specs.RayCrossing.{is_off}
use Rattle.plane.specs.Scale.{scaled_edge}
use Rattle.plane.specs.Sign.{Minus, Null, Plus, Sign, sign}
use Rattle.plane.proofs.SignKit.{Split, lift, same, ◌⊞◌, ◌⊟◌, ◌⊠◌, Says, agree, agree-sum, all4-out, imp, imp-out, plus-times, same_sign, same_sign-true, says, self-diff, sign-pos}
use Rattle.lists.proofs.ListsKit.{not-true-out}
use Rattle.osm_geom.specs.declared.cut.Axis.{Axis}
use Rattle.osm_geom.specs.declared.cut.Axis.TheVariants.{X, Y}
use Rattle.osm_geom.specs.declared.cut.Cut.{Cut}
use Rattle.osm_lattice.specs.declared.loc.Loc.{Loc}
use Rattle.osm_geom.specs.declared.point.Point.TheVariants.{Lattice, OnVertical, OnHorizontal}
use Rattle.osm_geom.specs.declared.edge.Carrier.TheVariants.{OfSeg}
use Rattle.osm_lattice.specs.declared.frac.Frac.{Frac}
use Rattle.osm_geom.specs.declared.point.Point.{Point}
use Rattle.osm_lattice.specs.declared.seg.Seg.{Seg}
use Rattle.osm_geom.specs.Carrier.{is_on}
use Rattle.osm_geom.specs.Cut.{coordinate_of, cut_order, fraction}
use Rattle.osm_lattice.specs.Lowest.{IsInLowestTerms}
use Rattle.osm_lattice.specs.Meeting.{IsOnSegment}
use Rattle.osm_geom.specs.Point.{Fraction, IsInWorld, den_of, whole, whole_of, x_of, y_of}
use Rattle.osm_lattice.specs.Seg.{edge_of}
use Rattle.osm_lattice.specs.Share.{IsShare}
use Rattle.osm_lattice.proofs.LatticeKit.{on_first, alike, apart_where_on, on_segment_in, signed}
use Rattle.osm_geom.proofs.Parts.{part_frac}
use Rattle.osm_geom.proofs.PointOrders.{den-sign, x_den-some, y_den-some}

-- ---- c between a and b, which differ
module _ (a b c : ℤ) where
  share-by : (s t : Sign) → Says s (c -ℤ a) → Says t (c -ℤ b) → (s ≡ t → ⊥) → IsShare (unsigned_abs (c -ℤ a)) (unsigned_abs (b -ℤ a))
  share-by Plus Null h k n = (omega (arith, signed), omega (arith, signed))
  share-by Plus Minus h k n = (omega (arith, signed), omega (arith, signed))
  share-by Null Plus h k n = (omega (arith, signed), omega (arith, signed))
  share-by Null Minus h k n = (omega (arith, signed), omega (arith, signed))
  share-by Minus Plus h k n = (omega (arith, signed), omega (arith, signed))
  share-by Minus Null h k n = (omega (arith, signed), omega (arith, signed))
  share-by Plus Plus h k n = absurd (n refl)
  share-by Null Null h k n = absurd (n refl)
  share-by Minus Minus h k n = absurd (n refl)

  pub share : (sign (c -ℤ a) ≡ sign (c -ℤ b) → ⊥) → IsShare (unsigned_abs (c -ℤ a)) (unsigned_abs (b -ℤ a))
  share n = share-by (sign (c -ℤ a)) (sign (c -ℤ b)) (says (c -ℤ a)) (says (c -ℤ b)) n

abbrev pub nat : ℕ → Split
nat k = record { z = pos k; p = k; n = 0; is = omega arith }

forward : (a : ℤ) (w r : ℕ) → (a +ℤ pos w) *ℤ pos (w + r) ≡ (a *ℤ pos r +ℤ (a +ℤ pos (w + r)) *ℤ pos w) *ℤ pos 1
forward a w r = let a' = lift a in same ((a' ⊞ nat w) ⊠ nat (w + r)) ((a' ⊠ nat r ⊞ (a' ⊞ nat (w + r)) ⊠ nat w) ⊠ nat 1) (omega arith)

backward : (a : ℤ) (w r : ℕ) → (a -ℤ pos w) *ℤ pos (w + r) ≡ (a *ℤ pos r +ℤ (a -ℤ pos (w + r)) *ℤ pos w) *ℤ pos 1
backward a w r = let a' = lift a in same ((a' ⊟ nat w) ⊠ nat (w + r)) ((a' ⊠ nat r ⊞ (a' ⊟ nat (w + r)) ⊠ nat w) ⊠ nat 1) (omega arith)

module _ (a b c : ℤ) (w d r : ℕ) (hd : d ≡ w + r) (hr : d - w ≡ r) where
  up-way : c ≡ a +ℤ pos w → b ≡ a +ℤ pos d → c *ℤ pos d ≡ (a *ℤ pos (d - w) +ℤ b *ℤ pos w) *ℤ pos 1
  up-way hc hb =
      ap (λ x. x *ℤ pos d) hc ∙ ap (λ n. (a +ℤ pos w) *ℤ pos n) hd ∙ forward a w r
      ∙ sym (ap (λ n. (a *ℤ pos n +ℤ b *ℤ pos w) *ℤ pos 1) hr ∙ ap (λ x. (a *ℤ pos r +ℤ x *ℤ pos w) *ℤ pos 1) hb ∙ ap (λ n. (a *ℤ pos r +ℤ (a +ℤ pos n) *ℤ pos w) *ℤ pos 1) hd)

  down-way : c ≡ a -ℤ pos w → b ≡ a -ℤ pos d → c *ℤ pos d ≡ (a *ℤ pos (d - w) +ℤ b *ℤ pos w) *ℤ pos 1
  down-way hc hb =
      ap (λ x. x *ℤ pos d) hc ∙ ap (λ n. (a -ℤ pos w) *ℤ pos n) hd ∙ backward a w r
      ∙ sym (ap (λ n. (a *ℤ pos n +ℤ b *ℤ pos w) *ℤ pos 1) hr ∙ ap (λ x. (a *ℤ pos r +ℤ x *ℤ pos w) *ℤ pos 1) hb ∙ ap (λ n. (a *ℤ pos r +ℤ (a -ℤ pos n) *ℤ pos w) *ℤ pos 1) hd)

-- the number is itself so far along
module _ (a b c : ℤ) where
  abbrev w : ℕ
  w = unsigned_abs (c -ℤ a)

  abbrev d : ℕ
  d = unsigned_abs (b -ℤ a)

  abbrev r : ℕ
  r = unsigned_abs (b -ℤ c)

  along-by : (s t : Sign) → Says s (c -ℤ a) → Says t (c -ℤ b) → (s ≡ t → ⊥) → c *ℤ pos d ≡ (a *ℤ pos (d - w) +ℤ b *ℤ pos w) *ℤ pos 1
  along-by Plus Null h k n = up-way a b c w d r (omega (arith, signed)) (omega (arith, signed)) (omega (arith, signed)) (omega (arith, signed))
  along-by Plus Minus h k n = up-way a b c w d r (omega (arith, signed)) (omega (arith, signed)) (omega (arith, signed)) (omega (arith, signed))
  along-by Null Minus h k n = up-way a b c w d r (omega (arith, signed)) (omega (arith, signed)) (omega (arith, signed)) (omega (arith, signed))
  along-by Null Plus h k n = down-way a b c w d r (omega (arith, signed)) (omega (arith, signed)) (omega (arith, signed)) (omega (arith, signed))
  along-by Minus Plus h k n = down-way a b c w d r (omega (arith, signed)) (omega (arith, signed)) (omega (arith, signed)) (omega (arith, signed))
  along-by Minus Null h k n = down-way a b c w d r (omega (arith, signed)) (omega (arith, signed)) (omega (arith, signed)) (omega (arith, signed))
  along-by Plus Plus h k n = absurd (n refl)
  along-by Null Null h k n = absurd (n refl)
  along-by Minus Minus h k n = absurd (n refl)

  pub along : (sign (c -ℤ a) ≡ sign (c -ℤ b) → ⊥) → c *ℤ pos d ≡ (a *ℤ pos (d - w) +ℤ b *ℤ pos w) *ℤ pos 1
  along n = along-by (sign (c -ℤ a)) (sign (c -ℤ b)) (says (c -ℤ a)) (says (c -ℤ b)) n

-- ---- the point
pub whole-lowest : (c : ℤ) → IsInLowestTerms c 1
whole-lowest c d h g = eq-one_of_dvd-one g

abbrev pub whole_frac : ℤ → Frac
whole_frac c = record { num = c; den = 1; den_in = omega arith; lowest = whole-lowest c }

abbrev located : Seg → Fraction → Fraction → Type 0
located s x y = is_off (record { x = x.num *ℤ pos y.den; y = y.num *ℤ pos x.den }) (scaled_edge (pos (x.den * y.den)) (edge_of s)) ≡ false

on-by : (s : Seg) (p : Point) → located s (x_of p) (y_of p) → is_on (OfSeg s) p ≡ true
unfolding is_on
on-by s p h = ap not h

pub on-at : (s : Seg) (p : Point) (x y : Frac) → x_of p ≡ fraction x → y_of p ≡ fraction y → IsOnSegment s x y → is_on (OfSeg s) p ≡ true
on-at s p x y hx hy h = on-by s p (subst (λ f. located s f (y_of p)) (sym hx) (subst (λ f. located s (fraction x) f) (sym hy) h))

-- a number between two others is no larger than they
inside-by : (a b c : ℤ) (m : ℕ) (s t : Sign) → Says s (c -ℤ a) → Says t (c -ℤ b) → (s ≡ t → ⊥) → unsigned_abs a ≤ m → unsigned_abs b ≤ m → unsigned_abs c ≤ m
inside-by a b c m Plus Null h k n ha hb = omega (arith, signed)
inside-by a b c m Plus Minus h k n ha hb = omega (arith, signed)
inside-by a b c m Null Plus h k n ha hb = omega (arith, signed)
inside-by a b c m Null Minus h k n ha hb = omega (arith, signed)
inside-by a b c m Minus Plus h k n ha hb = omega (arith, signed)
inside-by a b c m Minus Null h k n ha hb = omega (arith, signed)
inside-by a b c m Plus Plus h k n ha hb = absurd (n refl)
inside-by a b c m Null Null h k n ha hb = absurd (n refl)
inside-by a b c m Minus Minus h k n ha hb = absurd (n refl)

pub inside : (a b c : ℤ) (m : ℕ) → (sign (c -ℤ a) ≡ sign (c -ℤ b) → ⊥) → unsigned_abs a ≤ m → unsigned_abs b ≤ m → unsigned_abs c ≤ m
inside a b c m n ha hb = inside-by a b c m (sign (c -ℤ a)) (sign (c -ℤ b)) (says (c -ℤ a)) (says (c -ℤ b)) n ha hb

-- the point with the x c
pub with-x : (s : Seg) (c : ℤ) (y : Frac) (d w : ℕ) → (sign (c -ℤ s.a.x) ≡ sign (c -ℤ s.b.x) → ⊥) → w ≡ unsigned_abs (c -ℤ s.a.x) → d ≡ unsigned_abs (s.b.x -ℤ s.a.x) →
    y.num *ℤ pos d ≡ (s.a.y *ℤ pos (d - w) +ℤ s.b.y *ℤ pos w) *ℤ pos y.den → IsOnSegment s (whole_frac c) y
with-x s c y d w n hw hd h =
    let sh = share s.a.x s.b.x c n in
    on_first s (whole_frac c) y d w (subst (λ k. 1 ≤ k) (sym hd) sh.0) (subst (λ k. k ≤ d) (sym hw) (subst (λ k. unsigned_abs (c -ℤ s.a.x) ≤ k) (sym hd) sh.1))
    (subst (λ k. c *ℤ pos d ≡ (s.a.x *ℤ pos (d - k) +ℤ s.b.x *ℤ pos k) *ℤ pos 1) (sym hw)
    (subst (λ k. c *ℤ pos k ≡ (s.a.x *ℤ pos (k - unsigned_abs (c -ℤ s.a.x)) +ℤ s.b.x *ℤ pos (unsigned_abs (c -ℤ s.a.x))) *ℤ pos 1) (sym hd) (along s.a.x s.b.x c n))) h

pub with-y : (s : Seg) (x : Frac) (c : ℤ) (d w : ℕ) → (sign (c -ℤ s.a.y) ≡ sign (c -ℤ s.b.y) → ⊥) → w ≡ unsigned_abs (c -ℤ s.a.y) → d ≡ unsigned_abs (s.b.y -ℤ s.a.y) →
    x.num *ℤ pos d ≡ (s.a.x *ℤ pos (d - w) +ℤ s.b.x *ℤ pos w) *ℤ pos x.den → IsOnSegment s x (whole_frac c)
with-y s x c d w n hw hd h =
    let sh = share s.a.y s.b.y c n in
    on_first s x (whole_frac c) d w (subst (λ k. 1 ≤ k) (sym hd) sh.0) (subst (λ k. k ≤ d) (sym hw) (subst (λ k. unsigned_abs (c -ℤ s.a.y) ≤ k) (sym hd) sh.1)) h
    (subst (λ k. c *ℤ pos d ≡ (s.a.y *ℤ pos (d - k) +ℤ s.b.y *ℤ pos k) *ℤ pos 1) (sym hw)
    (subst (λ k. c *ℤ pos k ≡ (s.a.y *ℤ pos (k - unsigned_abs (c -ℤ s.a.y)) +ℤ s.b.y *ℤ pos (unsigned_abs (c -ℤ s.a.y))) *ℤ pos 1) (sym hd) (along s.a.y s.b.y c n)))

pub x-in : (s : Seg) (c : ℤ) → (sign (c -ℤ s.a.x) ≡ sign (c -ℤ s.b.x) → ⊥) → unsigned_abs c ≤ 1_800_000_000
x-in s c n = inside s.a.x s.b.x c 1_800_000_000 n s.a.x_in s.b.x_in

pub y-in : (s : Seg) (c : ℤ) → (sign (c -ℤ s.a.y) ≡ sign (c -ℤ s.b.y) → ⊥) → unsigned_abs c ≤ 900_000_000
y-in s c n = inside s.a.y s.b.y c 900_000_000 n s.a.y_in s.b.y_in

-- ---- the cut
times-one : (z : ℤ) → z *ℤ pos 1 ≡ z
times-one z = omega (arith, signed)

pub apart-whole : (c a b : ℤ) → (sign (c *ℤ pos 1 -ℤ a) ≡ sign (c *ℤ pos 1 -ℤ b) → ⊥) → sign (c -ℤ a) ≡ sign (c -ℤ b) → ⊥
apart-whole c a b n e = n (subst (λ z. sign (z -ℤ a) ≡ sign (z -ℤ b)) (sym (times-one c)) e)

pub whole-null : (f : Fraction) (c : ℤ) → f ≡ whole c → sign (c *ℤ pos f.den -ℤ f.num) ≡ Null
whole-null f c e = subst (λ (g : Fraction). sign (c *ℤ pos g.den -ℤ g.num) ≡ Null) (sym e) (ap (λ z. sign (z -ℤ c)) (times-one c) ∙ self-diff c)

abbrev pub order_at : Axis → ℤ → Point → Sign
order_at axis at p = sign (at *ℤ pos (coordinate_of axis p).den -ℤ (coordinate_of axis p).num)

pub crossed-x : (cut : Cut) (a b : Loc) → cut.axis ≡ X → (cut_order cut (Lattice a) ≡ cut_order cut (Lattice b) → ⊥) → sign (cut.at -ℤ a.x) ≡ sign (cut.at -ℤ b.x) → ⊥
crossed-x cut a b e n = apart-whole cut.at a.x b.x (subst (λ axis. order_at axis cut.at (Lattice a) ≡ order_at axis cut.at (Lattice b) → ⊥) e n)

pub crossed-y : (cut : Cut) (a b : Loc) → cut.axis ≡ Y → (cut_order cut (Lattice a) ≡ cut_order cut (Lattice b) → ⊥) → sign (cut.at -ℤ a.y) ≡ sign (cut.at -ℤ b.y) → ⊥
crossed-y cut a b e n = apart-whole cut.at a.y b.y (subst (λ axis. order_at axis cut.at (Lattice a) ≡ order_at axis cut.at (Lattice b) → ⊥) e n)

pub null-x : (cut : Cut) (p : Point) → cut.axis ≡ X → x_of p ≡ whole cut.at → cut_order cut p ≡ Null
null-x cut p e h = subst (λ axis. order_at axis cut.at p ≡ Null) (sym e) (whole-null (x_of p) cut.at h)

pub null-y : (cut : Cut) (p : Point) → cut.axis ≡ Y → y_of p ≡ whole cut.at → cut_order cut p ≡ Null
null-y cut p e h = subst (λ axis. order_at axis cut.at p ≡ Null) (sym e) (whole-null (y_of p) cut.at h)

-- ---- points of a segment stand where its ends stand
abbrev stand_2 : Sign → Sign → Sign → Sign → Bool
stand_2 t a b o = imp (agree t a o) λ _. imp (agree t b o) λ _. imp (not (alike a b)) λ _. same_sign o t

stand : (t a b o : Sign) → agree t a o ≡ true → agree t b o ≡ true → not (alike a b) ≡ true → o ≡ t
stand t a b o h k n = same_sign-true o t (imp-out _ _ (imp-out _ _ (imp-out _ _ (all4-out stand_2 refl t a b o) h) k) n)

-- the same number, multiplied by a denominator
scaled-order : (at n : ℤ) (d f : ℕ) → 1 ≤ f → sign (pos (d * f) *ℤ at -ℤ n *ℤ pos f) ≡ sign (at *ℤ pos d -ℤ n)
scaled-order at n d f some =
    let at' = lift at in let n' = lift n in
    ap sign (same (nat (d * f) ⊠ at' ⊟ n' ⊠ nat f) (nat f ⊠ (at' ⊠ nat d ⊟ n')) (omega arith)) ∙ plus-times (pos f) (at *ℤ pos d -ℤ n) (sign-pos f some)

moved-order : (k at a w : ℤ) → k *ℤ (at *ℤ pos 1 -ℤ a) +ℤ (k *ℤ a -ℤ w) ≡ k *ℤ at -ℤ w
moved-order k at a w = let k' = lift k in let t = lift at in let a' = lift a in let w' = lift w in same (k' ⊠ (t ⊠ nat 1 ⊟ a') ⊞ (k' ⊠ a' ⊟ w')) (k' ⊠ t ⊟ w') (omega arith)

stands-by : (k at a b w : ℤ) → sign k ≡ Plus → sign (at *ℤ pos 1 -ℤ a) ≡ sign (at *ℤ pos 1 -ℤ b) → not (alike (sign (k *ℤ a -ℤ w)) (sign (k *ℤ b -ℤ w))) ≡ true → sign (k *ℤ at -ℤ w) ≡ sign (at *ℤ pos 1 -ℤ a)
stands-by k at a b w hk e n =
    let h = subst (λ s. agree s (sign (k *ℤ a -ℤ w)) (sign (k *ℤ at -ℤ w)) ≡ true) (plus-times k (at *ℤ pos 1 -ℤ a) hk) (agree-sum (k *ℤ (at *ℤ pos 1 -ℤ a)) (k *ℤ a -ℤ w) (k *ℤ at -ℤ w) (moved-order k at a w)) in
    let g = subst (λ s. agree s (sign (k *ℤ b -ℤ w)) (sign (k *ℤ at -ℤ w)) ≡ true) (plus-times k (at *ℤ pos 1 -ℤ b) hk ∙ sym e) (agree-sum (k *ℤ (at *ℤ pos 1 -ℤ b)) (k *ℤ b -ℤ w) (k *ℤ at -ℤ w) (moved-order k at b w)) in
    stand (sign (at *ℤ pos 1 -ℤ a)) (sign (k *ℤ a -ℤ w)) (sign (k *ℤ b -ℤ w)) (sign (k *ℤ at -ℤ w)) h g n

pub located-is : (s : Seg) (p : Point) → is_on (OfSeg s) p ≡ true → is_off (whole_of p) (scaled_edge (pos (den_of p)) (edge_of s)) ≡ false
unfolding is_on
located-is s p h = not-true-out (is_off (whole_of p) (scaled_edge (pos (den_of p)) (edge_of s))) h

apart-of : (s : Seg) (p : Point) → is_on (OfSeg s) p ≡ true →
    (not (alike (sign (pos (den_of p) *ℤ s.a.x -ℤ (whole_of p).x)) (sign (pos (den_of p) *ℤ s.b.x -ℤ (whole_of p).x))) ≡ true)
    × (not (alike (sign (pos (den_of p) *ℤ s.a.y -ℤ (whole_of p).y)) (sign (pos (den_of p) *ℤ s.b.y -ℤ (whole_of p).y))) ≡ true)
apart-of s p h =
    let k = pos (den_of p) in let w = whole_of p in
    apart_where_on (k *ℤ s.a.x -ℤ w.x) (k *ℤ s.b.x -ℤ w.x) (k *ℤ s.a.y -ℤ w.y) (k *ℤ s.b.y -ℤ w.y) (located-is s p h)

turned-times : (m n : ℕ) → m * n ≡ n * m
turned-times m n = omega arith

stands-at : (axis : Axis) (at : ℤ) (s : Seg) (p : Point) → is_on (OfSeg s) p ≡ true → order_at axis at (Lattice s.a) ≡ order_at axis at (Lattice s.b) → order_at axis at p ≡ order_at axis at (Lattice s.a)
stands-at X at s p h e =
    sym (scaled-order at (x_of p).num (x_of p).den (y_of p).den (y_den-some p)) ∙ stands-by (pos (den_of p)) at s.a.x s.b.x (whole_of p).x (den-sign p) e (apart-of s p h).0
stands-at Y at s p h e =
    sym (scaled-order at (y_of p).num (y_of p).den (x_of p).den (x_den-some p))
    ∙ ap (λ k. sign (pos k *ℤ at -ℤ (whole_of p).y)) (turned-times (y_of p).den (x_of p).den)
    ∙ stands-by (pos (den_of p)) at s.a.y s.b.y (whole_of p).y (den-sign p) e (apart-of s p h).1

-- where both ends of a segment stand on one side of a cut line, so do all of its points
pub stands : (cut : Cut) (s : Seg) (p : Point) → is_on (OfSeg s) p ≡ true → cut_order cut (Lattice s.a) ≡ cut_order cut (Lattice s.b) → cut_order cut p ≡ cut_order cut (Lattice s.a)
stands cut s p h e = stands-at cut.axis cut.at s p h e

-- a point of a segment is in the world
in-world-by : (s : Seg) (p : Point) → is_off (whole_of p) (scaled_edge (pos (den_of p)) (edge_of s)) ≡ false → IsInWorld p
in-world-by s (Lattice p) h = on_segment_in s (whole_frac p.x) (whole_frac p.y) h
in-world-by s (OnVertical c y) h = on_segment_in s (whole_frac c) (part_frac y) h
in-world-by s (OnHorizontal x d) h = on_segment_in s (part_frac x) (whole_frac d) h

pub in-world : (s : Seg) (p : Point) → is_on (OfSeg s) p ≡ true → IsInWorld p
in-world s p h = in-world-by s p (located-is s p h)
