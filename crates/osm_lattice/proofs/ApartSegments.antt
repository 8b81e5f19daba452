-- Segments of which one lies up to a line and the other beyond it don't conflict: the point that they share would lie on both sides.
use Rattle.std.proofs.Common.{◌≡◌, Bool, true, false, if◌then◌else◌, ℕ, suc, ◌+◌, ◌-◌, ◌*◌, ◌≤◌, ℤ, pos, ◌-ℤ◌, ◌+ℤ◌, ◌*ℤ◌, unsigned_abs, refl, sym, ap, ◌∙◌, arith, Some, None, ◌⊎◌, inl, inr}
use Rattle.std.specs.Prelude.{◌<ℤ◌, ◌≤ℤ◌}
use Rattle.std.specs.declared.cmp.Ordering.{Ordering}
use Rattle.std.specs.declared.cmp.Ordering.TheVariants.{Less, Equal, Greater}
use Rattle.std.specs.Ordering.{int_cmp, is_eq, ordering_reverse, ordering_then}
use Rattle.std.proofs.lemmas.Int.{ints}
use Rattle.plane.specs.Vector.{cross, from_to}
use Rattle.plane.proofs.SignKit.{Split, apart, lift, same, ◌⊞◌, ◌⊟◌, ◌⊠◌, null-zero}
use Rattle.osm_lattice.specs.declared.loc.Loc.{Loc}
use Rattle.osm_lattice.specs.declared.seg.Seg.{Seg}
use Rattle.osm_lattice.specs.declared.conflicts.Kind.TheVariants.{Crossing, Overlap}
use Rattle.osm_lattice.specs.Seg.{seg_cmp}
use Rattle.osm_lattice.specs.Loc.{loc_cmp, orientation, vector_of}
use Rattle.osm_lattice.specs.Meeting.{slant}
use Rattle.osm_lattice.specs.Conflict.{are_overlapping, are_crossing, conflict_of}
use Rattle.osm_lattice.proofs.CrossingMeets.{are_alike}
use Rattle.osm_lattice.proofs.LocationOrder.{loc_total}
use Rattle.osm_lattice.proofs.Orders.{loc_same}
use Rattle.osm_lattice.proofs.OverlapPoints.{overlapping_where}
use Rattle.osm_lattice.proofs.Overlaps.{begin_in_time}
use Rattle.osm_lattice.proofs.Sizes.{signed}
use borrow.Author.Differences.{up, down}

-- how far p lies in the direction (u, v)
abbrev pub reach : ℤ → ℤ → Loc → ℤ
reach u v p = u *ℤ p.x +ℤ v *ℤ p.y

-- ---- means of two numbers
-- no mean of b - p and b - p' is one of b + 1 + q and b + 1 + r
too_high : (b : ℤ) (p p' q r k w k' w' : ℕ) → k + w ≡ k' + w' → 1 ≤ k + w → (b -ℤ pos p) *ℤ pos k +ℤ (b -ℤ pos p') *ℤ pos w ≡ (b +ℤ pos (suc q)) *ℤ pos k' +ℤ (b +ℤ pos (suc r)) *ℤ pos w' → ⊥
too_high b p p' q r k w k' w' sum some e =
    let b' = lift b in
    let n : ℕ → Split = λ m. record { z = pos m; p = m; n = 0; is = omega arith } in
    omega (
      arith,
      apart ((b' ⊟ n p) ⊠ n k ⊞ (b' ⊟ n p') ⊠ n w) ((b' ⊞ n (suc q)) ⊠ n k' ⊞ (b' ⊞ n (suc r)) ⊠ n w') e,
      ap (λ m. up b * m) sum,
      ap (λ m. down b * m) sum,
    )

-- no mean of two numbers up to m is one of two numbers beyond it
no_mean : (m a b c e : ℤ) (k w k' w' : ℕ) → k + w ≡ k' + w' → 1 ≤ k + w → a ≤ℤ m → b ≤ℤ m → m <ℤ c → m <ℤ e → a *ℤ pos k +ℤ b *ℤ pos w ≡ c *ℤ pos k' +ℤ e *ℤ pos w' → ⊥
no_mean m a b c e k w k' w' sum some la lb hc he is =
    let p = unsigned_abs (m -ℤ a) in
    let p' = unsigned_abs (m -ℤ b) in
    let q = unsigned_abs (c -ℤ m) - 1 in
    let r = unsigned_abs (e -ℤ m) - 1 in
    let a' : a ≡ m -ℤ pos p = omega (arith, signed) in
    let b' : b ≡ m -ℤ pos p' = omega (arith, signed) in
    let c' : c ≡ m +ℤ pos (suc q) = omega (arith, signed) in
    let e' : e ≡ m +ℤ pos (suc r) = omega (arith, signed) in
    too_high m p p' q r k w k' w' sum some (alike_at a b c e _ _ _ _ a' b' c' e' is)
  where
    alike_at : (a b c e a' b' c' e' : ℤ) → a ≡ a' → b ≡ b' → c ≡ c' → e ≡ e' → a *ℤ pos k +ℤ b *ℤ pos w ≡ c *ℤ pos k' +ℤ e *ℤ pos w' → a' *ℤ pos k +ℤ b' *ℤ pos w ≡ c' *ℤ pos k' +ℤ e' *ℤ pos w'
    alike_at a b c e a' b' c' e' g h i j is = rw (← g, ← h, ← i, ← j) is

-- ---- the reach of a point between two others
module _ (u v : ℤ) where
  reach_between : (ax ay bx by k w : ℤ) → (u *ℤ ax +ℤ v *ℤ ay) *ℤ k +ℤ (u *ℤ bx +ℤ v *ℤ by) *ℤ w ≡ u *ℤ (ax *ℤ k +ℤ bx *ℤ w) +ℤ v *ℤ (ay *ℤ k +ℤ by *ℤ w)
  reach_between ax ay bx by k w =
      let u' = lift u in let v' = lift v in let k' = lift k in let w' = lift w in
      let ax' = lift ax in let ay' = lift ay in let bx' = lift bx in let by' = lift by in
      same ((u' ⊠ ax' ⊞ v' ⊠ ay') ⊠ k' ⊞ (u' ⊠ bx' ⊞ v' ⊠ by') ⊠ w') (u' ⊠ (ax' ⊠ k' ⊞ bx' ⊠ w') ⊞ v' ⊠ (ay' ⊠ k' ⊞ by' ⊠ w')) (omega arith)

  reach_alike : (a b c e : Loc) (k w k' w' : ℕ) → a.x *ℤ pos k +ℤ b.x *ℤ pos w ≡ c.x *ℤ pos k' +ℤ e.x *ℤ pos w' → a.y *ℤ pos k +ℤ b.y *ℤ pos w ≡ c.y *ℤ pos k' +ℤ e.y *ℤ pos w' →
      reach u v a *ℤ pos k +ℤ reach u v b *ℤ pos w ≡ reach u v c *ℤ pos k' +ℤ reach u v e *ℤ pos w'
  reach_alike a b c e k w k' w' xs ys =
      reach_between a.x a.y b.x b.y (pos k) (pos w)
      ∙ ((λ i. u *ℤ xs i +ℤ v *ℤ ys i) ∙ sym (reach_between c.x c.y e.x e.y (pos k') (pos w')))

-- p is a mean of a and b, the weights k and w
record IsMean (a b p : Loc) : Type 0 where
  pub k : ℕ
  pub w : ℕ
  pub some : 1 ≤ k + w
  pub xs : a.x *ℤ pos k +ℤ b.x *ℤ pos w ≡ p.x *ℤ pos (k + w) +ℤ p.x *ℤ pos 0
  pub ys : a.y *ℤ pos k +ℤ b.y *ℤ pos w ≡ p.y *ℤ pos (k + w) +ℤ p.y *ℤ pos 0

-- by the part of the way that lies on either side of p
mean_along : (a b p : ℤ) → a *ℤ (b -ℤ p) +ℤ b *ℤ (p -ℤ a) ≡ p *ℤ (b -ℤ a) +ℤ p *ℤ pos 0
mean_along a b p =
    let a' = lift a in let b' = lift b in let p' = lift p in
    same (a' ⊠ (b' ⊟ p') ⊞ b' ⊠ (p' ⊟ a')) (p' ⊠ (b' ⊟ a') ⊞ p' ⊠ lift (pos 0)) (omega arith)

mean_across : (ax ay bx by px py : ℤ) → (bx -ℤ ax) *ℤ (py -ℤ ay) -ℤ (by -ℤ ay) *ℤ (px -ℤ ax) ≡ pos 0 → ax *ℤ (by -ℤ py) +ℤ bx *ℤ (py -ℤ ay) ≡ px *ℤ (by -ℤ ay) +ℤ px *ℤ pos 0
mean_across ax ay bx by px py h =
    let ax' = lift ax in let ay' = lift ay in let bx' = lift bx in let by' = lift by in let px' = lift px in let py' = lift py in
    same (ax' ⊠ (by' ⊟ py') ⊞ bx' ⊠ (py' ⊟ ay')) (px' ⊠ (by' ⊟ ay') ⊞ px' ⊠ lift (pos 0))
    (omega (arith, apart ((bx' ⊟ ax') ⊠ (py' ⊟ ay') ⊟ (by' ⊟ ay') ⊠ (px' ⊟ ax')) (lift (pos 0)) h))

mean_level : (y k w : ℤ) → y *ℤ k +ℤ y *ℤ w ≡ y *ℤ (k +ℤ w) +ℤ y *ℤ pos 0
mean_level y k w =
    let y' = lift y in let k' = lift k in let w' = lift w in
    same (y' ⊠ k' ⊞ y' ⊠ w') (y' ⊠ (k' ⊞ w') ⊞ y' ⊠ lift (pos 0)) (omega arith)

weighed : (a b p k w n : ℤ) (i j : ℕ) → pos i ≡ k → pos j ≡ w → pos (i + j) ≡ n → a *ℤ k +ℤ b *ℤ w ≡ p *ℤ n +ℤ p *ℤ pos 0 → a *ℤ pos i +ℤ b *ℤ pos j ≡ p *ℤ pos (i + j) +ℤ p *ℤ pos 0
weighed a b p k w n i j hk hw hn e = rw (hk, hw, hn) e

-- p lies on the line of a and b, between their heights
mean_by_height : (a b p : Loc) → cross (from_to (vector_of a) (vector_of b)) (from_to (vector_of a) (vector_of p)) ≡ pos 0 → a.y ≤ℤ p.y → p.y ≤ℤ b.y → a.y <ℤ b.y → IsMean a b p
mean_by_height a b p line low high rise =
    let k = unsigned_abs (b.y -ℤ p.y) in let w = unsigned_abs (p.y -ℤ a.y) in
    let hk : pos k ≡ b.y -ℤ p.y = omega (arith, signed) in
    let hw : pos w ≡ p.y -ℤ a.y = omega (arith, signed) in
    let hn : pos (k + w) ≡ b.y -ℤ a.y = omega (arith, signed) in
    record {
      k = k;
      w = w;
      some = omega (arith, signed);
      xs = weighed a.x b.x p.x (b.y -ℤ p.y) (p.y -ℤ a.y) (b.y -ℤ a.y) k w hk hw hn (mean_across a.x a.y b.x b.y p.x p.y line);
      ys = weighed a.y b.y p.y (b.y -ℤ p.y) (p.y -ℤ a.y) (b.y -ℤ a.y) k w hk hw hn (mean_along a.y b.y p.y);
    }

-- p lies at the height of both
mean_at_height : (a b p : Loc) → a.y ≡ p.y → p.y ≡ b.y → a.x <ℤ p.x → p.x <ℤ b.x → IsMean a b p
mean_at_height a b p low high left right =
    let k = unsigned_abs (b.x -ℤ p.x) in let w = unsigned_abs (p.x -ℤ a.x) in
    let hk : pos k ≡ b.x -ℤ p.x = omega (arith, signed) in
    let hw : pos w ≡ p.x -ℤ a.x = omega (arith, signed) in
    let hn : pos (k + w) ≡ b.x -ℤ a.x = omega (arith, signed) in
    let sum : pos (k + w) ≡ pos k +ℤ pos w = omega (arith, signed) in
    record {
      k = k;
      w = w;
      some = omega (arith, signed);
      xs = weighed a.x b.x p.x (b.x -ℤ p.x) (p.x -ℤ a.x) (b.x -ℤ a.x) k w hk hw hn (mean_along a.x b.x p.x);
      ys = rw (low, ← high, sum) (mean_level p.y (pos k) (pos w));
    }

before_by : (y z x w : ℤ) (o : Ordering) → int_cmp y z ≡ o → ordering_then o (int_cmp x w) ≡ Less → (y <ℤ z) ⊎ ((y ≡ z) × (x <ℤ w))
before_by y z x w Less e h = inl (grind (arith, ints))
before_by y z x w Equal e h = inr (grind (arith, ints), grind (arith, ints))
before_by y z x w Greater e h = absurd (cc h)

-- a location before another stands below it, or left of it at its height
pub before_where : (p q : Loc) → loc_cmp p q ≡ Less → (p.y <ℤ q.y) ⊎ ((p.y ≡ q.y) × (p.x <ℤ q.x))
before_where p q h = before_by p.y q.y p.x q.x (int_cmp p.y q.y) refl h

-- a point of the line of a and b that comes after a and before b
mean_of : (a b p : Loc) → cross (from_to (vector_of a) (vector_of b)) (from_to (vector_of a) (vector_of p)) ≡ pos 0 → loc_cmp a p ≡ Less → loc_cmp p b ≡ Less → IsMean a b p
mean_of a b p line after before = by (before_where a p after) (before_where p b before)
  where
    by : (a.y <ℤ p.y) ⊎ ((a.y ≡ p.y) × (a.x <ℤ p.x)) → (p.y <ℤ b.y) ⊎ ((p.y ≡ b.y) × (p.x <ℤ b.x)) → IsMean a b p
    by (inl l) (inl h) = mean_by_height a b p line (omega (arith, ints)) (omega (arith, ints)) (omega (arith, ints))
    by (inl l) (inr h) = let e = h.0 in mean_by_height a b p line (omega (arith, ints)) (omega (arith, ints)) (omega (arith, ints))
    by (inr l) (inl h) = let e = l.0 in mean_by_height a b p line (omega (arith, ints)) (omega (arith, ints)) (omega (arith, ints))
    by (inr l) (inr h) = mean_at_height a b p l.0 h.0 l.1 h.1

-- ---- segments that a line parts
pub clear_where : (e o x : Bool) → let kind = if e then None else (if o then Some Overlap else (if x then Some Crossing else None)) in (kind ≡ Some Overlap → ⊥) → (kind ≡ Some Crossing → ⊥) → kind ≡ None
clear_where true o x h k = refl
clear_where false true x h k = absurd (h refl)
clear_where false false true h k = absurd (k refl)
clear_where false false false h k = refl

module _ (u v m : ℤ) (s t : Seg) (low_a : reach u v s.a ≤ℤ m) (low_b : reach u v s.b ≤ℤ m) (high_a : m <ℤ reach u v t.a) (high_b : m <ℤ reach u v t.b) where
  no_crossing : conflict_of s t ≡ Some Crossing → ⊥
  no_crossing crossing =
      let d = unsigned_abs (slant s t) in
      let w = unsigned_abs (orientation t.a t.b s.a) in
      let w' = unsigned_abs (orientation s.a s.b t.a) in
      let alike = are_alike s t crossing in
      let sum : (d - w) + w ≡ (d - w') + w' = let h = alike.first in let k = alike.second in omega arith in
      let some : 1 ≤ (d - w) + w = let h = alike.first in let k = alike.some in omega arith in
      no_mean m (reach u v s.a) (reach u v s.b) (reach u v t.a) (reach u v t.b) (d - w) w (d - w') w' sum some low_a low_b high_a high_b
      (reach_alike u v s.a s.b t.a t.b (d - w) w (d - w') w' alike.xs alike.ys)

  -- t begins inside s
  second_inside : IsMean s.a s.b t.a → ⊥
  second_inside mean =
      let k = mean.k in let w = mean.w in
      no_mean m (reach u v s.a) (reach u v s.b) (reach u v t.a) (reach u v t.a) k w (k + w) 0 (omega arith) mean.some low_a low_b high_a high_a
      (reach_alike u v s.a s.b t.a t.a k w (k + w) 0 mean.xs mean.ys)

  -- s begins inside t
  first_inside : IsMean t.a t.b s.a → ⊥
  first_inside mean =
      let k = mean.k in let w = mean.w in let some = mean.some in
      no_mean m (reach u v s.a) (reach u v s.a) (reach u v t.a) (reach u v t.b) (k + w) 0 k w (omega arith) (omega arith) low_a low_a high_a high_b
      (sym (reach_alike u v t.a t.b s.a s.a k w (k + w) 0 mean.xs mean.ys))

  overlap_by : (o : Ordering) → loc_cmp s.a t.a ≡ o → conflict_of s t ≡ Some Overlap → ⊥
  overlap_by Less after overlap = second_inside (mean_of s.a s.b t.a (null-zero _ (overlapping_where s t overlap).first_on) after (begin_in_time s t overlap).1)
  overlap_by Equal one overlap = let same : reach u v s.a ≡ reach u v t.a = ap (reach u v) (loc_same s.a t.a one) in absurd (omega (arith, ints))
  overlap_by Greater before overlap =
      first_inside (mean_of t.a t.b s.a (null-zero _ (overlapping_where s t overlap).first_on_back) (loc_total.antisymm t.a s.a ∙ ap ordering_reverse before) (begin_in_time s t overlap).0)

  no_overlap : conflict_of s t ≡ Some Overlap → ⊥
  no_overlap overlap = overlap_by (loc_cmp s.a t.a) refl overlap

  pub parted_clear : conflict_of s t ≡ None
  parted_clear = clear_where (is_eq (seg_cmp s t)) (are_overlapping s t) (are_crossing s t) no_overlap no_crossing

-- ---- one begins above the other
climbs_by : (low high : ℤ) (o : Ordering) → ordering_then (int_cmp low high) o ≡ Less → low ≤ℤ high
climbs_by low high o h = grind (arith, ints)

climbs : (s : Seg) → s.a.y ≤ℤ s.b.y
climbs s = climbs_by s.a.y s.b.y (int_cmp s.a.x s.b.x) s.rising

-- the reach upwards is the height
height_up : (p : Loc) → reach (pos 0) (pos 1) p ≡ p.y
height_up p = omega (arith, ints)

pub apart_clear : (s t : Seg) → s.b.y <ℤ t.a.y → conflict_of s t ≡ None
apart_clear s t higher =
    let rise = climbs s in let rise' = climbs t in
    let sa = height_up s.a in let sb = height_up s.b in let ta = height_up t.a in let tb = height_up t.b in
    parted_clear (pos 0) (pos 1) s.b.y s t (omega (arith, ints)) (omega (arith, ints)) (omega (arith, ints)) (omega (arith, ints))
