-- The point so far along a segment lies on it, and is the only one on two segments that are not parallel.
use Rattle.std.proofs.Common.{◌≡◌, ◌≢◌, ℕ, zero, suc, ◌-◌, ◌≤◌, ℤ, pos, ◌+ℤ◌, ◌-ℤ◌, ◌*ℤ◌, Bool, true, false, refl, sym, ap, ◌∙◌, arith}
use Rattle.std.proofs.lemmas.Int.{ints}
use Rattle.plane.specs.Edge.{Edge, IsRisingEdge}
use Rattle.plane.specs.RayCrossing.{is_off, off_by}
use Rattle.plane.specs.Scale.{scaled_point, scaled_edge}
use Rattle.plane.specs.Sign.{Sign, Null, Plus, Minus, negated, sign}
use Rattle.plane.specs.Vector.{Vector, cross, dot, from_to}
use Rattle.plane.proofs.SignKit.{lift, same, apart, ◌⊞◌, ◌⊟◌, ◌⊠◌, times, sign-*, sign-reversed, null-zero, plus-times, sign-pos}
use Rattle.plane.proofs.PlaneKit.{rising-direction, orient-round, off_by-no}
use Rattle.osm_lattice.proofs.Factors.{cancel_factor, some, zero_other}
use Rattle.lists.proofs.ListsKit.{sum_none}

-- ---- a point seen from a number p of parts before it and a number n of parts behind it, of a whole d: v and w are the steps to the ends, u is the step between them
module _ (d m n : ℤ) (u v w : Vector) (vx : d *ℤ v.x ≡ m *ℤ u.x) (vy : d *ℤ v.y ≡ m *ℤ u.y) (wx : d *ℤ w.x ≡ n *ℤ u.x) (wy : d *ℤ w.y ≡ n *ℤ u.y) where
  times_twice : (a b c e : ℤ) → d *ℤ (d *ℤ (a *ℤ b -ℤ c *ℤ e)) ≡ (d *ℤ a) *ℤ (d *ℤ b) -ℤ (d *ℤ c) *ℤ (d *ℤ e)
  times_twice a b c e =
      let k = lift d in let a' = lift a in let b' = lift b in let c' = lift c in let e' = lift e in
      same (k ⊠ (k ⊠ (a' ⊠ b' ⊟ c' ⊠ e'))) ((k ⊠ a') ⊠ (k ⊠ b') ⊟ (k ⊠ c') ⊠ (k ⊠ e')) (omega arith)

  times_twice_sum : (a b c e : ℤ) → d *ℤ (d *ℤ (a *ℤ b +ℤ c *ℤ e)) ≡ (d *ℤ a) *ℤ (d *ℤ b) +ℤ (d *ℤ c) *ℤ (d *ℤ e)
  times_twice_sum a b c e =
      let k = lift d in let a' = lift a in let b' = lift b in let c' = lift c in let e' = lift e in
      same (k ⊠ (k ⊠ (a' ⊠ b' ⊞ c' ⊠ e'))) ((k ⊠ a') ⊠ (k ⊠ b') ⊞ (k ⊠ c') ⊠ (k ⊠ e')) (omega arith)

  one_line : (x y : ℤ) → (m *ℤ x) *ℤ (n *ℤ y) -ℤ (m *ℤ y) *ℤ (n *ℤ x) ≡ pos 0
  one_line x y =
      let p = lift m in let q = lift n in let x' = lift x in let y' = lift y in
      same ((p ⊠ x') ⊠ (q ⊠ y') ⊟ (p ⊠ y') ⊠ (q ⊠ x')) (lift (pos 0)) (omega arith)

  lengths : (x y : ℤ) → (m *ℤ x) *ℤ (n *ℤ x) +ℤ (m *ℤ y) *ℤ (n *ℤ y) ≡ (m *ℤ n) *ℤ (x *ℤ x +ℤ y *ℤ y)
  lengths x y =
      let p = lift m in let q = lift n in let x' = lift x in let y' = lift y in
      same ((p ⊠ x') ⊠ (q ⊠ x') ⊞ (p ⊠ y') ⊠ (q ⊠ y')) ((p ⊠ q) ⊠ (x' ⊠ x' ⊞ y' ⊠ y')) (omega arith)

  crossed : d *ℤ (d *ℤ cross v w) ≡ pos 0
  crossed = times_twice v.x w.y v.y w.x ∙ rw (vx, vy, wx, wy) (one_line u.x u.y)

  dotted : d *ℤ (d *ℤ dot v w) ≡ (m *ℤ n) *ℤ dot u u
  dotted = times_twice_sum v.x w.x v.y w.y ∙ rw (vx, vy, wx, wy) (lengths u.x u.y)

-- the signs of m and n
abbrev behind : Sign → Sign → Bool
behind Plus t = false
behind Null t = true
behind Minus Minus = false
behind Minus t = true

not-plus : (s t r : Sign) → behind s t ≡ true → r ≡ times (times s t) Plus → off_by Null r ≡ false
not-plus Null t r h e = rw e refl
not-plus Minus Null r h e = rw e refl
not-plus Minus Plus r h e = rw e refl
not-plus Minus Minus r h e = absurd (cc h)
not-plus Plus t r h e = absurd (cc h)

off_where : (c : ℤ) (s : Sign) → c ≡ pos 0 → off_by Null s ≡ false → off_by (sign c) s ≡ false
off_where c s e h = rw e h

not_off : (d m n : ℤ) (u v w : Vector) → sign d ≡ Plus → sign (dot u u) ≡ Plus → behind (sign m) (sign n) ≡ true →
    d *ℤ v.x ≡ m *ℤ u.x → d *ℤ v.y ≡ m *ℤ u.y → d *ℤ w.x ≡ n *ℤ u.x → d *ℤ w.y ≡ n *ℤ u.y → off_by (sign (cross v w)) (sign (dot v w)) ≡ false
not_off d m n u v w hd hu hb vx vy wx wy =
    let d_some : d ≢ pos 0 = λ z. absurd (cc (sym hd ∙ ap sign z)) in
    let c = zero_other d (cross v w) d_some (zero_other d (d *ℤ cross v w) d_some (crossed d m n u v w vx vy wx wy)) in
    let e : sign (dot v w) ≡ times (times (sign m) (sign n)) Plus =
    sym (plus-times d (dot v w) hd) ∙ sym (plus-times d (d *ℤ dot v w) hd) ∙ ap sign (dotted d m n u v w vx vy wx wy)
    ∙ sign-* (m *ℤ n) (dot u u) ∙ ap (λ s. times s (sign (dot u u))) (sign-* m n) ∙ ap (λ s. times (times (sign m) (sign n)) s) hu in
    off_where (cross v w) (sign (dot v w)) c (not-plus (sign m) (sign n) (sign (dot v w)) hb e)

-- ---- a coordinate that lies w of w + r parts of the way from a to b: the steps to a and to b, multiplied by its denominator e and by the other's f
to_start : (a b x e f k w r : ℤ) → k ≡ e *ℤ f → x *ℤ (w +ℤ r) ≡ (a *ℤ r +ℤ b *ℤ w) *ℤ e → (w +ℤ r) *ℤ (k *ℤ a -ℤ x *ℤ f) ≡ (pos 0 -ℤ k *ℤ w) *ℤ (b -ℤ a)
to_start a b x e f k w r ek h =
    let a' = lift a in let b' = lift b in let x' = lift x in let e' = lift e in let f' = lift f in let w' = lift w in let r' = lift r in
    rw ek (same ((w' ⊞ r') ⊠ ((e' ⊠ f') ⊠ a' ⊟ x' ⊠ f')) ((lift (pos 0) ⊟ (e' ⊠ f') ⊠ w') ⊠ (b' ⊟ a'))
    (omega (arith, apart (f' ⊠ (x' ⊠ (w' ⊞ r'))) (f' ⊠ ((a' ⊠ r' ⊞ b' ⊠ w') ⊠ e')) (ap (λ z. f *ℤ z) h))))

to_end : (a b x e f k w r : ℤ) → k ≡ e *ℤ f → x *ℤ (w +ℤ r) ≡ (a *ℤ r +ℤ b *ℤ w) *ℤ e → (w +ℤ r) *ℤ (k *ℤ b -ℤ x *ℤ f) ≡ (k *ℤ r) *ℤ (b -ℤ a)
to_end a b x e f k w r ek h =
    let a' = lift a in let b' = lift b in let x' = lift x in let e' = lift e in let f' = lift f in let w' = lift w in let r' = lift r in
    rw ek (same ((w' ⊞ r') ⊠ ((e' ⊠ f') ⊠ b' ⊟ x' ⊠ f')) (((e' ⊠ f') ⊠ r') ⊠ (b' ⊟ a'))
    (omega (arith, apart (f' ⊠ (x' ⊠ (w' ⊞ r'))) (f' ⊠ ((a' ⊠ r' ⊞ b' ⊠ w') ⊠ e')) (ap (λ z. f *ℤ z) h))))

times_back : (e f : ℤ) → f *ℤ e ≡ e *ℤ f
times_back e f = omega (arith, ints)

-- the parts before the point and those behind it
behind_parts : (p q : ℕ) → behind (negated (sign (pos p))) (sign (pos q)) ≡ true
behind_parts zero q = refl
behind_parts (suc p) zero = refl
behind_parts (suc p) (suc q) = refl

behind_by : (k : ℤ) (p q : ℕ) → sign k ≡ Plus → behind (sign (pos 0 -ℤ k *ℤ pos p)) (sign (k *ℤ pos q)) ≡ true
behind_by k p q hk =
    let back : sign (pos 0 -ℤ k *ℤ pos p) ≡ negated (sign (pos p)) = sign-reversed (k *ℤ pos p) (pos 0 -ℤ k *ℤ pos p) (sum_none (k *ℤ pos p)) ∙ ap negated (plus-times k (pos p) hk) in
    rw (back, plus-times k (pos q) hk) (behind_parts p q)

abbrev pub point_of : ℤ → ℤ → ℤ → ℤ → Vector
point_of xn xd yn yd = record { x = xn *ℤ yd; y = yn *ℤ xd }

pub on_segment : (e : Edge) (xn yn : ℤ) (xd yd d w : ℕ) → IsRisingEdge e → 1 ≤ xd → 1 ≤ yd → 1 ≤ d → w ≤ d →
    xn *ℤ pos d ≡ (e.from.x *ℤ pos (d - w) +ℤ e.to.x *ℤ pos w) *ℤ pos xd → yn *ℤ pos d ≡ (e.from.y *ℤ pos (d - w) +ℤ e.to.y *ℤ pos w) *ℤ pos yd →
    is_off (point_of xn (pos xd) yn (pos yd)) (scaled_edge (pos xd *ℤ pos yd) e) ≡ false
on_segment e xn yn xd yd d w rising xs ys ds le hx hy =
    let a = e.from in let b = e.to in let k = pos xd *ℤ pos yd in let before = pos w in let rest = pos (d - w) in
    let whole : pos d ≡ before +ℤ rest = omega (arith, ints) in
    let kx : sign k ≡ Plus = sign-* (pos xd) (pos yd) ∙ ap (λ s. times s (sign (pos yd))) (sign-pos xd xs) ∙ ap (times Plus) (sign-pos yd ys) in
    let gx = rw whole at hx in let gy = rw whole at hy in
    let turned = times_back (pos yd) (pos xd) in
    not_off (before +ℤ rest) (pos 0 -ℤ k *ℤ before) (k *ℤ rest) (from_to a b) (from_to (point_of xn (pos xd) yn (pos yd)) (scaled_point k a)) (from_to (point_of xn (pos xd) yn (pos yd)) (scaled_point k b))
    (ap sign (sym whole) ∙ sign-pos d ds) (rising-direction a b rising) (behind_by k w (d - w) kx)
    (to_start a.x b.x xn (pos xd) (pos yd) k before rest refl gx) (to_start a.y b.y yn (pos yd) (pos xd) k before rest turned gy)
    (to_end a.x b.x xn (pos xd) (pos yd) k before rest refl gx) (to_end a.y b.y yn (pos yd) (pos xd) k before rest turned gy)

-- ---- a point on two segments: the equations of the two lines
pub line_of : (e : Edge) (k : ℤ) (p : Vector) → k ≢ pos 0 → is_off p (scaled_edge k e) ≡ false → cross (from_to e.from e.to) (from_to (scaled_point k e.from) p) ≡ pos 0
line_of e k p nonzero h =
    let a = scaled_point k e.from in let b = scaled_point k e.to in
    let none = null-zero (cross (from_to p a) (from_to p b)) (off_by-no (sign (cross (from_to p a) (from_to p b))) (sign (dot (from_to p a) (from_to p b))) h) in
    zero_other k (cross (from_to e.from e.to) (from_to a p)) nonzero
    (sym (out e.from.x e.from.y e.to.x e.to.y (p.x -ℤ k *ℤ e.from.x) (p.y -ℤ k *ℤ e.from.y)) ∙ orient-round p a b ∙ none)
  where
    out : (ax ay bx by' zx zy : ℤ) → (k *ℤ bx -ℤ k *ℤ ax) *ℤ zy -ℤ (k *ℤ by' -ℤ k *ℤ ay) *ℤ zx ≡ k *ℤ ((bx -ℤ ax) *ℤ zy -ℤ (by' -ℤ ay) *ℤ zx)
    out ax ay bx by' zx zy =
        let k' = lift k in let a' = lift ax in let b' = lift ay in let c' = lift bx in let d' = lift by' in let x' = lift zx in let y' = lift zy in
        same ((k' ⊠ c' ⊟ k' ⊠ a') ⊠ y' ⊟ (k' ⊠ d' ⊟ k' ⊠ b') ⊠ x') (k' ⊠ ((c' ⊟ a') ⊠ y' ⊟ (d' ⊟ b') ⊠ x')) (omega arith)

spread_x : (ux uy vx vy zx zy : ℤ) → zx *ℤ (ux *ℤ vy -ℤ uy *ℤ vx) ≡ vx *ℤ (ux *ℤ zy -ℤ uy *ℤ zx) -ℤ ux *ℤ (vx *ℤ zy -ℤ vy *ℤ zx)
spread_x ux uy vx vy zx zy =
    let a = lift ux in let b = lift uy in let c = lift vx in let d = lift vy in let x = lift zx in let y = lift zy in
    same (x ⊠ (a ⊠ d ⊟ b ⊠ c)) (c ⊠ (a ⊠ y ⊟ b ⊠ x) ⊟ a ⊠ (c ⊠ y ⊟ d ⊠ x)) (omega arith)

spread_y : (ux uy vx vy zx zy : ℤ) → zy *ℤ (ux *ℤ vy -ℤ uy *ℤ vx) ≡ vy *ℤ (ux *ℤ zy -ℤ uy *ℤ zx) -ℤ uy *ℤ (vx *ℤ zy -ℤ vy *ℤ zx)
spread_y ux uy vx vy zx zy =
    let a = lift ux in let b = lift uy in let c = lift vx in let d = lift vy in let x = lift zx in let y = lift zy in
    same (y ⊠ (a ⊠ d ⊟ b ⊠ c)) (d ⊠ (a ⊠ y ⊟ b ⊠ x) ⊟ b ⊠ (c ⊠ y ⊟ d ⊠ x)) (omega arith)

-- from another point of the plane
moved : (vx vy ax ay cx cy px py k : ℤ) → vx *ℤ (py -ℤ k *ℤ ay) -ℤ vy *ℤ (px -ℤ k *ℤ ax) ≡ (vx *ℤ (py -ℤ k *ℤ cy) -ℤ vy *ℤ (px -ℤ k *ℤ cx)) -ℤ k *ℤ (vx *ℤ (ay -ℤ cy) -ℤ vy *ℤ (ax -ℤ cx))
moved vx vy ax ay cx cy px py k =
    let v = lift vx in let w = lift vy in let a = lift ax in let b = lift ay in let c = lift cx in let d = lift cy in let p = lift px in let q = lift py in let k' = lift k in
    same (v ⊠ (q ⊟ k' ⊠ b) ⊟ w ⊠ (p ⊟ k' ⊠ a)) ((v ⊠ (q ⊟ k' ⊠ d) ⊟ w ⊠ (p ⊟ k' ⊠ c)) ⊟ k' ⊠ (v ⊠ (b ⊟ d) ⊟ w ⊠ (a ⊟ c))) (omega arith)

left_over : (v u k o : ℤ) → v *ℤ pos 0 -ℤ u *ℤ (pos 0 -ℤ k *ℤ o) ≡ k *ℤ (u *ℤ o)
left_over v u k o =
    let v' = lift v in let u' = lift u in let k' = lift k in let o' = lift o in
    same (v' ⊠ lift (pos 0) ⊟ u' ⊠ (lift (pos 0) ⊟ k' ⊠ o')) (k' ⊠ (u' ⊠ o')) (omega arith)

-- a coordinate by the two lines: times their slant
coordinate_by : (x e f k a s g : ℤ) → f ≢ pos 0 → k ≡ e *ℤ f → (x *ℤ f -ℤ k *ℤ a) *ℤ s ≡ k *ℤ g → x *ℤ s ≡ e *ℤ (a *ℤ s +ℤ g)
coordinate_by x e f k a s g nonzero ek h0 =
    let h = by_parts k ek h0 in
    let x' = lift x in let e' = lift e in let f' = lift f in let a' = lift a in let s' = lift s in let g' = lift g in
    cancel_factor (x *ℤ s) (e *ℤ (a *ℤ s +ℤ g)) f nonzero
    (same (f' ⊠ (x' ⊠ s')) (f' ⊠ (e' ⊠ (a' ⊠ s' ⊞ g'))) (omega (arith, apart ((x' ⊠ f' ⊟ (e' ⊠ f') ⊠ a') ⊠ s') ((e' ⊠ f') ⊠ g') h)))
  where
    by_parts : (k : ℤ) → k ≡ e *ℤ f → (x *ℤ f -ℤ k *ℤ a) *ℤ s ≡ k *ℤ g → (x *ℤ f -ℤ (e *ℤ f) *ℤ a) *ℤ s ≡ (e *ℤ f) *ℤ g
    by_parts k ek h = rw ek at h

-- how the lines of s and t slant against each other, and how far s begins from the line of t
abbrev pub slant_of : Edge → Edge → ℤ
slant_of s t = cross (from_to s.from s.to) (from_to t.from t.to)

abbrev pub offset_of : Edge → Edge → ℤ
offset_of s t = cross (from_to t.from t.to) (from_to t.from s.from)

module _ (s t : Edge) where
  -- what the point's coordinates are, times the slant
  solved : (xn yn : ℤ) (xd yd : ℕ) → 1 ≤ xd → 1 ≤ yd →
      is_off (point_of xn (pos xd) yn (pos yd)) (scaled_edge (pos xd *ℤ pos yd) s) ≡ false → is_off (point_of xn (pos xd) yn (pos yd)) (scaled_edge (pos xd *ℤ pos yd) t) ≡ false →
      (xn *ℤ slant_of s t ≡ pos xd *ℤ (s.from.x *ℤ slant_of s t +ℤ (s.to.x -ℤ s.from.x) *ℤ offset_of s t))
      × (yn *ℤ slant_of s t ≡ pos yd *ℤ (s.from.y *ℤ slant_of s t +ℤ (s.to.y -ℤ s.from.y) *ℤ offset_of s t))
  solved xn yn xd yd xs ys on_s on_t =
      let k = pos xd *ℤ pos yd in let p = point_of xn (pos xd) yn (pos yd) in
      let u = from_to s.from s.to in let v = from_to t.from t.to in
      let nonzero : k ≢ pos 0 = λ z. some yd ys (zero_other (pos xd) (pos yd) (some xd xs) z) in
      let hu = line_of s k p nonzero on_s in let hv = line_of t k p nonzero on_t in
      let z = from_to (scaled_point k s.from) p in
      let o = cross v (from_to t.from s.from) in
      let seen : cross v z ≡ pos 0 -ℤ k *ℤ o = moved v.x v.y s.from.x s.from.y t.from.x t.from.y p.x p.y k ∙ ap (λ y. y -ℤ k *ℤ o) hv in
      let ex : z.x *ℤ cross u v ≡ k *ℤ (u.x *ℤ o) = spread_x u.x u.y v.x v.y z.x z.y ∙ rw (hu, seen) (left_over v.x u.x k o) in
      let ey : z.y *ℤ cross u v ≡ k *ℤ (u.y *ℤ o) = spread_y u.x u.y v.x v.y z.x z.y ∙ rw (hu, seen) (left_over v.y u.y k o) in (
        coordinate_by xn (pos xd) (pos yd) k s.from.x (cross u v) (u.x *ℤ o) (some yd ys) refl ex,
        coordinate_by yn (pos yd) (pos xd) k s.from.y (cross u v) (u.y *ℤ o) (some xd xs) (times_back (pos yd) (pos xd)) ey,
      )

same_ratio : (x e y f g s : ℤ) → s ≢ pos 0 → x *ℤ s ≡ e *ℤ g → y *ℤ s ≡ f *ℤ g → x *ℤ f ≡ y *ℤ e
same_ratio x e y f g s nonzero h k =
    let x' = lift x in let e' = lift e in let y' = lift y in let f' = lift f in let g' = lift g in let s' = lift s in
    cancel_factor (x *ℤ f) (y *ℤ e) s nonzero
    (same (s' ⊠ (x' ⊠ f')) (s' ⊠ (y' ⊠ e')) (omega (arith, apart (f' ⊠ (x' ⊠ s')) (f' ⊠ (e' ⊠ g')) (ap (λ z. f *ℤ z) h), apart (e' ⊠ (y' ⊠ s')) (e' ⊠ (f' ⊠ g')) (ap (λ z. e *ℤ z) k))))

-- ---- the point that is so far along the one segment is so far along the other
axis : (a b c d s o q whole w w' : ℤ) → s ≢ pos 0 → (a -ℤ c) *ℤ s +ℤ (b -ℤ a) *ℤ o ≡ pos 0 -ℤ (d -ℤ c) *ℤ q → w *ℤ s ≡ o *ℤ whole → w' *ℤ (pos 0 -ℤ s) ≡ q *ℤ whole →
    a *ℤ (whole -ℤ w) +ℤ b *ℤ w ≡ c *ℤ (whole -ℤ w') +ℤ d *ℤ w'
axis a b c d s o q whole w w' nonzero line first second =
    let a' = lift a in let b' = lift b in let c' = lift c in let d' = lift d in let s' = lift s in let o' = lift o in let q' = lift q in
    let h = lift whole in let v = lift w in let v' = lift w' in let zero' = lift (pos 0) in
    cancel_factor (a *ℤ (whole -ℤ w) +ℤ b *ℤ w) (c *ℤ (whole -ℤ w') +ℤ d *ℤ w') s nonzero
    (same (s' ⊠ (a' ⊠ (h ⊟ v) ⊞ b' ⊠ v)) (s' ⊠ (c' ⊠ (h ⊟ v') ⊞ d' ⊠ v'))
    (omega (
      arith,
      apart (h ⊠ ((a' ⊟ c') ⊠ s' ⊞ (b' ⊟ a') ⊠ o')) (h ⊠ (zero' ⊟ (d' ⊟ c') ⊠ q')) (ap (λ z. whole *ℤ z) line),
      apart ((b' ⊟ a') ⊠ (v ⊠ s')) ((b' ⊟ a') ⊠ (o' ⊠ h)) (ap (λ z. (b -ℤ a) *ℤ z) first),
      apart ((d' ⊟ c') ⊠ (v' ⊠ (zero' ⊟ s'))) ((d' ⊟ c') ⊠ (q' ⊠ h)) (ap (λ z. (d -ℤ c) *ℤ z) second),
    )))

turned_about : (ux uy px py qx qy : ℤ) → ux *ℤ (py -ℤ qy) -ℤ uy *ℤ (px -ℤ qx) ≡ pos 0 -ℤ (ux *ℤ (qy -ℤ py) -ℤ uy *ℤ (qx -ℤ px))
turned_about ux uy px py qx qy =
    let u = lift ux in let v = lift uy in let p = lift px in let q = lift py in let r = lift qx in let w = lift qy in
    same (u ⊠ (q ⊟ w) ⊟ v ⊠ (p ⊟ r)) (lift (pos 0) ⊟ (u ⊠ (w ⊟ q) ⊟ v ⊠ (r ⊟ p))) (omega arith)

line_by : (z s u o v c q : ℤ) → z *ℤ s ≡ v *ℤ c -ℤ u *ℤ o → c ≡ pos 0 -ℤ q → z *ℤ s +ℤ u *ℤ o ≡ pos 0 -ℤ v *ℤ q
line_by z s u o v c q h e =
    let z' = lift z in let s' = lift s in let u' = lift u in let o' = lift o in let v' = lift v in let c' = lift c in let q' = lift q in
    same (z' ⊠ s' ⊞ u' ⊠ o') (lift (pos 0) ⊟ v' ⊠ q') (omega (arith, apart (z' ⊠ s') (v' ⊠ c' ⊟ u' ⊠ o') h, apart (v' ⊠ c') (v' ⊠ (lift (pos 0) ⊟ q')) (ap (λ x. v *ℤ x) e)))

module _ (s t : Edge) (whole w w' : ℕ) (nonzero : slant_of s t ≢ pos 0) (le : w ≤ whole) (le' : w' ≤ whole)
    (first : pos w *ℤ slant_of s t ≡ offset_of s t *ℤ pos whole) (second : pos w' *ℤ (pos 0 -ℤ slant_of s t) ≡ offset_of t s *ℤ pos whole) where
  rest : (n : ℕ) → n ≤ whole → pos (whole - n) ≡ pos whole -ℤ pos n
  rest n h = omega (arith, ints)

  pub along_x : s.from.x *ℤ pos (whole - w) +ℤ s.to.x *ℤ pos w ≡ t.from.x *ℤ pos (whole - w') +ℤ t.to.x *ℤ pos w'
  along_x =
      let u = from_to s.from s.to in let v = from_to t.from t.to in let z = from_to t.from s.from in
      rw (rest w le, rest w' le')
      (axis s.from.x s.to.x t.from.x t.to.x (slant_of s t) (offset_of s t) (offset_of t s) (pos whole) (pos w) (pos w') nonzero
      (line_by z.x (slant_of s t) u.x (offset_of s t) v.x (cross u z) (offset_of t s) (spread_x u.x u.y v.x v.y z.x z.y) (turned_about u.x u.y s.from.x s.from.y t.from.x t.from.y))
      first second)

  pub along_y : s.from.y *ℤ pos (whole - w) +ℤ s.to.y *ℤ pos w ≡ t.from.y *ℤ pos (whole - w') +ℤ t.to.y *ℤ pos w'
  along_y =
      let u = from_to s.from s.to in let v = from_to t.from t.to in let z = from_to t.from s.from in
      rw (rest w le, rest w' le')
      (axis s.from.y s.to.y t.from.y t.to.y (slant_of s t) (offset_of s t) (offset_of t s) (pos whole) (pos w) (pos w') nonzero
      (line_by z.y (slant_of s t) u.y (offset_of s t) v.y (cross u z) (offset_of t s) (spread_y u.x u.y v.x v.y z.x z.y) (turned_about u.x u.y s.from.x s.from.y t.from.x t.from.y))
      first second)

-- ---- a point on both segments is the same as another one
pub one_point : (s t : Edge) (xn yn : ℤ) (xd yd : ℕ) (xn' yn' : ℤ) (xd' yd' : ℕ) → slant_of s t ≢ pos 0 → 1 ≤ xd → 1 ≤ yd → 1 ≤ xd' → 1 ≤ yd' →
    is_off (point_of xn (pos xd) yn (pos yd)) (scaled_edge (pos xd *ℤ pos yd) s) ≡ false → is_off (point_of xn (pos xd) yn (pos yd)) (scaled_edge (pos xd *ℤ pos yd) t) ≡ false →
    is_off (point_of xn' (pos xd') yn' (pos yd')) (scaled_edge (pos xd' *ℤ pos yd') s) ≡ false → is_off (point_of xn' (pos xd') yn' (pos yd')) (scaled_edge (pos xd' *ℤ pos yd') t) ≡ false →
    (xn *ℤ pos xd' ≡ xn' *ℤ pos xd) × (yn *ℤ pos yd' ≡ yn' *ℤ pos yd)
one_point s t xn yn xd yd xn' yn' xd' yd' nonzero xs ys xs' ys' on_s on_t on_s' on_t' =
    let first = solved s t xn yn xd yd xs ys on_s on_t in
    let second = solved s t xn' yn' xd' yd' xs' ys' on_s' on_t' in (
      same_ratio xn (pos xd) xn' (pos xd') (s.from.x *ℤ slant_of s t +ℤ (s.to.x -ℤ s.from.x) *ℤ offset_of s t) (slant_of s t) nonzero first.0 second.0,
      same_ratio yn (pos yd) yn' (pos yd') (s.from.y *ℤ slant_of s t +ℤ (s.to.y -ℤ s.from.y) *ℤ offset_of s t) (slant_of s t) nonzero first.1 second.1,
    )
