-- A point of an edge between its ends, as a mean of them with positive weights.
use Rattle.std.proofs.Common.{ap, arith, subst, sym, true, ◌∙◌, ◌≡◌}
use borrow.Author.Differences.{ints}
use lib.IntN.{pos, ℤ, ◌*ℤ◌, ◌+ℤ◌, ◌-ℤ◌}
use Rattle.plane.specs.Scale.{scaled_point}
use Rattle.plane.specs.Sign.{Minus, Null, Plus, Sign, negated, sign}
use Rattle.plane.specs.Vector.{Vector, cross, dot, from_to, orient}
use Rattle.plane.proofs.SignKit.{apart, lift, same, ◌⊞◌, ◌⊟◌, ◌⊠◌, agree, null-zero, plus-sum, plus-times, sign-reversed, weighted-agree, difference_turned}
use Rattle.plane.proofs.PlaneKit.{same_vector, cross-negated, cross-self, cross2, from_to2, lift2, reversed-side, cross-weigh, dot-weigh, weigh, cross-times, dot-times}

-- z is a mean of a and b: (m + n) * z = m * a + n * b
pub record IsMean (a b z : Vector) : Type 0 where
  pub m : ℤ
  pub n : ℤ
  pub m_positive : sign m ≡ Plus
  pub n_positive : sign n ≡ Plus
  pub same_x : (m +ℤ n) *ℤ z.x ≡ m *ℤ a.x +ℤ n *ℤ b.x
  pub same_y : (m +ℤ n) *ℤ z.y ≡ m *ℤ a.y +ℤ n *ℤ b.y

swap-by : (m n z a b : ℤ) → (m +ℤ n) *ℤ z ≡ m *ℤ a +ℤ n *ℤ b → (n +ℤ m) *ℤ z ≡ n *ℤ b +ℤ m *ℤ a
swap-by m n z a b e =
    let m' = lift m in let n' = lift n in let z' = lift z in let a' = lift a in let b' = lift b in
    same ((n' ⊞ m') ⊠ z') (n' ⊠ b' ⊞ m' ⊠ a') (omega (arith, apart ((m' ⊞ n') ⊠ z') (m' ⊠ a' ⊞ n' ⊠ b') e))

pub mean-back : (a b z : Vector) → IsMean a b z → IsMean b a z
mean-back a b z i = record {
  m = i.n;
  n = i.m;
  m_positive = i.n_positive;
  n_positive = i.m_positive;
  same_x = swap-by i.m i.n z.x a.x b.x i.same_x;
  same_y = swap-by i.m i.n z.y a.y b.y i.same_y;
}

shift-by : (m n z a b p : ℤ) → (m +ℤ n) *ℤ z ≡ m *ℤ a +ℤ n *ℤ b → (m +ℤ n) *ℤ (z -ℤ p) ≡ m *ℤ (a -ℤ p) +ℤ n *ℤ (b -ℤ p)
shift-by m n z a b p e =
    let m' = lift m in let n' = lift n in let z' = lift z in let a' = lift a in let b' = lift b in let p' = lift p in
    same ((m' ⊞ n') ⊠ (z' ⊟ p')) (m' ⊠ (a' ⊟ p') ⊞ n' ⊠ (b' ⊟ p')) (omega (arith, apart ((m' ⊞ n') ⊠ z') (m' ⊠ a' ⊞ n' ⊠ b') e))

zero-left : (m n x y : ℤ) → x ≡ pos 0 → m *ℤ x +ℤ n *ℤ y ≡ n *ℤ y
zero-left m n x y z =
    let m' = lift m in let n' = lift n in let y' = lift y in
    ap (λ (w : ℤ). m *ℤ w +ℤ n *ℤ y) z ∙ same (m' ⊠ lift (pos 0) ⊞ n' ⊠ y') (n' ⊠ y') (omega arith)

module _ (a b z : Vector) (i : IsMean a b z) where
  abbrev k : ℤ
  k = i.m +ℤ i.n

  hk : sign k ≡ Plus
  hk = plus-sum i.m i.n i.m_positive i.n_positive

  seen : (p : Vector) → scaled_point k (from_to p z) ≡ weigh i.m i.n (from_to p a) (from_to p b)
  seen p = same_vector (k *ℤ (z.x -ℤ p.x)) (k *ℤ (z.y -ℤ p.y)) (i.m *ℤ (a.x -ℤ p.x) +ℤ i.n *ℤ (b.x -ℤ p.x)) (i.m *ℤ (a.y -ℤ p.y) +ℤ i.n *ℤ (b.y -ℤ p.y))
      (shift-by i.m i.n z.x a.x b.x p.x i.same_x) (shift-by i.m i.n z.y a.y b.y p.y i.same_y)

  mean-cross-is : (d p : Vector) → k *ℤ cross d (from_to p z) ≡ i.m *ℤ cross d (from_to p a) +ℤ i.n *ℤ cross d (from_to p b)
  mean-cross-is d p = sym (cross-times k d (from_to p z)) ∙ ap (cross d) (seen p) ∙ cross-weigh i.m i.n d (from_to p a) (from_to p b)

  mean-dot-is : (d p : Vector) → k *ℤ dot d (from_to p z) ≡ i.m *ℤ dot d (from_to p a) +ℤ i.n *ℤ dot d (from_to p b)
  mean-dot-is d p = sym (dot-times k d (from_to p z)) ∙ ap (dot d) (seen p) ∙ dot-weigh i.m i.n d (from_to p a) (from_to p b)

  -- the side of a mean is between those of the ends
  pub mean-cross : (d p : Vector) → agree (sign (cross d (from_to p a))) (sign (cross d (from_to p b))) (sign (cross d (from_to p z))) ≡ true
  mean-cross d p =
      let h = weighted-agree i.m i.n (cross d (from_to p a)) (cross d (from_to p b)) (k *ℤ cross d (from_to p z)) i.m_positive i.n_positive (sym (mean-cross-is d p)) in
      subst (λ s. agree (sign (cross d (from_to p a))) (sign (cross d (from_to p b))) s ≡ true) (plus-times k (cross d (from_to p z)) hk) h

  pub mean-dot : (d p : Vector) → agree (sign (dot d (from_to p a))) (sign (dot d (from_to p b))) (sign (dot d (from_to p z))) ≡ true
  mean-dot d p =
      let h = weighted-agree i.m i.n (dot d (from_to p a)) (dot d (from_to p b)) (k *ℤ dot d (from_to p z)) i.m_positive i.n_positive (sym (mean-dot-is d p)) in
      subst (λ s. agree (sign (dot d (from_to p a))) (sign (dot d (from_to p b))) s ≡ true) (plus-times k (dot d (from_to p z)) hk) h

  -- seen from anywhere, it is on the side of the first end that the second is on
  pub mean-first : (p : Vector) → sign (cross (from_to p a) (from_to p z)) ≡ sign (cross (from_to p a) (from_to p b))
  mean-first p =
      let d = from_to p a in
      sym (plus-times k (cross d (from_to p z)) hk) ∙ ap sign (mean-cross-is d p ∙ zero-left i.m i.n (cross d d) (cross d (from_to p b)) (cross-self d)) ∙ plus-times i.n (cross d (from_to p b)) i.n_positive

pub mean-second : (a b z : Vector) → IsMean a b z → (p : Vector) → sign (cross (from_to p z) (from_to p b)) ≡ sign (cross (from_to p a) (from_to p b))
mean-second a b z i p =
    cross-negated (from_to p b) (from_to p z) ∙ ap negated (mean-first b a z (mean-back a b z i) p) ∙ sym (cross-negated (from_to p b) (from_to p a))

-- ---- where an edge meets a line
identity-x : (u a b z : Vector) (c : ℤ) →
    ((c -ℤ cross u b) +ℤ (cross u a -ℤ c)) *ℤ z.x +ℤ (cross u z -ℤ c) *ℤ (b.x -ℤ a.x) ≡ ((c -ℤ cross u b) *ℤ a.x +ℤ (cross u a -ℤ c) *ℤ b.x) +ℤ u.x *ℤ cross (from_to a b) (from_to a z)
identity-x u a b z c =
    let u' = lift2 u in let a' = lift2 a in let b' = lift2 b in let z' = lift2 z in let c' = lift c in
    same (((c' ⊟ cross2 u' b') ⊞ (cross2 u' a' ⊟ c')) ⊠ z'.x2 ⊞ (cross2 u' z' ⊟ c') ⊠ (b'.x2 ⊟ a'.x2))
    (((c' ⊟ cross2 u' b') ⊠ a'.x2 ⊞ (cross2 u' a' ⊟ c') ⊠ b'.x2) ⊞ u'.x2 ⊠ cross2 (from_to2 a' b') (from_to2 a' z')) (omega arith)

identity-y : (u a b z : Vector) (c : ℤ) →
    ((c -ℤ cross u b) +ℤ (cross u a -ℤ c)) *ℤ z.y +ℤ (cross u z -ℤ c) *ℤ (b.y -ℤ a.y) ≡ ((c -ℤ cross u b) *ℤ a.y +ℤ (cross u a -ℤ c) *ℤ b.y) +ℤ u.y *ℤ cross (from_to a b) (from_to a z)
identity-y u a b z c =
    let u' = lift2 u in let a' = lift2 a in let b' = lift2 b in let z' = lift2 z in let c' = lift c in
    same (((c' ⊟ cross2 u' b') ⊞ (cross2 u' a' ⊟ c')) ⊠ z'.y2 ⊞ (cross2 u' z' ⊟ c') ⊠ (b'.y2 ⊟ a'.y2))
    (((c' ⊟ cross2 u' b') ⊠ a'.y2 ⊞ (cross2 u' a' ⊟ c') ⊠ b'.y2) ⊞ u'.y2 ⊠ cross2 (from_to2 a' b') (from_to2 a' z')) (omega arith)

drop-zeros : (A B p q r s : ℤ) → q ≡ pos 0 → s ≡ pos 0 → A +ℤ q *ℤ p ≡ B +ℤ r *ℤ s → A ≡ B
drop-zeros A B p q r s hq hs e =
    let f : A +ℤ pos 0 *ℤ p ≡ B +ℤ r *ℤ pos 0 = ap (λ (w : ℤ). A +ℤ w *ℤ p) (sym hq) ∙ e ∙ ap (λ (w : ℤ). B +ℤ r *ℤ w) hs in
    let A' = lift A in let B' = lift B in let p' = lift p in let r' = lift r in
    same A' B' (omega (arith, apart (A' ⊞ lift (pos 0) ⊠ p') (B' ⊞ r' ⊠ lift (pos 0)) f))

-- from the kept side to the other one
pub meeting-is-mean : (u a b z : Vector) (c : ℤ) → sign (cross u a -ℤ c) ≡ Plus → sign (cross u b -ℤ c) ≡ Minus → sign (cross u z -ℤ c) ≡ Null → orient a b z ≡ Null → IsMean a b z
meeting-is-mean u a b z c ha hb hz on = record {
  m = c -ℤ cross u b;
  n = cross u a -ℤ c;
  m_positive = difference_turned (cross u b) c hb;
  n_positive = ha;
  same_x = drop-zeros _ _ (b.x -ℤ a.x) (cross u z -ℤ c) u.x (cross (from_to a b) (from_to a z)) (null-zero _ hz) (null-zero _ on) (identity-x u a b z c);
  same_y = drop-zeros _ _ (b.y -ℤ a.y) (cross u z -ℤ c) u.y (cross (from_to a b) (from_to a z)) (null-zero _ hz) (null-zero _ on) (identity-y u a b z c);
}

negated-null : (s t : Sign) → s ≡ Null → t ≡ negated s → t ≡ Null
negated-null s t h k = k ∙ ap negated h

-- from the other side to the kept one
pub meeting-is-mean-back : (u a b z : Vector) (c : ℤ) → sign (cross u a -ℤ c) ≡ Minus → sign (cross u b -ℤ c) ≡ Plus → sign (cross u z -ℤ c) ≡ Null → orient a b z ≡ Null → IsMean a b z
meeting-is-mean-back u a b z c ha hb hz on =
    mean-back b a z (meeting-is-mean u b a z c hb ha hz
    (negated-null (orient a b z) (orient b a z) on (sign-reversed (cross (from_to a b) (from_to a z)) (cross (from_to b a) (from_to b z)) (reversed-side a b z))))

-- ---- only one point of an edge is on a line that it crosses
one-number : (k x y r : ℤ) → sign k ≡ Plus → k *ℤ x ≡ r → k *ℤ y ≡ r → x ≡ y
one-number k x y r hk e f =
    let k' = lift k in let x' = lift x in let y' = lift y in let r' = lift r in
    let d : k *ℤ (x -ℤ y) ≡ pos 0 = same (k' ⊠ (x' ⊟ y')) (lift (pos 0)) (omega (arith, apart (k' ⊠ x') r' e, apart (k' ⊠ y') r' f)) in
    let z = null-zero (x -ℤ y) (sym (plus-times k (x -ℤ y) hk) ∙ ap sign d) in omega (arith, ints)

pub meeting-one : (u a b z w : Vector) (c : ℤ) → sign (cross u a -ℤ c) ≡ Plus → sign (cross u b -ℤ c) ≡ Minus → sign (cross u z -ℤ c) ≡ Null → orient a b z ≡ Null → sign (cross u w -ℤ c) ≡ Null → orient a b w ≡ Null → z ≡ w
meeting-one u a b z w c ha hb hz oz hw ow =
    let k = (c -ℤ cross u b) +ℤ (cross u a -ℤ c) in
    let hk : sign k ≡ Plus = plus-sum (c -ℤ cross u b) (cross u a -ℤ c) (difference_turned (cross u b) c hb) ha in
    let zx = drop-zeros (k *ℤ z.x) ((c -ℤ cross u b) *ℤ a.x +ℤ (cross u a -ℤ c) *ℤ b.x) (b.x -ℤ a.x) (cross u z -ℤ c) u.x (cross (from_to a b) (from_to a z)) (null-zero _ hz) (null-zero _ oz) (identity-x u a b z c) in
    let zy = drop-zeros (k *ℤ z.y) ((c -ℤ cross u b) *ℤ a.y +ℤ (cross u a -ℤ c) *ℤ b.y) (b.y -ℤ a.y) (cross u z -ℤ c) u.y (cross (from_to a b) (from_to a z)) (null-zero _ hz) (null-zero _ oz) (identity-y u a b z c) in
    let wx = drop-zeros (k *ℤ w.x) ((c -ℤ cross u b) *ℤ a.x +ℤ (cross u a -ℤ c) *ℤ b.x) (b.x -ℤ a.x) (cross u w -ℤ c) u.x (cross (from_to a b) (from_to a w)) (null-zero _ hw) (null-zero _ ow) (identity-x u a b w c) in
    let wy = drop-zeros (k *ℤ w.y) ((c -ℤ cross u b) *ℤ a.y +ℤ (cross u a -ℤ c) *ℤ b.y) (b.y -ℤ a.y) (cross u w -ℤ c) u.y (cross (from_to a b) (from_to a w)) (null-zero _ hw) (null-zero _ ow) (identity-y u a b w c) in
    same_vector z.x z.y w.x w.y (one-number k z.x w.x _ hk zx wx) (one-number k z.y w.y _ hk zy wy)

pub meeting-one-back : (u a b z w : Vector) (c : ℤ) → sign (cross u a -ℤ c) ≡ Minus → sign (cross u b -ℤ c) ≡ Plus → sign (cross u z -ℤ c) ≡ Null → orient a b z ≡ Null → sign (cross u w -ℤ c) ≡ Null → orient a b w ≡ Null → z ≡ w
meeting-one-back u a b z w c ha hb hz oz hw ow =
    let t = λ (v : Vector) (h : orient a b v ≡ Null). negated-null (orient a b v) (orient b a v) h (sign-reversed (cross (from_to a b) (from_to a v)) (cross (from_to b a) (from_to b v)) (reversed-side a b v)) in
    meeting-one u b a z w c hb ha hz (t z oz) hw (t w ow)
