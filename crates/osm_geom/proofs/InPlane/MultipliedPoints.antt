-- Points are in the order of the plane's points that they are once multiplied, and none has two spellings.
use Rattle.std.proofs.Common.{ap, arith, pos, suc, sym, zero, ℕ, ℤ, ◌*ℤ◌, ◌-ℤ◌, ◌*◌, ◌/◌, ◌∙◌, ◌≡◌, ◌≤◌}
use Rattle.std.proofs.Math.Nat.{div-mul_cancel}
use Rattle.std.proofs.lemmas.Int.{ints}
use Prim.Native.Nat.{◌∣◌}
use Rattle.plane.specs.Order.{order}
use Rattle.plane.specs.Scale.{scaled_point}
use Rattle.plane.specs.Sign.{sign}
use Rattle.plane.specs.Vector.{Vector}
use Rattle.plane.proofs.SignKit.{Split, lift, same, ◌⊟◌, ◌⊠◌, null-zero, plus-times, self-diff}
use Rattle.plane.proofs.PlaneKit.{same_vector, order-scaled}
use Rattle.osm_geom.specs.declared.point.Point.{Point}
use Rattle.osm_geom.specs.Point.{den_of, point_order, whole_of, x_of, y_of}
use Rattle.osm_geom.specs.Span.{height_order}
use Rattle.osm_geom.proofs.GeometryKit.{x_den-some, y_den-some, same_by}
use Rattle.osm_geom.specs.InPlane.Multiple.{point_times}
use Rattle.osm_geom.proofs.InPlane.Commons.{product-some, sign-some}

-- a natural number in an identity
abbrev pub nat : ℕ → Split
nat k = record { z = pos k; p = k; n = 0; is = omega arith }

-- ---- the factor
pub factor : (k d : ℕ) → d ∣ k → (k / d) * d ≡ k
factor k d h = div-mul_cancel d h

factor-by : (q d k : ℕ) → 1 ≤ k → q * d ≡ k → 1 ≤ q
factor-by zero d k some e = absurd (omega arith)
factor-by (suc q) d k some e = omega arith

pub factor-some : (k d : ℕ) → 1 ≤ k → d ∣ k → 1 ≤ k / d
factor-some k d some h = factor-by (k / d) d k some (factor k d h)

-- ---- the order
first-regrouped : (m n d k : ℕ) (x : ℤ) → n * d ≡ k → pos (m * n) *ℤ (pos d *ℤ x) ≡ pos k *ℤ (pos m *ℤ x)
first-regrouped m n d k x e = same (nat (m * n) ⊠ (nat d ⊠ lift x)) (nat (n * d) ⊠ (nat m ⊠ lift x)) (omega arith) ∙ ap (λ c. pos c *ℤ (pos m *ℤ x)) e

second-regrouped : (m n d k : ℕ) (x : ℤ) → m * d ≡ k → pos (m * n) *ℤ (pos d *ℤ x) ≡ pos k *ℤ (pos n *ℤ x)
second-regrouped m n d k x e = same (nat (m * n) ⊠ (nat d ⊠ lift x)) (nat (m * d) ⊠ (nat n ⊠ lift x)) (omega arith) ∙ ap (λ c. pos c *ℤ (pos n *ℤ x)) e

order-regrouped : (m n b d k : ℕ) (p q : Vector) → 1 ≤ k → 1 ≤ m → 1 ≤ n → m * b ≡ k → n * d ≡ k →
    order (scaled_point (pos d) p) (scaled_point (pos b) q) ≡ order (scaled_point (pos m) p) (scaled_point (pos n) q)
order-regrouped m n b d k p q some some_m some_n e f =
    let P = scaled_point (pos d) p in let Q = scaled_point (pos b) q in let S = scaled_point (pos m) p in let T = scaled_point (pos n) q in let c = pos (m * n) in
    let first : scaled_point c P ≡ scaled_point (pos k) S = same_vector (c *ℤ P.x) (c *ℤ P.y) (pos k *ℤ S.x) (pos k *ℤ S.y) (first-regrouped m n d k p.x f) (first-regrouped m n d k p.y f) in
    let second : scaled_point c Q ≡ scaled_point (pos k) T = same_vector (c *ℤ Q.x) (c *ℤ Q.y) (pos k *ℤ T.x) (pos k *ℤ T.y) (second-regrouped m n b k q.x e) (second-regrouped m n b k q.y e) in
    sym (order-scaled c (sign-some (m * n) (product-some m n some_m some_n)) P Q)
    ∙ ap (λ v. order v (scaled_point c Q)) first ∙ ap (order (scaled_point (pos k) S)) second
    ∙ order-scaled (pos k) (sign-some k some) S T

pub order_is : (k : ℕ) (p q : Point) → 1 ≤ k → den_of p ∣ k → den_of q ∣ k → point_order p q ≡ order (point_times k p) (point_times k q)
order_is k p q some in_p in_q =
    order-regrouped (k / den_of p) (k / den_of q) (den_of p) (den_of q) k (whole_of p) (whole_of q) some (factor-some k (den_of p) some in_p) (factor-some k (den_of q) some in_q) (factor k (den_of p) in_p) (factor k (den_of q) in_q)

-- ---- one coordinate: a / b and c / d, once multiplied
weighed : (a c : ℤ) (b d x z m n : ℕ) → pos ((m * x) * (n * z)) *ℤ (c *ℤ pos b -ℤ a *ℤ pos d) ≡ pos (m * (x * b)) *ℤ (pos n *ℤ (c *ℤ pos z)) -ℤ pos (n * (z * d)) *ℤ (pos m *ℤ (a *ℤ pos x))
weighed a c b d x z m n =
    let a' = lift a in let c' = lift c in
    same (nat ((m * x) * (n * z)) ⊠ (c' ⊠ nat b ⊟ a' ⊠ nat d)) (nat (m * (x * b)) ⊠ (nat n ⊠ (c' ⊠ nat z)) ⊟ nat (n * (z * d)) ⊠ (nat m ⊠ (a' ⊠ nat x))) (omega arith)

taken_out : (k : ℕ) (y z : ℤ) → pos k *ℤ y -ℤ pos k *ℤ z ≡ pos k *ℤ (y -ℤ z)
taken_out k y z = same (nat k ⊠ lift y ⊟ nat k ⊠ lift z) (nat k ⊠ (lift y ⊟ lift z)) (omega arith)

coordinate-sign : (a c : ℤ) (b d x z m n k : ℕ) → 1 ≤ k → 1 ≤ m → 1 ≤ n → 1 ≤ x → 1 ≤ z → m * (x * b) ≡ k → n * (z * d) ≡ k →
    sign (c *ℤ pos b -ℤ a *ℤ pos d) ≡ sign (pos n *ℤ (c *ℤ pos z) -ℤ pos m *ℤ (a *ℤ pos x))
coordinate-sign a c b d x z m n k some some_m some_n some_x some_z e f =
    let C = pos n *ℤ (c *ℤ pos z) in let A = pos m *ℤ (a *ℤ pos x) in let w = (m * x) * (n * z) in
    sym (plus-times (pos w) (c *ℤ pos b -ℤ a *ℤ pos d) (sign-some w (product-some (m * x) (n * z) (product-some m x some_m some_x) (product-some n z some_n some_z))))
    ∙ ap sign (weighed a c b d x z m n ∙ ap (λ u. pos u *ℤ C -ℤ pos (n * (z * d)) *ℤ A) e ∙ ap (λ u. pos k *ℤ C -ℤ pos u *ℤ A) f ∙ taken_out k C A)
    ∙ plus-times (pos k) (C -ℤ A) (sign-some k some)

pub swapped : (m x b k : ℕ) → m * (x * b) ≡ k → m * (b * x) ≡ k
swapped m x b k e = omega (arith, e)

module _ (k : ℕ) (p q : Point) (some : 1 ≤ k) (in_p : den_of p ∣ k) (in_q : den_of q ∣ k) where
  pub height_order_is : height_order p q ≡ sign ((point_times k q).y -ℤ (point_times k p).y)
  height_order_is =
      coordinate-sign (y_of p).num (y_of q).num (y_of p).den (y_of q).den (x_of p).den (x_of q).den (k / den_of p) (k / den_of q) k some
      (factor-some k (den_of p) some in_p) (factor-some k (den_of q) some in_q) (x_den-some p) (x_den-some q) (factor k (den_of p) in_p) (factor k (den_of q) in_q)

  side_order_is : sign ((x_of q).num *ℤ pos (x_of p).den -ℤ (x_of p).num *ℤ pos (x_of q).den) ≡ sign ((point_times k q).x -ℤ (point_times k p).x)
  side_order_is =
      coordinate-sign (x_of p).num (x_of q).num (x_of p).den (x_of q).den (y_of p).den (y_of q).den (k / den_of p) (k / den_of q) k some
      (factor-some k (den_of p) some in_p) (factor-some k (den_of q) some in_q) (y_den-some p) (y_den-some q)
      (swapped (k / den_of p) (x_of p).den (y_of p).den k (factor k (den_of p) in_p)) (swapped (k / den_of q) (x_of q).den (y_of q).den k (factor k (den_of q) in_q))

-- ---- one point: its fractions
zero-equal : (a b : ℤ) → b -ℤ a ≡ pos 0 → a ≡ b
zero-equal a b e = omega (arith, ints)

none-between : (u v : ℤ) (z : ℤ) → u ≡ v → sign z ≡ sign (v -ℤ u) → z ≡ pos 0
none-between u v z e h = null-zero z (h ∙ ap (λ w. sign (v -ℤ w)) e ∙ self-diff v)

pub same_is_same : (k : ℕ) (p q : Point) → 1 ≤ k → den_of p ∣ k → den_of q ∣ k → point_times k p ≡ point_times k q → p ≡ q
same_is_same k p q some in_p in_q e =
    let P = point_times k p in let Q = point_times k q in
    let x : (x_of q).num *ℤ pos (x_of p).den -ℤ (x_of p).num *ℤ pos (x_of q).den ≡ pos 0 =
    none-between P.x Q.x ((x_of q).num *ℤ pos (x_of p).den -ℤ (x_of p).num *ℤ pos (x_of q).den) (ap (λ (v : Vector). v.x) e) (side_order_is k p q some in_p in_q) in
    let y : (y_of q).num *ℤ pos (y_of p).den -ℤ (y_of p).num *ℤ pos (y_of q).den ≡ pos 0 =
    none-between P.y Q.y ((y_of q).num *ℤ pos (y_of p).den -ℤ (y_of p).num *ℤ pos (y_of q).den) (ap (λ (v : Vector). v.y) e) (height_order_is k p q some in_p in_q) in
    same_by p q (zero-equal ((x_of p).num *ℤ pos (x_of q).den) ((x_of q).num *ℤ pos (x_of p).den) x) (zero-equal ((y_of p).num *ℤ pos (y_of q).den) ((y_of q).num *ℤ pos (y_of p).den) y)
