-- Vectors that point in one direction have products of the same signs.
use Rattle.std.proofs.Common.{ap, arith, pos, refl, sym, ℤ, ◌*ℤ◌, ◌+ℤ◌, ◌-ℤ◌, ◌∙◌, ◌≡◌}
use Rattle.plane.specs.Scale.{scaled_point}
use Rattle.plane.specs.Sector.{in_sector}
use Rattle.plane.specs.Sign.{Null, Plus, sign}
use Rattle.plane.specs.Vector.{IsNonZero, Vector, cross, dot}
use Rattle.plane.proofs.SignKit.{lift, same, ◌⊞◌, ◌⊟◌, ◌⊠◌, null-zero, plus-times}
use Rattle.plane.proofs.PlaneKit.{same_vector, cross-times}
use Rattle.osm_geom.specs.Edge.{opposite}
use Rattle.osm_geom.specs.InPlane.OneDirection.{HaveOneDirection}

cross_left-by : (n a b c d : ℤ) → (n *ℤ a) *ℤ d -ℤ (n *ℤ b) *ℤ c ≡ n *ℤ (a *ℤ d -ℤ b *ℤ c)
cross_left-by n a b c d =
    let n' = lift n in let a' = lift a in let b' = lift b in let c' = lift c in let d' = lift d in
    same ((n' ⊠ a') ⊠ d' ⊟ (n' ⊠ b') ⊠ c') (n' ⊠ (a' ⊠ d' ⊟ b' ⊠ c')) (omega arith)

dot_left-by : (n a b c d : ℤ) → (n *ℤ a) *ℤ c +ℤ (n *ℤ b) *ℤ d ≡ n *ℤ (a *ℤ c +ℤ b *ℤ d)
dot_left-by n a b c d =
    let n' = lift n in let a' = lift a in let b' = lift b in let c' = lift c in let d' = lift d in
    same ((n' ⊠ a') ⊠ c' ⊞ (n' ⊠ b') ⊠ d') (n' ⊠ (a' ⊠ c' ⊞ b' ⊠ d')) (omega arith)

dot_right-by : (n a b c d : ℤ) → a *ℤ (n *ℤ c) +ℤ b *ℤ (n *ℤ d) ≡ n *ℤ (a *ℤ c +ℤ b *ℤ d)
dot_right-by n a b c d =
    let n' = lift n in let a' = lift a in let b' = lift b in let c' = lift c in let d' = lift d in
    same (a' ⊠ (n' ⊠ c') ⊞ b' ⊠ (n' ⊠ d')) (n' ⊠ (a' ⊠ c' ⊞ b' ⊠ d')) (omega arith)

pub cross-left : (n : ℤ) (v w : Vector) → sign n ≡ Plus → sign (cross (scaled_point n v) w) ≡ sign (cross v w)
cross-left n v w h = ap sign (cross_left-by n v.x v.y w.x w.y) ∙ plus-times n (cross v w) h

pub cross-right : (n : ℤ) (v w : Vector) → sign n ≡ Plus → sign (cross v (scaled_point n w)) ≡ sign (cross v w)
cross-right n v w h = ap sign (cross-times n v w) ∙ plus-times n (cross v w) h

dot-left : (n : ℤ) (v w : Vector) → sign n ≡ Plus → sign (dot (scaled_point n v) w) ≡ sign (dot v w)
dot-left n v w h = ap sign (dot_left-by n v.x v.y w.x w.y) ∙ plus-times n (dot v w) h

dot-right : (n : ℤ) (v w : Vector) → sign n ≡ Plus → sign (dot v (scaled_point n w)) ≡ sign (dot v w)
dot-right n v w h = ap sign (dot_right-by n v.x v.y w.x w.y) ∙ plus-times n (dot v w) h

pub dot-both : (n : ℤ) (v w : Vector) → sign n ≡ Plus → sign (dot (scaled_point n v) (scaled_point n w)) ≡ sign (dot v w)
dot-both n v w h = dot-left n v (scaled_point n w) h ∙ dot-right n v w h

pub along-cross : (v w d e : Vector) → HaveOneDirection v d → HaveOneDirection w e → sign (cross v w) ≡ sign (cross d e)
along-cross v w d e a b =
    sym (cross-left a.m v w a.m_positive) ∙ ap (λ u. sign (cross u w)) a.same ∙ cross-left a.n d w a.n_positive
    ∙ sym (cross-right b.m d w b.m_positive) ∙ ap (λ u. sign (cross d u)) b.same ∙ cross-right b.n d e b.n_positive

pub along-dot : (v w d e : Vector) → HaveOneDirection v d → HaveOneDirection w e → sign (dot v w) ≡ sign (dot d e)
along-dot v w d e a b =
    sym (dot-left a.m v w a.m_positive) ∙ ap (λ u. sign (dot u w)) a.same ∙ dot-left a.n d w a.n_positive
    ∙ sym (dot-right b.m d w b.m_positive) ∙ ap (λ u. sign (dot d u)) b.same ∙ dot-right b.n d e b.n_positive

-- ---- a vector on the line of a direction, on its side
part_x : (a b c d z : ℤ) → a *ℤ d -ℤ b *ℤ c ≡ z → (a *ℤ a +ℤ b *ℤ b) *ℤ c +ℤ b *ℤ z ≡ (a *ℤ c +ℤ b *ℤ d) *ℤ a
part_x a b c d z e =
    let a' = lift a in let b' = lift b in let c' = lift c in let d' = lift d in
    ap (λ k. (a *ℤ a +ℤ b *ℤ b) *ℤ c +ℤ b *ℤ k) (sym e)
    ∙ same ((a' ⊠ a' ⊞ b' ⊠ b') ⊠ c' ⊞ b' ⊠ (a' ⊠ d' ⊟ b' ⊠ c')) ((a' ⊠ c' ⊞ b' ⊠ d') ⊠ a') (omega arith)

part_y : (a b c d z : ℤ) → a *ℤ d -ℤ b *ℤ c ≡ z → (a *ℤ a +ℤ b *ℤ b) *ℤ d -ℤ a *ℤ z ≡ (a *ℤ c +ℤ b *ℤ d) *ℤ b
part_y a b c d z e =
    let a' = lift a in let b' = lift b in let c' = lift c in let d' = lift d in
    ap (λ k. (a *ℤ a +ℤ b *ℤ b) *ℤ d -ℤ a *ℤ k) (sym e)
    ∙ same ((a' ⊠ a' ⊞ b' ⊠ b') ⊠ d' ⊟ a' ⊠ (a' ⊠ d' ⊟ b' ⊠ c')) ((a' ⊠ c' ⊞ b' ⊠ d') ⊠ b') (omega arith)

plus-zero : (x b : ℤ) → x ≡ x +ℤ b *ℤ pos 0
plus-zero x b = let x' = lift x in let b' = lift b in same x' (x' ⊞ b' ⊠ lift (pos 0)) (omega arith)

minus-zero : (x b : ℤ) → x ≡ x -ℤ b *ℤ pos 0
minus-zero x b = let x' = lift x in let b' = lift b in same x' (x' ⊟ b' ⊠ lift (pos 0)) (omega arith)

pub along-from : (d w : Vector) → IsNonZero d → sign (cross d w) ≡ Null → sign (dot d w) ≡ Plus → HaveOneDirection w d
along-from d w direction on ahead = record {
  m = dot d d;
  n = dot d w;
  m_positive = direction;
  n_positive = ahead;
  same = let z = null-zero (cross d w) on in
      same_vector (dot d d *ℤ w.x) (dot d d *ℤ w.y) (dot d w *ℤ d.x) (dot d w *ℤ d.y)
      (plus-zero (dot d d *ℤ w.x) d.y ∙ part_x d.x d.y w.x w.y (pos 0) z) (minus-zero (dot d d *ℤ w.y) d.x ∙ part_y d.x d.y w.x w.y (pos 0) z);
}

-- ---- sectors, and the way back
pub along-sector : (u v w c d e : Vector) → HaveOneDirection u c → HaveOneDirection v d → HaveOneDirection w e → in_sector u v w ≡ in_sector c d e
along-sector u v w c d e a b g =
    rw (along-dot u w c e a g, along-cross u w c e a g, along-dot u v c d a b, along-cross u v c d a b, along-cross v w d e b g) refl

back-by : (m n a b : ℤ) → m *ℤ a ≡ n *ℤ b → m *ℤ (pos 0 -ℤ a) ≡ n *ℤ (pos 0 -ℤ b)
back-by m n a b e =
    let m' = lift m in let n' = lift n in let a' = lift a in let b' = lift b in let o = lift (pos 0) in
    same (m' ⊠ (o ⊟ a')) (o ⊟ m' ⊠ a') (omega arith) ∙ ap (λ z. pos 0 -ℤ z) e ∙ same (o ⊟ n' ⊠ b') (n' ⊠ (o ⊟ b')) (omega arith)

pub along-opposite : (v d : Vector) → HaveOneDirection v d → HaveOneDirection (opposite v) (opposite d)
along-opposite v d a = record {
  m = a.m;
  n = a.n;
  m_positive = a.m_positive;
  n_positive = a.n_positive;
  same = same_vector (a.m *ℤ (pos 0 -ℤ v.x)) (a.m *ℤ (pos 0 -ℤ v.y)) (a.n *ℤ (pos 0 -ℤ d.x)) (a.n *ℤ (pos 0 -ℤ d.y))
      (back-by a.m a.n v.x d.x (ap (λ (w : Vector). w.x) a.same)) (back-by a.m a.n v.y d.y (ap (λ (w : Vector). w.y) a.same));
}
