-- In the tilted plane order and sides are as before, so conflicts are too; and the order of points is that of their heights.
use Rattle.std.proofs.Common.{ap, arith, refl, ◌∙◌, ◌≡◌, ◌≤◌, unsigned_abs, ℤ, ◌*ℤ◌, ◌+ℤ◌, ◌-ℤ◌}
use borrow.Author.Differences.{ints}
use Rattle.plane.specs.Conflict.{conflicts}
use Rattle.plane.specs.Order.{order}
use Rattle.plane.specs.Sign.{Minus, Null, Plus, Sign, sign, then_sign}
use Rattle.plane.specs.Vector.{Vector, cross, from_to}
use Rattle.plane.proofs.SignKit.{lift, same, ◌⊞◌, ◌⊟◌, ◌⊠◌, plus-times, says-at, sign-from}
use Rattle.osm_lattice.specs.declared.loc.Loc.{Loc}
use Rattle.osm_lattice.specs.declared.seg.Seg.{Seg}
use Rattle.osm_lattice.specs.Loc.{vector_of}
use Rattle.osm_lattice.specs.Seg.{edge_of}
use Rattle.osm_lattice.proofs.LatticeKit.{distance_in, rising_edge}
use Rattle.osm_segments.specs.Tilted.{steep, tilt, tilted, tilted_point}

-- ---- sides
pub step-y : (k a b c d : ℤ) → (k *ℤ b +ℤ d) -ℤ (k *ℤ a +ℤ c) ≡ k *ℤ (b -ℤ a) +ℤ (d -ℤ c)
step-y k a b c d =
    let k' = lift k in let a' = lift a in let b' = lift b in let c' = lift c in let d' = lift d in
    same ((k' ⊠ b' ⊞ d') ⊟ (k' ⊠ a' ⊞ c')) (k' ⊠ (b' ⊟ a') ⊞ (d' ⊟ c')) (omega arith)

cross-by : (k p q r s : ℤ) → p *ℤ (k *ℤ s +ℤ r) -ℤ (k *ℤ q +ℤ p) *ℤ r ≡ k *ℤ (p *ℤ s -ℤ q *ℤ r)
cross-by k p q r s =
    let k' = lift k in let p' = lift p in let q' = lift q in let r' = lift r in let s' = lift s in
    same (p' ⊠ (k' ⊠ s' ⊞ r') ⊟ (k' ⊠ q' ⊞ p') ⊠ r') (k' ⊠ (p' ⊠ s' ⊟ q' ⊠ r')) (omega arith)

pub cross-steep : (a b c d : Vector) → cross (from_to (tilt a) (tilt b)) (from_to (tilt c) (tilt d)) ≡ steep *ℤ cross (from_to a b) (from_to c d)
cross-steep a b c d =
    ap (λ (z : ℤ). (b.x -ℤ a.x) *ℤ z -ℤ ((steep *ℤ b.y +ℤ b.x) -ℤ (steep *ℤ a.y +ℤ a.x)) *ℤ (d.x -ℤ c.x)) (step-y steep c.y d.y c.x d.x)
    ∙ ap (λ (z : ℤ). (b.x -ℤ a.x) *ℤ (steep *ℤ (d.y -ℤ c.y) +ℤ (d.x -ℤ c.x)) -ℤ z *ℤ (d.x -ℤ c.x)) (step-y steep a.y b.y a.x b.x)
    ∙ cross-by steep (b.x -ℤ a.x) (b.y -ℤ a.y) (d.x -ℤ c.x) (d.y -ℤ c.y)

pub cross-tilted : (a b c d : Vector) → sign (cross (from_to (tilt a) (tilt b)) (from_to (tilt c) (tilt d))) ≡ sign (cross (from_to a b) (from_to c d))
cross-tilted a b c d = ap sign (cross-steep a b c d) ∙ plus-times steep (cross (from_to a b) (from_to c d)) refl

-- ---- order
height-by : (dy dx : ℤ) (s : Sign) → sign dy ≡ s → unsigned_abs dx ≤ 3_600_000_000 → sign (steep *ℤ dy +ℤ dx) ≡ then_sign s (sign dx)
height-by dy dx Plus h small = let x = says-at Plus dy h in sign-from Plus (steep *ℤ dy +ℤ dx) (omega (arith, ints))
height-by dy dx Minus h small = let x = says-at Minus dy h in sign-from Minus (steep *ℤ dy +ℤ dx) (omega (arith, ints))
height-by dy dx Null h small = let x = says-at Null dy h in ap sign (let e : steep *ℤ dy +ℤ dx ≡ dx = omega (arith, ints) in e)

-- the later point is higher
pub height-tilted : (p q : Loc) → sign ((tilted_point q).y -ℤ (tilted_point p).y) ≡ order (vector_of p) (vector_of q)
height-tilted p q = ap sign (step-y steep p.y q.y p.x q.x) ∙ height-by (q.y -ℤ p.y) (q.x -ℤ p.x) (sign (q.y -ℤ p.y)) refl (distance_in p.x q.x p.x_in q.x_in)

then-twice : (s t : Sign) → then_sign (then_sign s t) t ≡ then_sign s t
then-twice Plus t = refl
then-twice Minus t = refl
then-twice Null Plus = refl
then-twice Null Null = refl
then-twice Null Minus = refl

pub order-tilted : (p q : Loc) → order (tilted_point p) (tilted_point q) ≡ order (vector_of p) (vector_of q)
order-tilted p q = ap (λ s. then_sign s (sign (q.x -ℤ p.x))) (height-tilted p q) ∙ then-twice (sign (q.y -ℤ p.y)) (sign (q.x -ℤ p.x))

-- ---- segments
pub tall-tilted : (s : Seg) → sign ((tilted s).to.y -ℤ (tilted s).from.y) ≡ Plus
tall-tilted s = height-tilted s.a s.b ∙ rising_edge s

pub conflicts-tilted : (s t : Seg) → conflicts (tilted s) (tilted t) ≡ conflicts (edge_of s) (edge_of t)
conflicts-tilted s t =
    let p = vector_of s.a in let q = vector_of s.b in let u = vector_of t.a in let v = vector_of t.b in
    rw (cross-tilted p q p u, cross-tilted p q p v, cross-tilted u v u p, cross-tilted u v u q, order-tilted s.a t.a, order-tilted s.a t.b, order-tilted t.a s.b, order-tilted t.b s.b, order-tilted t.a s.a, order-tilted s.b t.b)
