-- Steps that a straight line keeps apart from an edge.
use Rattle.std.proofs.Common.{Bool, ap, arith, refl, subst, sym, true, ◌∙◌, ◌≡◌}
use lib.IntN.{pos, ℤ, ◌*ℤ◌, ◌+ℤ◌, ◌-ℤ◌}
use Rattle.plane_lists.specs.Paths.Line.{IsApart, IsLeftAlong}
use Rattle.plane.specs.Edge.{Edge}
use Rattle.plane.specs.RayCrossing.{IsOffEdge, off_by}
use Rattle.plane.specs.Scale.{scaled_edge, scaled_point}
use Rattle.plane.specs.Sign.{Minus, Null, Plus, Sign, negated, sign}
use Rattle.plane.specs.Vector.{IsNonZero, Vector, cross, dot, from_to}
use Rattle.plane.proofs.PlaneKit.{cross-direction, cross-negated, cross-times, cross2, direction-from, dot2, frame-agree, frame-dot-agree, from_to-scaled, from_to2, lift2}
use Rattle.plane.proofs.SignKit.{agree, agree-sum, all4-out, imp, imp-out, is_plus-true, lift, null-plus, plus-null, plus-plus, plus-times, same, sign-*, times, ◌⊞◌, ◌⊟◌, ◌⊠◌}

pub apart-back : (p q : Vector) (e : Edge) → IsApart p q e → IsApart q p e
apart-back p q e a = record { along = a.along; first_from = a.last_from; first_to = a.last_to; last_from = a.first_from; last_to = a.first_to }

-- ---- multiplied
pub left-times : (k : ℤ) → sign k ≡ Plus → (d p w : Vector) → sign (cross d (from_to (scaled_point k p) (scaled_point k w))) ≡ sign (cross d (from_to p w))
left-times k hk d p w =
    ap (λ (v : Vector). sign (cross d v)) (from_to-scaled k hk p w) ∙ ap sign (cross-times k d (from_to p w)) ∙ plus-times k (cross d (from_to p w)) hk

pub apart-times : (k : ℤ) → sign k ≡ Plus → (p q : Vector) (e : Edge) → IsApart p q e → IsApart (scaled_point k p) (scaled_point k q) (scaled_edge k e)
apart-times k hk p q e a = record {
  along = a.along;
  first_from = left-times k hk a.along p e.from ∙ a.first_from;
  first_to = left-times k hk a.along p e.to ∙ a.first_to;
  last_from = left-times k hk a.along q e.from ∙ a.last_from;
  last_to = left-times k hk a.along q e.to ∙ a.last_to;
}

-- ---- a point is off an edge exactly where a line keeps the two apart
abbrev pub turned : Vector → Vector
turned a = record { x = a.y; y = pos 0 -ℤ a.x }

pub cross-turned : (a w : Vector) → cross (turned a) w ≡ dot a w
cross-turned a w =
    let a' = lift2 a in let w' = lift2 w in
    same (a'.y2 ⊠ w'.y2 ⊟ (lift (pos 0) ⊟ a'.x2) ⊠ w'.x2) (dot2 a' w') (omega arith)

-- the line along the edge, as a point beside it sees the ends
pub back-from : (p f t : Vector) → cross (from_to t f) (from_to p f) ≡ cross (from_to p f) (from_to p t)
back-from p f t =
    let p' = lift2 p in let f' = lift2 f in let t' = lift2 t in
    same (cross2 (from_to2 t' f') (from_to2 p' f')) (cross2 (from_to2 p' f') (from_to2 p' t')) (omega arith)

pub back-to : (p f t : Vector) → cross (from_to t f) (from_to p t) ≡ cross (from_to p f) (from_to p t)
back-to p f t =
    let p' = lift2 p in let f' = lift2 f in let t' = lift2 t in
    same (cross2 (from_to2 t' f') (from_to2 p' t')) (cross2 (from_to2 p' f') (from_to2 p' t')) (omega arith)

pub none-null : (a b : Vector) → a.x ≡ pos 0 → a.y ≡ pos 0 → dot a b ≡ pos 0
none-null a b h k =
    ap (λ z. z *ℤ b.x +ℤ a.y *ℤ b.y) h ∙ ap (λ z. pos 0 *ℤ b.x +ℤ z *ℤ b.y) k
    ∙ same (lift (pos 0) ⊠ lift b.x ⊞ lift (pos 0) ⊠ lift b.y) (lift (pos 0)) (omega arith)

pub dot-direction : (a b : Vector) → sign (dot a b) ≡ Plus → IsNonZero a
dot-direction a b h = direction-from a (λ k l. let z = ap sign (none-null a b k l) in cc (sym h ∙ z))

off-by-cross : (p : Vector) (e : Edge) (s : Sign) → sign (cross (from_to p e.from) (from_to p e.to)) ≡ s → off_by s (sign (dot (from_to p e.from) (from_to p e.to))) ≡ true → IsApart p p e
off-by-cross p e Plus h o =
    let a : IsLeftAlong (from_to e.to e.from) p e.from = ap sign (back-from p e.from e.to) ∙ h in
    let b : IsLeftAlong (from_to e.to e.from) p e.to = ap sign (back-to p e.from e.to) ∙ h in
    record { along = from_to e.to e.from; first_from = a; first_to = b; last_from = a; last_to = b }
off-by-cross p e Minus h o =
    let n : sign (cross (from_to p e.to) (from_to p e.from)) ≡ Plus = cross-negated (from_to p e.from) (from_to p e.to) ∙ ap negated h in
    let a : IsLeftAlong (from_to e.from e.to) p e.from = ap sign (back-to p e.to e.from) ∙ n in
    let b : IsLeftAlong (from_to e.from e.to) p e.to = ap sign (back-from p e.to e.from) ∙ n in
    record { along = from_to e.from e.to; first_from = a; first_to = b; last_from = a; last_to = b }
off-by-cross p e Null h o =
    let f = from_to p e.from in
    let d = is_plus-true (sign (dot f (from_to p e.to))) o in
    let a : IsLeftAlong (turned f) p e.from = ap sign (cross-turned f f) ∙ dot-direction f (from_to p e.to) d in
    let b : IsLeftAlong (turned f) p e.to = ap sign (cross-turned f (from_to p e.to)) ∙ d in
    record { along = turned f; first_from = a; first_to = b; last_from = a; last_to = b }

pub off-apart : (p : Vector) (e : Edge) → IsOffEdge p e → IsApart p p e
off-apart p e o = off-by-cross p e (sign (cross (from_to p e.from) (from_to p e.to))) refl o

abbrev off_1 : Sign → Sign → Sign → Sign → Bool
off_1 x y c s = imp (agree (times Plus c) (times y Plus) (times x Plus)) λ _. imp (agree (times x y) (times Plus Plus) (times Plus s)) λ _. off_by c s

pub apart-off : (p q : Vector) (e : Edge) → IsApart p q e → IsOffEdge p e
apart-off p q e a =
    let d = a.along in let u = from_to p e.from in let v = from_to p e.to in
    let z = cross-direction d u a.first_from in
    let f = rw (a.first_from, a.first_to) at (frame-agree d u v z) in
    let g = rw (a.first_from, a.first_to) at (frame-dot-agree d u v z) in
    imp-out _ _ (imp-out _ _ (all4-out off_1 refl (sign (dot d u)) (sign (dot d v)) (sign (cross u v)) (sign (dot u v))) f) g

-- ---- a point of the step
pub mix-by : (a b : ℤ) (d p q w : Vector) → a *ℤ cross d (from_to p w) +ℤ b *ℤ cross d (from_to q w) ≡ cross d (from_to (record { x = a *ℤ p.x +ℤ b *ℤ q.x; y = a *ℤ p.y +ℤ b *ℤ q.y }) (scaled_point (a +ℤ b) w))
mix-by a b d p q w =
    let a' = lift a in let b' = lift b in let d' = lift2 d in let p' = lift2 p in let q' = lift2 q in let w' = lift2 w in
    same (a' ⊠ cross2 d' (from_to2 p' w') ⊞ b' ⊠ cross2 d' (from_to2 q' w'))
    (d'.x2 ⊠ ((a' ⊞ b') ⊠ w'.y2 ⊟ (a' ⊠ p'.y2 ⊞ b' ⊠ q'.y2)) ⊟ d'.y2 ⊠ ((a' ⊞ b') ⊠ w'.x2 ⊟ (a' ⊠ p'.x2 ⊞ b' ⊠ q'.x2))) (omega arith)

mixed : (a b z : Sign) → (a ≡ Minus → ⊥) → (b ≡ Minus → ⊥) → agree a b Plus ≡ true → agree (times a Plus) (times b Plus) z ≡ true → z ≡ Plus
mixed Minus b z h k p e = absurd (h refl)
mixed a Minus z h k p e = absurd (k refl)
mixed Null Null z h k p e = absurd (cc p)
mixed Null Plus z h k p e = null-plus z e
mixed Plus Null z h k p e = plus-null z e
mixed Plus Plus z h k p e = plus-plus z e

pub apart-mix : (p q : Vector) (e : Edge) → IsApart p q e → (a b : ℤ) → (sign a ≡ Minus → ⊥) → (sign b ≡ Minus → ⊥) → sign (a +ℤ b) ≡ Plus →
    IsApart (record { x = a *ℤ p.x +ℤ b *ℤ q.x; y = a *ℤ p.y +ℤ b *ℤ q.y }) (record { x = a *ℤ p.x +ℤ b *ℤ q.x; y = a *ℤ p.y +ℤ b *ℤ q.y }) (scaled_edge (a +ℤ b) e)
apart-mix p q e i a b ha hb k =
    let d = i.along in let x : Vector = record { x = a *ℤ p.x +ℤ b *ℤ q.x; y = a *ℤ p.y +ℤ b *ℤ q.y } in
    let s = subst (λ z. agree (sign a) (sign b) z ≡ true) k (agree-sum a b (a +ℤ b) refl) in
    let at = λ (w : Vector) (h : IsLeftAlong d p w) (l : IsLeftAlong d q w).
    mixed (sign a) (sign b) (sign (cross d (from_to x (scaled_point (a +ℤ b) w)))) ha hb s
    (let g = agree-sum (a *ℤ cross d (from_to p w)) (b *ℤ cross d (from_to q w)) (cross d (from_to x (scaled_point (a +ℤ b) w))) (mix-by a b d p q w) in
    subst (λ k. agree (times (sign a) Plus) (times (sign b) k) (sign (cross d (from_to x (scaled_point (a +ℤ b) w)))) ≡ true) l
    (subst (λ k. agree (times (sign a) k) (times (sign b) (sign (cross d (from_to q w)))) (sign (cross d (from_to x (scaled_point (a +ℤ b) w)))) ≡ true) h
    (rw (sign-* a (cross d (from_to p w)), sign-* b (cross d (from_to q w))) at g))) in
    let u = at e.from i.first_from i.last_from in let v = at e.to i.first_to i.last_to in
    record { along = d; first_from = u; first_to = v; last_from = u; last_to = v }

-- from the first point of a step to any of its points
pub apart-until : (p q : Vector) (e : Edge) → IsApart p q e → (a b : ℤ) → (sign a ≡ Minus → ⊥) → (sign b ≡ Minus → ⊥) → sign (a +ℤ b) ≡ Plus →
    IsApart (scaled_point (a +ℤ b) p) (record { x = a *ℤ p.x +ℤ b *ℤ q.x; y = a *ℤ p.y +ℤ b *ℤ q.y }) (scaled_edge (a +ℤ b) e)
unfolding apart-mix
apart-until p q e i a b ha hb k =
    let x = apart-mix p q e i a b ha hb k in
    record { along = i.along; first_from = left-times (a +ℤ b) k i.along p e.from ∙ i.first_from; first_to = left-times (a +ℤ b) k i.along p e.to ∙ i.first_to; last_from = x.last_from; last_to = x.last_to }

pub shares_no_point : (p q : Vector) (e : Edge) → IsApart p q e → (a b : ℤ) → (sign a ≡ Minus → ⊥) → (sign b ≡ Minus → ⊥) → sign (a +ℤ b) ≡ Plus →
    IsOffEdge (record { x = a *ℤ p.x +ℤ b *ℤ q.x; y = a *ℤ p.y +ℤ b *ℤ q.y }) (scaled_edge (a +ℤ b) e)
shares_no_point p q e i a b ha hb k =
    let x : Vector = record { x = a *ℤ p.x +ℤ b *ℤ q.x; y = a *ℤ p.y +ℤ b *ℤ q.y } in
    apart-off x x (scaled_edge (a +ℤ b) e) (apart-mix p q e i a b ha hb k)
