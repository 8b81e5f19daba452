-- A step that shares no point with an edge is kept apart from it by a straight line.
use Rattle.std.proofs.Common.{ap, arith, not, pos, refl, subst, sym, true, ℤ, ◌&&◌, ◌*ℤ◌, ◌+ℤ◌, ◌-ℤ◌, ◌↔◌, ◌∙◌, ◌≡◌}
use borrow.Author.Differences.{ints}
use Rattle.plane_lists.specs.Paths.Line.{IsApart, ShareNoPoint}
use Rattle.plane.specs.Edge.{Edge}
use Rattle.plane.specs.RayCrossing.{IsOffEdge, off_by}
use Rattle.plane.specs.Scale.{scaled_point}
use Rattle.plane.specs.Sign.{Minus, Null, Plus, Sign, is_null, negated, sign}
use Rattle.plane.specs.Vector.{IsNonZero, Vector, cross, dot, from_to}
use Rattle.lists.proofs.ListsKit.{same_from_difference}
use Rattle.plane.proofs.PlaneKit.{cross-chain, cross2, direction-from, dot-reversed, dot2, frame-agree, frame-dot-agree, from_to2, lift2, point-once, same_edge_by, same_vector, side-there}
use Rattle.plane.proofs.SignKit.{agree, agree-sum, all4-out, imp, imp-out, is_plus-true, lift, null-first, null-plus, null-zero, plus-null, plus-plus, plus-sum, plus-times, same, same_sign, same_sign-true, sign-reversed, times, ◌⊞◌, ◌⊟◌, ◌⊠◌}
use Rattle.plane_lists.proofs.Paths.BesideInside.{none-of, third-is}
use Rattle.plane_lists.proofs.Paths.Inside.{apart-by-side, way-back}
use Rattle.plane_lists.proofs.Paths.Steps.{cross-turned, mix-by, shares_no_point, turned}

-- ---- identities
ends-differ : (p f t : Vector) → cross (from_to f t) (from_to p f) +ℤ cross (from_to p f) (from_to p t) ≡ pos 0
ends-differ p f t =
    let p' = lift2 p in let f' = lift2 f in let t' = lift2 t in
    same (cross2 (from_to2 f' t') (from_to2 p' f') ⊞ cross2 (from_to2 p' f') (from_to2 p' t')) (lift (pos 0)) (omega arith)

same-line : (p f t : Vector) → cross (from_to f t) (from_to p t) ≡ cross (from_to f t) (from_to p f)
same-line p f t =
    let p' = lift2 p in let f' = lift2 f in let t' = lift2 t in
    same (cross2 (from_to2 f' t') (from_to2 p' t')) (cross2 (from_to2 f' t') (from_to2 p' f')) (omega arith)

mix-dot : (a b : ℤ) (d p q w : Vector) → a *ℤ dot d (from_to p w) +ℤ b *ℤ dot d (from_to q w) ≡ dot d (from_to (record { x = a *ℤ p.x +ℤ b *ℤ q.x; y = a *ℤ p.y +ℤ b *ℤ q.y }) (scaled_point (a +ℤ b) w))
mix-dot a b d p q w =
    let a' = lift a in let b' = lift b in let d' = lift2 d in let p' = lift2 p in let q' = lift2 q in let w' = lift2 w in
    same (a' ⊠ dot2 d' (from_to2 p' w') ⊞ b' ⊠ dot2 d' (from_to2 q' w'))
    (d'.x2 ⊠ ((a' ⊞ b') ⊠ w'.x2 ⊟ (a' ⊠ p'.x2 ⊞ b' ⊠ q'.x2)) ⊞ d'.y2 ⊠ ((a' ⊞ b') ⊠ w'.y2 ⊟ (a' ⊠ p'.y2 ⊞ b' ⊠ q'.y2))) (omega arith)

one-weight : (a b z : ℤ) → a *ℤ z +ℤ b *ℤ z ≡ (a +ℤ b) *ℤ z
one-weight a b z = let a' = lift a in let b' = lift b in let z' = lift z in same (a' ⊠ z' ⊞ b' ⊠ z') ((a' ⊞ b') ⊠ z') (omega arith)

cancel : (x y : ℤ) → (pos 0 -ℤ y) *ℤ x +ℤ x *ℤ y ≡ pos 0
cancel x y = let x' = lift x in let y' = lift y in same ((lift (pos 0) ⊟ y') ⊠ x' ⊞ x' ⊠ y') (lift (pos 0)) (omega arith)

cancel-back : (x y : ℤ) → y *ℤ x +ℤ (pos 0 -ℤ x) *ℤ y ≡ pos 0
cancel-back x y = let x' = lift x in let y' = lift y in same (y' ⊠ x' ⊞ (lift (pos 0) ⊟ x') ⊠ y') (lift (pos 0)) (omega arith)

opposite-sign : (z : ℤ) → sign (pos 0 -ℤ z) ≡ negated (sign z)
opposite-sign z = sign-reversed z (pos 0 -ℤ z) (omega (arith, ints))

-- ---- signs
product-set : (s t : Sign) → agree (times s t) Null Plus ≡ true → (s ≡ t) × (not (is_null s) ≡ true)
product-set Plus Plus h = (refl, refl)
product-set Minus Minus h = (refl, refl)
product-set Plus Minus h = absurd (cc h)
product-set Minus Plus h = absurd (cc h)
product-set Null t h = absurd (cc h)
product-set Plus Null h = absurd (cc h)
product-set Minus Null h = absurd (cc h)

-- x + s * t = 0
turned-product : (x s t r : Sign) → agree (times Plus x) (times s t) (times r Null) ≡ true → x ≡ negated (times s t)
turned-product x s t r h =
    same_sign-true x (negated (times s t)) (imp-out _ _ (all4-out (λ x s t r. imp (agree (times Plus x) (times s t) (times r Null)) λ _. same_sign x (negated (times s t))) refl x s t r) h)

set-product : (s t : Sign) → not (is_null s) ≡ true → (t ≡ Null → ⊥) → negated (times s t) ≡ Null → ⊥
set-product Plus Plus h n e = cc e
set-product Plus Minus h n e = cc e
set-product Minus Plus h n e = cc e
set-product Minus Minus h n e = cc e
set-product Null t h n e = cc h
set-product Plus Null h n e = n refl
set-product Minus Null h n e = n refl

sum-plus : (s t z : Sign) → (s ≡ Minus → ⊥) → (t ≡ Minus → ⊥) → not (is_null s && is_null t) ≡ true → agree s t z ≡ true → z ≡ Plus
sum-plus Minus t z h k n e = absurd (h refl)
sum-plus s Minus z h k n e = absurd (k refl)
sum-plus Null Null z h k n e = absurd (cc n)
sum-plus Null Plus z h k n e = null-plus z e
sum-plus Plus Null z h k n e = plus-null z e
sum-plus Plus Plus z h k n e = plus-plus z e

module _ (p q : Vector) (e : Edge) (d : IsNonZero (from_to e.from e.to)) (h : ShareNoPoint p q e) where
  abbrev F : Vector
  F = from_to e.from e.to

  abbrev G : Vector
  G = from_to p q

  -- ---- the point of the step with the weights a and b, on the line of the edge
  module _ (a b : ℤ) (na : sign a ≡ Minus → ⊥) (nb : sign b ≡ Minus → ⊥) (ab : sign (a +ℤ b) ≡ Plus) (on : a *ℤ cross F (from_to p e.from) +ℤ b *ℤ cross F (from_to q e.from) ≡ pos 0) where
    abbrev x : Vector
    x = record { x = a *ℤ p.x +ℤ b *ℤ q.x; y = a *ℤ p.y +ℤ b *ℤ q.y }

    abbrev Y : Vector
    Y = from_to x (scaled_point (a +ℤ b) e.from)

    abbrev Z : Vector
    Z = from_to x (scaled_point (a +ℤ b) e.to)

    Y-on : cross F Y ≡ pos 0
    Y-on = sym (mix-by a b F p q e.from) ∙ on

    Z-on : cross F Z ≡ pos 0
    Z-on =
        sym (mix-by a b F p q e.to) ∙ ap (λ z. a *ℤ z +ℤ b *ℤ cross F (from_to q e.to)) (same-line p e.from e.to)
        ∙ ap (λ z. a *ℤ cross F (from_to p e.from) +ℤ b *ℤ z) (same-line q e.from e.to) ∙ on

    in-line : sign (cross Y Z) ≡ Null
    in-line =
        let f = frame-agree F Y Z d in
        let g = subst (λ (z : ℤ). agree (times Plus (sign (cross Y Z))) (times (sign (dot F Z)) (sign (cross F Y))) (times (sign (dot F Y)) (sign z)) ≡ true) Z-on f in
        let k = subst (λ (z : ℤ). agree (times Plus (sign (cross Y Z))) (times (sign (dot F Z)) (sign z)) (times (sign (dot F Y)) Null) ≡ true) Y-on g in
        third-is (sign (cross Y Z)) (sign (dot F Z)) (times (sign (dot F Y)) Null) k ∙ none-of (sign (dot F Y)) (times (sign (dot F Y)) Null) refl

    ahead : sign (dot Y Z) ≡ Plus
    ahead = is_plus-true (sign (dot Y Z)) (subst (λ s. off_by s (sign (dot Y Z)) ≡ true) in-line (h a b na nb ab))

    both-ahead : (sign (dot F Y) ≡ sign (dot F Z)) × (not (is_null (sign (dot F Y))) ≡ true)
    both-ahead =
        let f = frame-dot-agree F Y Z d in
        let g = subst (λ (z : ℤ). agree (times (sign (dot F Y)) (sign (dot F Z))) (times (sign z) (sign (cross F Z))) (times Plus (sign (dot Y Z))) ≡ true) Y-on f in
        product-set (sign (dot F Y)) (sign (dot F Z)) (subst (λ s. agree (times (sign (dot F Y)) (sign (dot F Z))) Null (times Plus s) ≡ true) ahead g)

    -- no such point where the edge begins
    pub not-there : a *ℤ dot F (from_to p e.from) +ℤ b *ℤ dot F (from_to q e.from) ≡ pos 0 → ⊥
    not-there z =
        let s = ap sign (sym (mix-dot a b F p q e.from) ∙ z) in let t = ap (λ s. not (is_null s)) s in let u = both-ahead.1 in cc (sym u ∙ t)

    side-of : (w : Vector) → cross F (from_to x (scaled_point (a +ℤ b) w)) ≡ pos 0 → sign (cross G (from_to p w)) ≡ negated (times (sign (dot F (from_to x (scaled_point (a +ℤ b) w)))) (sign (cross F G)))
    side-of w z =
        let W = from_to x (scaled_point (a +ℤ b) w) in
        let f = frame-agree F G W d in
        let g = turned-product (sign (cross G W)) (sign (dot F W)) (sign (cross F G)) (sign (dot F G)) (subst (λ (z : ℤ). agree (times Plus (sign (cross G W))) (times (sign (dot F W)) (sign (cross F G))) (times (sign (dot F G)) (sign z)) ≡ true) z f) in
        let k = mix-by a b G p q w in
        let m : (a +ℤ b) *ℤ cross G (from_to p w) ≡ cross G W = sym (one-weight a b (cross G (from_to p w))) ∙ ap (λ z. a *ℤ cross G (from_to p w) +ℤ b *ℤ z) (sym (side-there p q w)) ∙ k in
        sym (plus-times (a +ℤ b) (cross G (from_to p w)) ab) ∙ ap sign m ∙ g

    along-by : (s : Sign) → sign (cross G (from_to p e.from)) ≡ s → sign (cross G (from_to p e.to)) ≡ s → (s ≡ Null → ⊥) → IsApart p q e
    along-by Plus k l n = record {
      along = G;
      first_from = k;
      first_to = l;
      last_from = ap sign (side-there p q e.from) ∙ k;
      last_to = ap sign (side-there p q e.to) ∙ l;
    }
    along-by Minus k l n = record {
      along = from_to q p;
      first_from = way-back p q (from_to p e.from) ∙ ap negated k;
      first_to = way-back p q (from_to p e.to) ∙ ap negated l;
      last_from = way-back p q (from_to q e.from) ∙ ap negated (ap sign (side-there p q e.from) ∙ k);
      last_to = way-back p q (from_to q e.to) ∙ ap negated (ap sign (side-there p q e.to) ∙ l);
    }
    along-by Null k l n = absurd (n refl)

    pub across-apart : (sign (cross F G) ≡ Null → ⊥) → IsApart p q e
    across-apart n =
        along-by (negated (times (sign (dot F Y)) (sign (cross F G)))) (side-of e.from Y-on) (side-of e.to Z-on ∙ ap (λ s. negated (times s (sign (cross F G)))) (sym both-ahead.0))
        (set-product (sign (dot F Y)) (sign (cross F G)) both-ahead.1 n)

  -- ---- by the sides of p and q
  abbrev A : ℤ
  A = cross F (from_to p e.from)

  abbrev C : ℤ
  C = cross F (from_to q e.from)

  way-sum : cross F G +ℤ C ≡ A
  way-sum = cross-chain F p q e.from

  side-at : (w : Vector) (s : Sign) → sign (cross F (from_to w e.from)) ≡ s → sign (cross (from_to w e.from) (from_to w e.to)) ≡ negated s
  side-at w s k = sign-reversed (cross F (from_to w e.from)) (cross (from_to w e.from) (from_to w e.to)) (ends-differ w e.from e.to) ∙ ap negated k

  not-minus : (z : ℤ) (s : Sign) → sign z ≡ s → (s ≡ Minus → ⊥) → sign z ≡ Minus → ⊥
  not-minus z s k n e = n (sym k ∙ e)

  weights-by : (x y z s t : Sign) → agree x y z ≡ true → x ≡ s → y ≡ t → agree s t z ≡ true
  weights-by x y z s t h k l = subst (λ u. agree s u z ≡ true) l (subst (λ u. agree u y z ≡ true) k h)

  way-set : (s t : Sign) → sign A ≡ s → sign C ≡ t → (t ≡ s → ⊥) → sign (cross F G) ≡ Null → ⊥
  way-set s t k l g e =
      g (null-first (sign (cross F G)) t s (subst (λ u. agree (sign (cross F G)) t u ≡ true) k (subst (λ u. agree (sign (cross F G)) u (sign A) ≡ true) l (agree-sum (cross F G) C A way-sum))) e)

  -- p and q not strictly on one side of the line, nor both on it
  falling : (s t : Sign) → sign A ≡ s → sign C ≡ t → (s ≡ Minus → ⊥) → (negated t ≡ Minus → ⊥) → not (is_null (negated t) && is_null s) ≡ true → (t ≡ s → ⊥) → IsApart p q e
  falling s t k l n m f g =
      let a = pos 0 -ℤ C in let sa = opposite-sign C ∙ ap negated l in
      across-apart a A (not-minus a (negated t) sa m) (not-minus A s k n)
      (sum-plus (negated t) s (sign (a +ℤ A)) m n f (weights-by (sign a) (sign A) (sign (a +ℤ A)) (negated t) s (agree-sum a A (a +ℤ A) refl) sa k))
      (cancel A C) (way-set s t k l g)

  rising : (s t : Sign) → sign A ≡ s → sign C ≡ t → (t ≡ Minus → ⊥) → (negated s ≡ Minus → ⊥) → not (is_null t && is_null (negated s)) ≡ true → (t ≡ s → ⊥) → IsApart p q e
  rising s t k l n m f g =
      let b = pos 0 -ℤ A in let sb = opposite-sign A ∙ ap negated k in
      across-apart C b (not-minus C t l n) (not-minus b (negated s) sb m)
      (sum-plus t (negated s) (sign (C +ℤ b)) n m f (weights-by (sign C) (sign b) (sign (C +ℤ b)) t (negated s) (agree-sum C b (C +ℤ b) refl) l sb))
      (cancel-back A C) (way-set s t k l g)

  -- ---- both on the line
  p-off : IsOffEdge p e
  p-off =
      subst (λ w. IsOffEdge w e) (same_vector (pos 1 *ℤ p.x +ℤ pos 0 *ℤ q.x) (pos 1 *ℤ p.y +ℤ pos 0 *ℤ q.y) p.x p.y (omega (arith, ints)) (omega (arith, ints)))
      (subst (λ f. IsOffEdge (record { x = pos 1 *ℤ p.x +ℤ pos 0 *ℤ q.x; y = pos 1 *ℤ p.y +ℤ pos 0 *ℤ q.y }) f)
      (same_edge_by (scaled_point (pos 1) e.from) (scaled_point (pos 1) e.to) e.from e.to (point-once e.from) (point-once e.to)) (h (pos 1) (pos 0) (λ k. cc k) (λ k. cc k) refl))

  q-off : IsOffEdge q e
  q-off =
      subst (λ w. IsOffEdge w e) (same_vector (pos 0 *ℤ p.x +ℤ pos 1 *ℤ q.x) (pos 0 *ℤ p.y +ℤ pos 1 *ℤ q.y) q.x q.y (omega (arith, ints)) (omega (arith, ints)))
      (subst (λ f. IsOffEdge (record { x = pos 0 *ℤ p.x +ℤ pos 1 *ℤ q.x; y = pos 0 *ℤ p.y +ℤ pos 1 *ℤ q.y }) f)
      (same_edge_by (scaled_point (pos 1) e.from) (scaled_point (pos 1) e.to) e.from e.to (point-once e.from) (point-once e.to)) (h (pos 0) (pos 1) (λ k. cc k) (λ k. cc k) refl))

  on-line : (w : Vector) → IsOffEdge w e → sign (cross F (from_to w e.from)) ≡ Null → (sign (dot F (from_to w e.from)) ≡ sign (dot F (from_to w e.to))) × (not (is_null (sign (dot F (from_to w e.from)))) ≡ true)
  on-line w o k =
      let y = from_to w e.from in let z = from_to w e.to in
      let c = side-at w Null k in
      let g = is_plus-true (sign (dot y z)) (subst (λ s. off_by s (sign (dot y z)) ≡ true) c o) in
      let f = frame-dot-agree F y z d in
      let m = subst (λ s. agree (times (sign (dot F y)) (sign (dot F z))) (times s (sign (cross F z))) (times Plus (sign (dot y z))) ≡ true) k f in
      product-set (sign (dot F y)) (sign (dot F z)) (subst (λ s. agree (times (sign (dot F y)) (sign (dot F z))) Null (times Plus s) ≡ true) g m)

  none-both : (a b : ℤ) → sign A ≡ Null → sign C ≡ Null → a *ℤ A +ℤ b *ℤ C ≡ pos 0
  none-both a b k l =
      ap (λ z. a *ℤ z +ℤ b *ℤ C) (null-zero A k) ∙ ap (λ z. a *ℤ pos 0 +ℤ b *ℤ z) (null-zero C l) ∙ same (lift a ⊠ lift (pos 0) ⊞ lift b ⊠ lift (pos 0)) (lift (pos 0)) (omega arith)

  dots-by : (s t : Sign) → sign A ≡ Null → sign C ≡ Null → sign (dot F (from_to p e.from)) ≡ s → sign (dot F (from_to p e.to)) ≡ s → sign (dot F (from_to q e.from)) ≡ t → sign (dot F (from_to q e.to)) ≡ t →
      not (is_null s) ≡ true → not (is_null t) ≡ true → IsApart p q e
  dots-by Plus Plus k l pf pt qf qt n m = record {
    along = turned F;
    first_from = ap sign (cross-turned F (from_to p e.from)) ∙ pf;
    first_to = ap sign (cross-turned F (from_to p e.to)) ∙ pt;
    last_from = ap sign (cross-turned F (from_to q e.from)) ∙ qf;
    last_to = ap sign (cross-turned F (from_to q e.to)) ∙ qt;
  }
  dots-by Minus Minus k l pf pt qf qt n m = record {
    along = turned (from_to e.to e.from);
    first_from = ap sign (cross-turned (from_to e.to e.from) (from_to p e.from)) ∙ dot-reversed e.from e.to p e.from ∙ ap negated pf;
    first_to = ap sign (cross-turned (from_to e.to e.from) (from_to p e.to)) ∙ dot-reversed e.from e.to p e.to ∙ ap negated pt;
    last_from = ap sign (cross-turned (from_to e.to e.from) (from_to q e.from)) ∙ dot-reversed e.from e.to q e.from ∙ ap negated qf;
    last_to = ap sign (cross-turned (from_to e.to e.from) (from_to q e.to)) ∙ dot-reversed e.from e.to q e.to ∙ ap negated qt;
  }
  dots-by Plus Minus k l pf pt qf qt n m =
      let P = dot F (from_to p e.from) in let Q = dot F (from_to q e.from) in let a = pos 0 -ℤ Q in
      let sa = opposite-sign Q ∙ ap negated qf in
      absurd (not-there a P (not-minus a Plus sa (λ k. cc k)) (not-minus P Plus pf (λ k. cc k)) (plus-sum a P sa pf) (none-both a P k l) (cancel P Q))
  dots-by Minus Plus k l pf pt qf qt n m =
      let P = dot F (from_to p e.from) in let Q = dot F (from_to q e.from) in let b = pos 0 -ℤ P in
      let sb = opposite-sign P ∙ ap negated pf in
      absurd (not-there Q b (not-minus Q Plus qf (λ k. cc k)) (not-minus b Plus sb (λ k. cc k)) (plus-sum Q b qf sb) (none-both Q b k l) (cancel-back P Q))
  dots-by Null t k l pf pt qf qt n m = absurd (cc n)
  dots-by Plus Null k l pf pt qf qt n m = absurd (cc m)
  dots-by Minus Null k l pf pt qf qt n m = absurd (cc m)

  on-both : sign A ≡ Null → sign C ≡ Null → IsApart p q e
  on-both k l =
      let x = on-line p p-off k in let y = on-line q q-off l in
      dots-by (sign (dot F (from_to p e.from))) (sign (dot F (from_to q e.from))) k l refl (sym x.0) refl (sym y.0) x.1 y.1

  apart-cases : (s t : Sign) → sign A ≡ s → sign C ≡ t → IsApart p q e
  apart-cases Plus Plus k l = apart-by-side p q e Minus (side-at p Plus k) (side-at q Plus l) (λ z. cc z)
  apart-cases Minus Minus k l = apart-by-side p q e Plus (side-at p Minus k) (side-at q Minus l) (λ z. cc z)
  apart-cases Null Null k l = on-both k l
  apart-cases Plus Minus k l = falling Plus Minus k l (λ z. cc z) (λ z. cc z) refl (λ z. cc z)
  apart-cases Plus Null k l = falling Plus Null k l (λ z. cc z) (λ z. cc z) refl (λ z. cc z)
  apart-cases Null Minus k l = falling Null Minus k l (λ z. cc z) (λ z. cc z) refl (λ z. cc z)
  apart-cases Minus Plus k l = rising Minus Plus k l (λ z. cc z) (λ z. cc z) refl (λ z. cc z)
  apart-cases Minus Null k l = rising Minus Null k l (λ z. cc z) (λ z. cc z) refl (λ z. cc z)
  apart-cases Null Plus k l = rising Null Plus k l (λ z. cc z) (λ z. cc z) refl (λ z. cc z)

  pub kept-apart : IsApart p q e
  kept-apart = apart-cases (sign A) (sign C) refl refl

edge-direction : (e : Edge) → (e.from ≡ e.to → ⊥) → IsNonZero (from_to e.from e.to)
edge-direction e n =
    direction-from (from_to e.from e.to) (λ k l. n (same_vector e.from.x e.from.y e.to.x e.to.y (sym (same_from_difference e.to.x e.from.x k)) (sym (same_from_difference e.to.y e.from.y l))))

pub apart-exactly : (p q : Vector) (e : Edge) → (e.from ≡ e.to → ⊥) → IsApart p q e ↔ ShareNoPoint p q e
apart-exactly p q e n = (shares_no_point p q e, kept-apart p q e (edge-direction e n))
