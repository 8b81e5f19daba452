-- The ends of parts on the line, in order along it.
use Rattle.std.proofs.Common.{Bool, ap, arith, not, refl, subst, sym, true, ℕ, ◌&&◌, ◌||◌, ◌∙◌, ◌≡◌}
use borrow.Author.Differences.{ints}
use lib.IntN.{pos, ℤ, ◌*ℤ◌, ◌+ℤ◌, ◌-ℤ◌}
use Rattle.plane.specs.Bit.{bit}
use Rattle.plane.specs.Edge.{Edge}
use Rattle.plane.specs.RayCrossing.{IsOffEdge, down_by, up_by}
use Rattle.plane.specs.Scale.{scaled_edge, scaled_point}
use Rattle.plane.specs.Sign.{Minus, Null, Plus, Sign, is_minus, is_null, is_plus, negated, sign}
use Rattle.plane.specs.Vector.{IsNonZero, Vector, cross, dot, from_to}
use Rattle.plane_lists.specs.Halves.Line.{Line, has_part, order_along, scaled_line, side}
use Rattle.plane.proofs.PlaneKit.{crossings_seen, same_vector, cross2, dot-chain, dot-here, dot2, frame-agree, from_to2, lift2, dot-there_back, off_by-set}
use Rattle.plane.proofs.SignKit.{lift, same, ◌⊞◌, ◌⊟◌, ◌⊠◌, agree, agree-sum, all-out, both, imp, imp-out, left-out, null-zero, plus-times, right-out, same_bool, same_bool-true, same_sign, same_sign-true, sign-reversed, times, null-first, all3-out, same_bool-is, not-null-negated, minus_zeros}
use Rattle.plane_lists.proofs.Halves.Sides.{off-level, rise, side-sum}

-- ---- points on the line
pub along-sum : (l : Line) (p q r : Vector) → agree (order_along l p q) (order_along l q r) (order_along l p r) ≡ true
along-sum l p q r = agree-sum (dot l.along (from_to p q)) (dot l.along (from_to q r)) (dot l.along (from_to p r)) (dot-chain l.along p q r)

pub along-self : (l : Line) (p : Vector) → order_along l p p ≡ Null
along-self l p = ap sign (dot-here l.along p)

pub along-negated : (l : Line) (p q : Vector) → order_along l q p ≡ negated (order_along l p q)
along-negated l p q = sign-reversed (dot l.along (from_to p q)) (dot l.along (from_to q p)) (dot-there_back l.along p q)

-- on the line, what is level with a point rises from it by nothing
pub rise-null : (l : Line) (p v : Vector) → side l p ≡ Null → side l v ≡ Null → rise l p v ≡ Null
rise-null l p v hp hv =
    let h = subst (λ s. agree s (rise l p v) (side l v) ≡ true) hp (side-sum l p v) in
    let k = subst (λ s. agree Null (rise l p v) s ≡ true) hv h in
    same_sign-true (rise l p v) Null (imp-out _ _ (all-out (λ x. imp (agree Null x Null) λ _. same_sign x Null) refl (rise l p v)) k)

x-by : (u d : Vector) → dot u u *ℤ d.x ≡ u.x *ℤ dot u d -ℤ u.y *ℤ cross u d
x-by u d = let u' = lift2 u in let d' = lift2 d in same (dot2 u' u' ⊠ d'.x2) (u'.x2 ⊠ dot2 u' d' ⊟ u'.y2 ⊠ cross2 u' d') (omega arith)

y-by : (u d : Vector) → dot u u *ℤ d.y ≡ u.y *ℤ dot u d +ℤ u.x *ℤ cross u d
y-by u d = let u' = lift2 u in let d' = lift2 d in same (dot2 u' u' ⊠ d'.y2) (u'.y2 ⊠ dot2 u' d' ⊞ u'.x2 ⊠ cross2 u' d') (omega arith)

plus-zeros : (a b x y : ℤ) → x ≡ pos 0 → y ≡ pos 0 → a *ℤ x +ℤ b *ℤ y ≡ pos 0
plus-zeros a b x y h k =
    ap (λ (z : ℤ). a *ℤ z +ℤ b *ℤ y) h ∙ ap (λ (z : ℤ). a *ℤ pos 0 +ℤ b *ℤ z) k ∙ (let a' = lift a in let b' = lift b in same (a' ⊠ lift (pos 0) ⊞ b' ⊠ lift (pos 0)) (lift (pos 0)) (omega arith))

no-difference : (a b : ℤ) → sign (b -ℤ a) ≡ Null → a ≡ b
no-difference a b h = let z = null-zero (b -ℤ a) h in omega (arith, ints)

-- points on the line at one place are one
pub one-place : (l : Line) (p q : Vector) → IsNonZero l.along → side l p ≡ Null → side l q ≡ Null → order_along l p q ≡ Null → p ≡ q
one-place l p q d hp hq h =
    let u = l.along in let e = from_to p q in
    let dz = null-zero (dot u e) h in let cz = null-zero (cross u e) (rise-null l p q hp hq) in
    let x = sym (plus-times (dot u u) e.x d) ∙ ap sign (x-by u e ∙ minus_zeros u.x u.y (dot u e) (cross u e) dz cz) in
    let y = sym (plus-times (dot u u) e.y d) ∙ ap sign (y-by u e ∙ plus-zeros u.y u.x (dot u e) (cross u e) dz cz) in
    same_vector p.x p.y q.x q.y (no-difference p.x q.x x) (no-difference p.y q.y y)

-- ---- ends after a point of the line
abbrev pub after : Line → Vector → Vector → ℕ
after l z v = bit (is_null (side l v) && is_plus (order_along l z v))

-- v isn't strictly between z and w
abbrev pub IsApart : Line → Vector → Vector → Vector → Type 0
IsApart l z w v = is_plus (order_along l z v) ≡ not (is_minus (order_along l w v))

abbrev pub middle : Vector → Vector → Vector
middle z w = record { x = z.x +ℤ w.x; y = z.y +ℤ w.y }

pub two-plus : sign (pos 2) ≡ Plus
two-plus = refl

middle-dot : (u z w v : Vector) → dot u (from_to z v) +ℤ dot u (from_to w v) ≡ dot u (from_to (middle z w) (scaled_point (pos 2) v))
middle-dot u z w v =
    let u' = lift2 u in let z' = lift2 z in let w' = lift2 w in let v' = lift2 v in let k = lift (pos 2) in
    same (dot2 u' (from_to2 z' v') ⊞ dot2 u' (from_to2 w' v')) (u'.x2 ⊠ (k ⊠ v'.x2 ⊟ (z'.x2 ⊞ w'.x2)) ⊞ u'.y2 ⊠ (k ⊠ v'.y2 ⊟ (z'.y2 ⊞ w'.y2))) (omega arith)

middle-level : (u z w : Vector) (c : ℤ) → (cross u z -ℤ c) +ℤ (cross u w -ℤ c) ≡ cross u (middle z w) -ℤ pos 2 *ℤ c
middle-level u z w c =
    let u' = lift2 u in let z' = lift2 z in let w' = lift2 w in let c' = lift c in let k = lift (pos 2) in
    same ((cross2 u' z' ⊟ c') ⊞ (cross2 u' w' ⊟ c')) ((u'.x2 ⊠ (z'.y2 ⊞ w'.y2) ⊟ u'.y2 ⊠ (z'.x2 ⊞ w'.x2)) ⊟ k ⊠ c') (omega arith)

sum-null : (x y z : Sign) → agree x y z ≡ true → x ≡ Null → y ≡ Null → z ≡ Null
sum-null x y z h a b = sym (null-first x y z h a) ∙ b

pub middle-side : (l : Line) (z w : Vector) → side l z ≡ Null → side l w ≡ Null → side (scaled_line (pos 2) l) (middle z w) ≡ Null
middle-side l z w hz hw =
    sum-null (side l z) (side l w) (side (scaled_line (pos 2) l) (middle z w))
    (agree-sum (cross l.along z -ℤ l.level) (cross l.along w -ℤ l.level) (cross l.along (middle z w) -ℤ pos 2 *ℤ l.level) (middle-level l.along z w l.level)) hz hw

abbrev gap_1 : Sign → Sign → Sign → Bool
gap_1 o p x = imp (same_bool (is_plus o) (not (is_minus p))) λ _. imp (agree o p x) λ _. both (same_bool (is_plus x) (is_plus o)) (not (is_null x))

-- c of the step that begins on the line, and of the one that ends there
abbrev begins_1 : Sign → Sign → Sign → Bool
begins_1 c y x = imp (agree (times Plus c) (times y Null) (times x Plus)) λ _. same_sign c x

abbrev stops_1 : Sign → Sign → Sign → Bool
stops_1 c y x = imp (agree (times Plus c) (times y Plus) (times x Null)) λ _. same_sign c (negated y)

negated-plus : (s : Sign) → is_minus (negated s) ≡ is_plus s
negated-plus Plus = refl
negated-plus Null = refl
negated-plus Minus = refl

module _ (l : Line) (d : IsNonZero l.along) (z w : Vector) (hz : side l z ≡ Null) (hw : side l w ≡ Null) (t : Edge)
    (from_kept : not (is_minus (side l t.from)) ≡ true) (to_kept : not (is_minus (side l t.to)) ≡ true) (some : has_part l t ≡ true)
    (from_apart : side l t.from ≡ Null → IsApart l z w t.from) (to_apart : side l t.to ≡ Null → IsApart l z w t.to)
    (side-two : (v : Vector) → side (scaled_line (pos 2) l) (scaled_point (pos 2) v) ≡ side l v) where
  abbrev P : Vector
  P = middle z w

  abbrev m : Line
  m = scaled_line (pos 2) l

  abbrev s : Edge
  s = scaled_edge (pos 2) t

  mid-rise : (v : Vector) → rise m P (scaled_point (pos 2) v) ≡ side l v
  mid-rise v = null-first (side m P) (rise m P (scaled_point (pos 2) v)) (side m (scaled_point (pos 2) v)) (side-sum m P (scaled_point (pos 2) v)) (middle-side l z w hz hw) ∙ side-two v

  abbrev place : Vector → Sign
  place v = sign (dot l.along (from_to P (scaled_point (pos 2) v)))

  mid-place : (v : Vector) → agree (order_along l z v) (order_along l w v) (place v) ≡ true
  mid-place v = agree-sum (dot l.along (from_to z v)) (dot l.along (from_to w v)) (dot l.along (from_to P (scaled_point (pos 2) v))) (middle-dot l.along z w v)

  abbrev turn : Sign
  turn = sign (cross (from_to P s.from) (from_to P s.to))

  turn-agree : (a b : Sign) → side l t.from ≡ a → side l t.to ≡ b → agree (times Plus turn) (times (place t.to) a) (times (place t.from) b) ≡ true
  turn-agree a b ha hb =
      let f = frame-agree l.along (from_to P s.from) (from_to P s.to) d in
      subst (λ y. agree (times Plus turn) (times (place t.to) a) (times (place t.from) y) ≡ true) (mid-rise t.to ∙ hb)
      (subst (λ x. agree (times Plus turn) (times (place t.to) x) (times (place t.from) (rise m P s.to)) ≡ true) (mid-rise t.from ∙ ha) f)

  gap : (v : Vector) → IsApart l z w v → (is_plus (place v) ≡ is_plus (order_along l z v)) × (not (is_null (place v)) ≡ true)
  gap v h =
      let c = imp-out _ _ (imp-out _ _ (all3-out gap_1 refl (order_along l z v) (order_along l w v) (place v)) (same_bool-is _ _ h)) (mid-place v) in
      (same_bool-true _ _ (left-out _ _ c), right-out _ _ c)

  begins : side l t.from ≡ Null → side l t.to ≡ Plus → turn ≡ place t.from
  begins ha hb = same_sign-true turn (place t.from) (imp-out _ _ (all3-out begins_1 refl turn (place t.to) (place t.from)) (turn-agree Null Plus ha hb))

  stops : side l t.from ≡ Plus → side l t.to ≡ Null → turn ≡ negated (place t.to)
  stops ha hb = same_sign-true turn (negated (place t.to)) (imp-out _ _ (all3-out stops_1 refl turn (place t.to) (place t.from)) (turn-agree Plus Null ha hb))

  after-off : (v : Vector) → side l v ≡ Plus → after l z v ≡ 0
  after-off v h = ap (λ x. bit (is_null x && is_plus (order_along l z v))) h

  after-on : (v : Vector) → side l v ≡ Null → after l z v ≡ bit (is_plus (order_along l z v))
  after-on v h = ap (λ x. bit (is_null x && is_plus (order_along l z v))) h

  up-by : (a b : Sign) → side l t.from ≡ a → side l t.to ≡ b → not (is_minus a) ≡ true → not (is_minus b) ≡ true → (is_plus a || is_plus b) ≡ true → up_by a b turn ≡ after l z t.from
  up-by Null Plus ha hb na nb h = ap (λ c. bit (is_plus c)) (begins ha hb) ∙ ap bit (gap t.from (from_apart ha)).0 ∙ sym (after-on t.from ha)
  up-by Plus Null ha hb na nb h = sym (after-off t.from ha)
  up-by Plus Plus ha hb na nb h = sym (after-off t.from ha)
  up-by Null Null ha hb na nb h = absurd (cc h)
  up-by Minus b ha hb na nb h = absurd (cc na)
  up-by Null Minus ha hb na nb h = absurd (cc nb)
  up-by Plus Minus ha hb na nb h = absurd (cc nb)

  down-by : (a b : Sign) → side l t.from ≡ a → side l t.to ≡ b → not (is_minus a) ≡ true → not (is_minus b) ≡ true → (is_plus a || is_plus b) ≡ true → down_by a b turn ≡ after l z t.to
  down-by Plus Null ha hb na nb h = ap (λ c. bit (is_minus c)) (stops ha hb) ∙ ap bit (negated-plus (place t.to) ∙ (gap t.to (to_apart hb)).0) ∙ sym (after-on t.to hb)
  down-by Null Plus ha hb na nb h = sym (after-off t.to hb)
  down-by Plus Plus ha hb na nb h = sym (after-off t.to hb)
  down-by Null Null ha hb na nb h = absurd (cc h)
  down-by Minus b ha hb na nb h = absurd (cc na)
  down-by Null Minus ha hb na nb h = absurd (cc nb)
  down-by Plus Minus ha hb na nb h = absurd (cc nb)

  pub middle-up : crossings_seen up_by l.along (from_to P) s ≡ after l z t.from
  middle-up = ap (λ a. up_by a (rise m P s.to) turn) (mid-rise t.from) ∙ ap (λ b. up_by (side l t.from) b turn) (mid-rise t.to) ∙ up-by (side l t.from) (side l t.to) refl refl from_kept to_kept some

  pub middle-down : crossings_seen down_by l.along (from_to P) s ≡ after l z t.to
  middle-down = ap (λ a. down_by a (rise m P s.to) turn) (mid-rise t.from) ∙ ap (λ b. down_by (side l t.from) b turn) (mid-rise t.to) ∙ down-by (side l t.from) (side l t.to) refl refl from_kept to_kept some

  off-by : (a b : Sign) → side l t.from ≡ a → side l t.to ≡ b → not (is_minus a) ≡ true → not (is_minus b) ≡ true → (is_plus a || is_plus b) ≡ true → IsOffEdge P s
  off-by Null Plus ha hb na nb h = off_by-set turn (sign (dot (from_to P s.from) (from_to P s.to))) (ap (λ c. not (is_null c)) (begins ha hb) ∙ (gap t.from (from_apart ha)).1)
  off-by Plus Null ha hb na nb h = off_by-set turn (sign (dot (from_to P s.from) (from_to P s.to))) (ap (λ c. not (is_null c)) (stops ha hb) ∙ not-null-negated (place t.to) (gap t.to (to_apart hb)).1)
  off-by Plus Plus ha hb na nb h = off-level l.along (from_to P s.from) (from_to P s.to) d Plus refl (mid-rise t.from ∙ ha) (mid-rise t.to ∙ hb)
  off-by Null Null ha hb na nb h = absurd (cc h)
  off-by Minus b ha hb na nb h = absurd (cc na)
  off-by Null Minus ha hb na nb h = absurd (cc nb)
  off-by Plus Minus ha hb na nb h = absurd (cc nb)

  pub middle-off : IsOffEdge P s
  middle-off = off-by (side l t.from) (side l t.to) refl refl from_kept to_kept some
