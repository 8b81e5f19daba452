-- A point moved a little to the right or to the left: multiplied by K, and moved by one.
use Rattle.std.proofs.Common.{Bool, ap, arith, false, not, refl, subst, sym, true, ◌&&◌, ◌∙◌, ◌≡◌}
use borrow.Author.Differences.{ints}
use lib.IntN.{pos, ℤ, ◌*ℤ◌, ◌+ℤ◌, ◌-ℤ◌}
use Rattle.plane.specs.Edge.{Edge, IsRisingEdge}
use Rattle.plane.specs.Height.{is_in_span, is_left_of}
use Rattle.plane.specs.RayCrossing.{IsOff, IsOffEdge, off_by}
use Rattle.plane.specs.Scale.{scaled_edge, scaled_point}
use Rattle.plane.specs.Sign.{Minus, Null, Plus, Sign, is_minus, is_null, is_plus, sign}
use Rattle.plane.specs.Vector.{Vector, cross, dot, from_to, orient}
use Rattle.plane.proofs.PlaneKit.{tall-by, cross-agree, orient-round, rise-y, off_by-set, minus-sign, span-scaled}
use Rattle.plane.proofs.SignKit.{lift, same, ◌⊞◌, ◌⊟◌, ◌⊠◌, agree, agree-sum, all, all-out, all2, all2-out, all4, all4-out, imp, imp-out, not-minus-by, plus-times, says-at, sign-from, times, less_one, more_one}
use Rattle.plane_lists.proofs.Lists.Balance.{agree-dot}

-- ---- K * o - s, where s is small: between 0 and K
abbrev pub sub_sign : Sign → Sign
sub_sign Plus = Plus
sub_sign s = Minus

abbrev pub add_sign : Sign → Sign
add_sign Minus = Minus
add_sign s = Plus

down-by : (k z s : ℤ) → k *ℤ z -ℤ s ≡ k *ℤ (z -ℤ pos 1) +ℤ (k -ℤ s)
down-by k z s = let k' = lift k in let z' = lift z in let s' = lift s in same (k' ⊠ z' ⊟ s') (k' ⊠ (z' ⊟ lift (pos 1)) ⊞ (k' ⊟ s')) (omega arith)

plain-by : (k z s : ℤ) → k *ℤ z -ℤ s ≡ k *ℤ z +ℤ (pos 0 -ℤ s)
plain-by k z s = let k' = lift k in let z' = lift z in let s' = lift s in same (k' ⊠ z' ⊟ s') (k' ⊠ z' ⊞ (lift (pos 0) ⊟ s')) (omega arith)

up-by : (k z s : ℤ) → k *ℤ z +ℤ s ≡ k *ℤ (z +ℤ pos 1) +ℤ (s -ℤ k)
up-by k z s = let k' = lift k in let z' = lift z in let s' = lift s in same (k' ⊠ z' ⊞ s') (k' ⊠ (z' ⊞ lift (pos 1)) ⊞ (s' ⊟ k')) (omega arith)

not-minus-plus : (a b c : Sign) → (a ≡ Minus → ⊥) → b ≡ Plus → agree a b c ≡ true → c ≡ Plus
not-minus-plus Minus b c h k e = absurd (h refl)
not-minus-plus Null Plus Plus h k e = refl
not-minus-plus Plus Plus Plus h k e = refl
not-minus-plus a b c h k e = absurd (cc (k, e))

not-plus-minus : (a b c : Sign) → (a ≡ Plus → ⊥) → b ≡ Minus → agree a b c ≡ true → c ≡ Minus
not-plus-minus Plus b c h k e = absurd (h refl)
not-plus-minus Null Minus Minus h k e = refl
not-plus-minus Minus Minus Minus h k e = refl
not-plus-minus a b c h k e = absurd (cc (k, e))

minus-of : (s : ℤ) → sign s ≡ Plus → sign (pos 0 -ℤ s) ≡ Minus
minus-of s h = let a = says-at Plus s h in sign-from Minus (pos 0 -ℤ s) (omega (arith, ints))

flip-of : (k s : ℤ) → sign (k -ℤ s) ≡ Plus → sign (s -ℤ k) ≡ Minus
flip-of k s h = let a = says-at Plus (k -ℤ s) h in sign-from Minus (s -ℤ k) (omega (arith, ints))

module _ (k s : ℤ) (hk : sign k ≡ Plus) (hs : sign s ≡ Plus) (h : sign (k -ℤ s) ≡ Plus) where
  sub-by : (z : ℤ) → (t : Sign) → sign z ≡ t → sign (k *ℤ z -ℤ s) ≡ sub_sign t
  sub-by z Plus e =
      let a = agree-sum (k *ℤ (z -ℤ pos 1)) (k -ℤ s) (k *ℤ z -ℤ s) (sym (down-by k z s)) in
      not-minus-plus _ _ _ (λ m. less_one z e (sym (plus-times k (z -ℤ pos 1) hk) ∙ m)) h a
  sub-by z Null e =
      let a = agree-sum (k *ℤ z) (pos 0 -ℤ s) (k *ℤ z -ℤ s) (sym (plain-by k z s)) in
      not-plus-minus _ _ _ (λ m. cc (sym e ∙ sym (plus-times k z hk) ∙ m)) (minus-of s hs) a
  sub-by z Minus e =
      let a = agree-sum (k *ℤ z) (pos 0 -ℤ s) (k *ℤ z -ℤ s) (sym (plain-by k z s)) in
      not-plus-minus _ _ _ (λ m. cc (sym e ∙ sym (plus-times k z hk) ∙ m)) (minus-of s hs) a

  add-by : (z : ℤ) → (t : Sign) → sign z ≡ t → sign (k *ℤ z +ℤ s) ≡ add_sign t
  add-by z Plus e =
      let a = agree-sum (k *ℤ z) s (k *ℤ z +ℤ s) refl in
      not-minus-plus _ _ _ (λ m. cc (sym e ∙ sym (plus-times k z hk) ∙ m)) hs a
  add-by z Null e =
      let a = agree-sum (k *ℤ z) s (k *ℤ z +ℤ s) refl in
      not-minus-plus _ _ _ (λ m. cc (sym e ∙ sym (plus-times k z hk) ∙ m)) hs a
  add-by z Minus e =
      let a = agree-sum (k *ℤ (z +ℤ pos 1)) (s -ℤ k) (k *ℤ z +ℤ s) (sym (up-by k z s)) in
      not-plus-minus _ _ _ (λ m. more_one z e (sym (plus-times k (z +ℤ pos 1) hk) ∙ m)) (flip-of k s h) a

  pub sub-sign : (z : ℤ) → sign (k *ℤ z -ℤ s) ≡ sub_sign (sign z)
  sub-sign z = sub-by z (sign z) refl

  pub add-sign : (z : ℤ) → sign (k *ℤ z +ℤ s) ≡ add_sign (sign z)
  add-sign z = add-by z (sign z) refl

-- ---- the moved points
abbrev pub right_point : ℤ → Vector → Vector
right_point k p = record { x = k *ℤ p.x +ℤ pos 1; y = k *ℤ p.y }

abbrev pub left_point : ℤ → Vector → Vector
left_point k p = record { x = k *ℤ p.x -ℤ pos 1; y = k *ℤ p.y }

minus-out : (k a b : ℤ) → k *ℤ a -ℤ k *ℤ b ≡ k *ℤ (a -ℤ b)
minus-out k a b = let k' = lift k in let a' = lift a in let b' = lift b in same (k' ⊠ a' ⊟ k' ⊠ b') (k' ⊠ (a' ⊟ b')) (omega arith)

one-out : (k a b : ℤ) → k *ℤ a +ℤ pos 1 -ℤ k *ℤ b ≡ k *ℤ (a -ℤ b) +ℤ pos 1
one-out k a b = let k' = lift k in let a' = lift a in let b' = lift b in same (k' ⊠ a' ⊞ lift (pos 1) ⊟ k' ⊠ b') (k' ⊠ (a' ⊟ b') ⊞ lift (pos 1)) (omega arith)

less-out : (k a b : ℤ) → k *ℤ a -ℤ pos 1 -ℤ k *ℤ b ≡ k *ℤ (a -ℤ b) -ℤ pos 1
less-out k a b = let k' = lift k in let a' = lift a in let b' = lift b in same (k' ⊠ a' ⊟ lift (pos 1) ⊟ k' ⊠ b') (k' ⊠ (a' ⊟ b') ⊟ lift (pos 1)) (omega arith)

right-form : (k a b c d : ℤ) → (k *ℤ a) *ℤ (k *ℤ d) -ℤ (k *ℤ b) *ℤ (k *ℤ c +ℤ pos 1) ≡ k *ℤ (k *ℤ (a *ℤ d -ℤ b *ℤ c) -ℤ b)
right-form k a b c d =
    let k' = lift k in let a' = lift a in let b' = lift b in let c' = lift c in let d' = lift d in
    same ((k' ⊠ a') ⊠ (k' ⊠ d') ⊟ (k' ⊠ b') ⊠ (k' ⊠ c' ⊞ lift (pos 1))) (k' ⊠ (k' ⊠ (a' ⊠ d' ⊟ b' ⊠ c') ⊟ b')) (omega arith)

left-form : (k a b c d : ℤ) → (k *ℤ a) *ℤ (k *ℤ d) -ℤ (k *ℤ b) *ℤ (k *ℤ c -ℤ pos 1) ≡ k *ℤ (k *ℤ (a *ℤ d -ℤ b *ℤ c) +ℤ b)
left-form k a b c d =
    let k' = lift k in let a' = lift a in let b' = lift b in let c' = lift c in let d' = lift d in
    same ((k' ⊠ a') ⊠ (k' ⊠ d') ⊟ (k' ⊠ b') ⊠ (k' ⊠ c' ⊟ lift (pos 1))) (k' ⊠ (k' ⊠ (a' ⊠ d' ⊟ b' ⊠ c') ⊞ b')) (omega arith)

right-by : (k a b c d A B C D : ℤ) → A ≡ k *ℤ a → B ≡ k *ℤ b → C ≡ k *ℤ c +ℤ pos 1 → D ≡ k *ℤ d → A *ℤ D -ℤ B *ℤ C ≡ k *ℤ (k *ℤ (a *ℤ d -ℤ b *ℤ c) -ℤ b)
right-by k a b c d A B C D e f g h =
    ap (λ (z : ℤ). z *ℤ D -ℤ B *ℤ C) e ∙ ap (λ (z : ℤ). (k *ℤ a) *ℤ D -ℤ z *ℤ C) f ∙ ap (λ (z : ℤ). (k *ℤ a) *ℤ D -ℤ (k *ℤ b) *ℤ z) g ∙ ap (λ (z : ℤ). (k *ℤ a) *ℤ z -ℤ (k *ℤ b) *ℤ (k *ℤ c +ℤ pos 1)) h ∙ right-form k a b c d

left-by : (k a b c d A B C D : ℤ) → A ≡ k *ℤ a → B ≡ k *ℤ b → C ≡ k *ℤ c -ℤ pos 1 → D ≡ k *ℤ d → A *ℤ D -ℤ B *ℤ C ≡ k *ℤ (k *ℤ (a *ℤ d -ℤ b *ℤ c) +ℤ b)
left-by k a b c d A B C D e f g h =
    ap (λ (z : ℤ). z *ℤ D -ℤ B *ℤ C) e ∙ ap (λ (z : ℤ). (k *ℤ a) *ℤ D -ℤ z *ℤ C) f ∙ ap (λ (z : ℤ). (k *ℤ a) *ℤ D -ℤ (k *ℤ b) *ℤ z) g ∙ ap (λ (z : ℤ). (k *ℤ a) *ℤ z -ℤ (k *ℤ b) *ℤ (k *ℤ c -ℤ pos 1)) h ∙ left-form k a b c d

module _ (k : ℤ) (p : Vector) where
  -- the side of a moved point
  right-orient : (u v : Vector) → cross (from_to (scaled_point k u) (scaled_point k v)) (from_to (scaled_point k u) (right_point k p)) ≡ k *ℤ (k *ℤ cross (from_to u v) (from_to u p) -ℤ (v.y -ℤ u.y))
  right-orient u v =
      right-by k (v.x -ℤ u.x) (v.y -ℤ u.y) (p.x -ℤ u.x) (p.y -ℤ u.y) (k *ℤ v.x -ℤ k *ℤ u.x) (k *ℤ v.y -ℤ k *ℤ u.y) (k *ℤ p.x +ℤ pos 1 -ℤ k *ℤ u.x) (k *ℤ p.y -ℤ k *ℤ u.y)
      (minus-out k v.x u.x) (minus-out k v.y u.y) (one-out k p.x u.x) (minus-out k p.y u.y)

  left-orient : (u v : Vector) → cross (from_to (scaled_point k u) (scaled_point k v)) (from_to (scaled_point k u) (left_point k p)) ≡ k *ℤ (k *ℤ cross (from_to u v) (from_to u p) +ℤ (v.y -ℤ u.y))
  left-orient u v =
      left-by k (v.x -ℤ u.x) (v.y -ℤ u.y) (p.x -ℤ u.x) (p.y -ℤ u.y) (k *ℤ v.x -ℤ k *ℤ u.x) (k *ℤ v.y -ℤ k *ℤ u.y) (k *ℤ p.x -ℤ pos 1 -ℤ k *ℤ u.x) (k *ℤ p.y -ℤ k *ℤ u.y)
      (minus-out k v.x u.x) (minus-out k v.y u.y) (less-out k p.x u.x) (minus-out k p.y u.y)

-- ---- a moved point against an edge
abbrev off_c : (Sign → Sign) → Sign → Sign → Sign → Sign → Bool
off_c f yu yv xu xv =
    all2 λ c s. imp (agree c (times yu (f xv)) (times (f xu) yv)) λ _. imp (agree (times (f xu) (f xv)) (times yu yv) s) λ _. off_by c s

abbrev off_b : (Sign → Sign) → Sign → Sign → Sign → Sign → Bool
off_b f yu yv xu xv =
    all2 λ c s. imp (agree c (times yu xv) (times xu yv)) λ _. imp (agree (times xu xv) (times yu yv) s) λ _. imp (off_by c s) λ _. off_c f yu yv xu xv

abbrev off_a : (Sign → Sign) → Sign → Sign → Sign → Sign → Bool
off_a f yu yv xu xv =
    all λ dy. imp (agree yu dy yv) λ _. imp (not (is_minus dy)) λ _. imp (not (not (is_plus yu) && is_plus yv)) λ _. off_b f yu yv xu xv

off_sub : all4 (off_a sub_sign) ≡ true
off_sub = refl

off_add : all4 (off_a add_sign) ≡ true
off_add = refl

-- q sees the ends of an edge as p does, at other places to its sides
off-seen : (f : Sign → Sign) → all4 (off_a f) ≡ true → (a b u v : Vector) → sign a.y ≡ sign u.y → sign b.y ≡ sign v.y → sign a.x ≡ f (sign u.x) → sign b.x ≡ f (sign v.x) →
    (dy : Sign) → agree (sign u.y) dy (sign v.y) ≡ true → not (is_minus dy) ≡ true → not (not (is_plus (sign u.y)) && is_plus (sign v.y)) ≡ true → IsOff u v → IsOff a b
off-seen f computes a b u v ya yb xa xb dy h1 h2 h3 o =
    let yu = sign u.y in let yv = sign v.y in let xu = sign u.x in let xv = sign v.x in
    let g1 = all-out (λ dy. imp (agree yu dy yv) λ _. imp (not (is_minus dy)) λ _. imp (not (not (is_plus yu) && is_plus yv)) λ _. off_b f yu yv xu xv) (all4-out (off_a f) computes yu yv xu xv) dy in
    let g2 = imp-out _ _ (imp-out _ _ (imp-out _ _ g1 h1) h2) h3 in
    let g3 = all2-out (λ c s. imp (agree c (times yu xv) (times xu yv)) λ _. imp (agree (times xu xv) (times yu yv) s) λ _. imp (off_by c s) λ _. off_c f yu yv xu xv) g2 (sign (cross u v)) (sign (dot u v)) in
    let g4 = imp-out _ _ (imp-out _ _ (imp-out _ _ g3 (cross-agree u v)) (agree-dot u v)) o in
    let g5 = all2-out (λ c s. imp (agree c (times yu (f xv)) (times (f xu) yv)) λ _. imp (agree (times (f xu) (f xv)) (times yu yv) s) λ _. off_by c s) g4 (sign (cross a b)) (sign (dot a b)) in
    let p = rw (ya, yb, xa, xb) at (cross-agree a b) in let q = rw (ya, yb, xa, xb) at (agree-dot a b) in
    imp-out _ _ (imp-out _ _ g5 p) q

pub sub-set : (s : Sign) → not (is_null (sub_sign s)) ≡ true
sub-set Plus = refl
sub-set Null = refl
sub-set Minus = refl

add-set : (s : Sign) → not (is_null (add_sign s)) ≡ true
add-set Plus = refl
add-set Null = refl
add-set Minus = refl

pub sub-plus : (s : Sign) → is_plus (sub_sign s) ≡ is_plus s
sub-plus Plus = refl
sub-plus Null = refl
sub-plus Minus = refl

add-plus : (s : Sign) → is_plus (add_sign s) ≡ not (is_minus s)
add-plus Plus = refl
add-plus Null = refl
add-plus Minus = refl

tests-by : (b c d : Bool) → (b ≡ true → c ≡ d) → (b && c) ≡ (b && d)
tests-by true c d h = h refl
tests-by false c d h = refl

sub-x : (k a b : ℤ) → k *ℤ a -ℤ (k *ℤ b +ℤ pos 1) ≡ k *ℤ (a -ℤ b) -ℤ pos 1
sub-x k a b = let k' = lift k in let a' = lift a in let b' = lift b in same (k' ⊠ a' ⊟ (k' ⊠ b' ⊞ lift (pos 1))) (k' ⊠ (a' ⊟ b') ⊟ lift (pos 1)) (omega arith)

add-x : (k a b : ℤ) → k *ℤ a -ℤ (k *ℤ b -ℤ pos 1) ≡ k *ℤ (a -ℤ b) +ℤ pos 1
add-x k a b = let k' = lift k in let a' = lift a in let b' = lift b in same (k' ⊠ a' ⊟ (k' ⊠ b' ⊟ lift (pos 1))) (k' ⊠ (a' ⊟ b') ⊞ lift (pos 1)) (omega arith)

module _ (k : ℤ) (hk : sign k ≡ Plus) (h1 : sign (k -ℤ pos 1) ≡ Plus) (p : Vector) (t : Edge) (r : IsRisingEdge t) (big : is_in_span p t ≡ true → sign (k -ℤ (t.to.y -ℤ t.from.y)) ≡ Plus) where
  abbrev o : Sign
  o = orient t.from t.to p

  right-side : is_in_span p t ≡ true → orient (scaled_point k t.from) (scaled_point k t.to) (right_point k p) ≡ sub_sign o
  right-side s =
      ap sign (right-orient k p t.from t.to) ∙ plus-times k (k *ℤ cross (from_to t.from t.to) (from_to t.from p) -ℤ (t.to.y -ℤ t.from.y)) hk
      ∙ sub-sign k (t.to.y -ℤ t.from.y) hk (tall-by p t s) (big s) (cross (from_to t.from t.to) (from_to t.from p))

  left-side : is_in_span p t ≡ true → orient (scaled_point k t.from) (scaled_point k t.to) (left_point k p) ≡ add_sign o
  left-side s =
      ap sign (left-orient k p t.from t.to) ∙ plus-times k (k *ℤ cross (from_to t.from t.to) (from_to t.from p) +ℤ (t.to.y -ℤ t.from.y)) hk
      ∙ add-sign k (t.to.y -ℤ t.from.y) hk (tall-by p t s) (big s) (cross (from_to t.from t.to) (from_to t.from p))

  pub right-left : is_left_of (right_point k p) (scaled_edge k t) ≡ is_left_of p t
  right-left =
      ap (λ b. b && is_plus (orient (scaled_point k t.from) (scaled_point k t.to) (right_point k p))) (span-scaled k hk p t)
      ∙ tests-by (is_in_span p t) (is_plus (orient (scaled_point k t.from) (scaled_point k t.to) (right_point k p))) (is_plus o) (λ s. ap is_plus (right-side s) ∙ sub-plus o)

  pub left-left : is_left_of (left_point k p) (scaled_edge k t) ≡ (is_in_span p t && not (is_minus o))
  left-left =
      ap (λ b. b && is_plus (orient (scaled_point k t.from) (scaled_point k t.to) (left_point k p))) (span-scaled k hk p t)
      ∙ tests-by (is_in_span p t) (is_plus (orient (scaled_point k t.from) (scaled_point k t.to) (left_point k p))) (not (is_minus o)) (λ s. ap is_plus (left-side s) ∙ add-plus o)

  right-off-by : (b : Bool) → is_in_span p t ≡ b → (b ≡ false → IsOffEdge p t) → IsOffEdge (right_point k p) (scaled_edge k t)
  right-off-by true s f =
      off_by-set (sign (cross (from_to (right_point k p) (scaled_point k t.from)) (from_to (right_point k p) (scaled_point k t.to)))) _
      (subst (λ c. not (is_null c) ≡ true) (sym (right-side s) ∙ ap sign (orient-round (right_point k p) (scaled_point k t.from) (scaled_point k t.to))) (sub-set o))
  right-off-by false s f =
      off-seen sub_sign off_sub (from_to (right_point k p) (scaled_point k t.from)) (from_to (right_point k p) (scaled_point k t.to)) (from_to p t.from) (from_to p t.to)
      (minus-sign k hk t.from.y p.y) (minus-sign k hk t.to.y p.y)
      (ap sign (sub-x k t.from.x p.x) ∙ sub-sign k (pos 1) hk refl h1 (t.from.x -ℤ p.x)) (ap sign (sub-x k t.to.x p.x) ∙ sub-sign k (pos 1) hk refl h1 (t.to.x -ℤ p.x))
      (sign (t.to.y -ℤ t.from.y)) (rise-y p t.from t.to) (not-minus-by (sign (t.to.y -ℤ t.from.y)) (sign (t.to.x -ℤ t.from.x)) r) (ap not s) (f refl)

  left-off-by : (b : Bool) → is_in_span p t ≡ b → (b ≡ false → IsOffEdge p t) → IsOffEdge (left_point k p) (scaled_edge k t)
  left-off-by true s f =
      off_by-set (sign (cross (from_to (left_point k p) (scaled_point k t.from)) (from_to (left_point k p) (scaled_point k t.to)))) _
      (subst (λ c. not (is_null c) ≡ true) (sym (left-side s) ∙ ap sign (orient-round (left_point k p) (scaled_point k t.from) (scaled_point k t.to))) (add-set o))
  left-off-by false s f =
      off-seen add_sign off_add (from_to (left_point k p) (scaled_point k t.from)) (from_to (left_point k p) (scaled_point k t.to)) (from_to p t.from) (from_to p t.to)
      (minus-sign k hk t.from.y p.y) (minus-sign k hk t.to.y p.y)
      (ap sign (add-x k t.from.x p.x) ∙ add-sign k (pos 1) hk refl h1 (t.from.x -ℤ p.x)) (ap sign (add-x k t.to.x p.x) ∙ add-sign k (pos 1) hk refl h1 (t.to.x -ℤ p.x))
      (sign (t.to.y -ℤ t.from.y)) (rise-y p t.from t.to) (not-minus-by (sign (t.to.y -ℤ t.from.y)) (sign (t.to.x -ℤ t.from.x)) r) (ap not s) (f refl)

  -- the moved points are off the multiplied edge, if p is off the edge or the edge spans its height
  pub right-off : (is_in_span p t ≡ false → IsOffEdge p t) → IsOffEdge (right_point k p) (scaled_edge k t)
  right-off f = right-off-by (is_in_span p t) refl f

  pub left-off : (is_in_span p t ≡ false → IsOffEdge p t) → IsOffEdge (left_point k p) (scaled_edge k t)
  left-off f = left-off-by (is_in_span p t) refl f
