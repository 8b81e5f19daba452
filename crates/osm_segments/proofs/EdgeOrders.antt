-- The order of upright edges at the height at which one begins or ends: it goes on from neighbour to neighbour, and tells who begins or ends beside whom.
use Rattle.std.proofs.Common.{Bool, ap, arith, false, inl, inr, not, refl, subst, sym, true, ◌&&◌, ◌||◌, ◌∙◌, ◌≡◌, ◌⊎◌}
use borrow.Author.Differences.{ints}
use lib.IntN.{ℤ, ◌-ℤ◌}
use Rattle.plane.specs.Conflict.{IsClearOf}
use Rattle.plane.specs.Edge.{Edge}
use Rattle.plane.specs.Height.{distance_right, is_in_span}
use Rattle.plane.specs.Order.{order}
use Rattle.plane.specs.Sign.{Minus, Null, Plus, Sign, is_minus, is_null, is_plus, negated, sign, then_sign}
use Rattle.plane.specs.Vector.{Vector, cross, east, from_to, orient}
use Rattle.lists.proofs.ListsKit.{and-left, and-right}
use Rattle.plane.proofs.PlaneKit.{conflict_by, conflicts-by, right_of, step_of, order-null, order-self-null, cross-here, cross-self, dot-east, plucker-agree, plucker-dot-agree, cross-east, at-first-from, at-first-to, at-second-from, at-second-to, change-agrees, no_swap}
use Rattle.plane.proofs.SignKit.{agree, all, all-out, all2-out, all4, all4-out, imp, imp-out, is_plus-true, same_sign, same_sign-true, says-at, sign-from, times, times-plus, agree-back, plus-plus, plus-null, null-plus, is_minus-true}
use Rattle.osm_segments.proofs.EdgePairs.{BeginsLeft, EndsLeft, begin_by, end_by, fans}
use Rattle.osm_segments.proofs.EdgeMeetings.{bottoms-by, low-to, order-down, order-up, to-high, tops-by}

abbrev pub IsTall : Edge → Type 0
IsTall e = sign (e.to.y -ℤ e.from.y) ≡ Plus

-- where f is at the height of w, seen from e
abbrev pub beside : Vector → Edge → Edge → Sign
beside w e f = sign (cross (distance_right w e) (distance_right w f))

-- f is right of e at the height of w, or both end in one point there
abbrev pub TopsLeft : Vector → Edge → Edge → Type 0
TopsLeft w e f = (beside w e f ≡ Plus) ⊎ ((beside w e f ≡ Null) × (e.to ≡ f.to) × (sign (e.to.y -ℤ w.y) ≡ Null))

-- f is right of e at the height of w, or both begin in one point there and f turns right of e
abbrev pub BottomsLeft : Vector → Edge → Edge → Type 0
BottomsLeft w e f = (beside w e f ≡ Plus) ⊎ ((beside w e f ≡ Null) × (fans e f ≡ Plus) × (e.from ≡ f.from) × (sign (e.from.y -ℤ w.y) ≡ Null))

-- ---- from neighbour to neighbour
module _ (e f g : Edge) (te : IsTall e) (tf : IsTall f) (tg : IsTall g) where
  pub beside-chain : (w : Vector) → agree (beside w e f) (beside w f g) (beside w e g) ≡ true
  beside-chain w =
      let A = distance_right w e in let B = distance_right w f in let C = distance_right w g in
      let x = rw (dot-east A, dot-east B, dot-east C, te, tf, tg, times-plus (sign (cross B C)), times-plus (sign (cross A B)), times-plus (sign (cross A C))) at (plucker-dot-agree east A B C) in
      agree-back _ _ _ x

  fans-chain : agree (fans e f) (fans f g) (fans e g) ≡ true
  fans-chain =
      let E = step_of e in let F = step_of f in let G = step_of g in
      rw (cross-east G, cross-east F, cross-east E, te, tf, tg, times-plus (sign (cross F E)), times-plus (sign (cross G F)), times-plus (sign (cross G E))) at (plucker-agree east G F E)

  beside-by : (w : Vector) (s t u : Sign) → beside w e f ≡ s → beside w f g ≡ t → ((v : Sign) → agree s t v ≡ true → v ≡ u) → beside w e g ≡ u
  beside-by w s t u x y k = k (beside w e g) (subst (λ s. agree s t (beside w e g) ≡ true) x (subst (λ t. agree (beside w e f) t (beside w e g) ≡ true) y (beside-chain w)))

  null-null : (v : Sign) → agree Null Null v ≡ true → v ≡ Null
  null-null Null h = refl
  null-null Plus h = absurd (cc h)
  null-null Minus h = absurd (cc h)

  pub tops-chain : (w : Vector) → TopsLeft w e f → TopsLeft w f g → TopsLeft w e g
  tops-chain w (inl x) (inl y) = inl (beside-by w Plus Plus Plus x y plus-plus)
  tops-chain w (inl x) (inr y) = inl (beside-by w Plus Null Plus x y.0 plus-null)
  tops-chain w (inr x) (inl y) = inl (beside-by w Null Plus Plus x.0 y null-plus)
  tops-chain w (inr x) (inr y) = inr (beside-by w Null Null Null x.0 y.0 null-null, x.1 ∙ y.1, x.2)

  pub bottoms-chain : (w : Vector) → BottomsLeft w e f → BottomsLeft w f g → BottomsLeft w e g
  bottoms-chain w (inl x) (inl y) = inl (beside-by w Plus Plus Plus x y plus-plus)
  bottoms-chain w (inl x) (inr y) = inl (beside-by w Plus Null Plus x y.0 plus-null)
  bottoms-chain w (inr x) (inl y) = inl (beside-by w Null Plus Plus x.0 y null-plus)
  bottoms-chain w (inr x) (inr y) =
      inr (beside-by w Null Null Null x.0 y.0 null-null, plus-plus (fans e g) (subst (λ s. agree s Plus (fans e g) ≡ true) x.1 (subst (λ t. agree (fans e f) t (fans e g) ≡ true) y.1 fans-chain)), x.2 ∙ y.2, x.3)

-- ---- heights
not-minus : (s : Sign) → (s ≡ Minus → ⊥) → not (is_minus s) ≡ true
not-minus Minus h = absurd (h refl)
not-minus Null h = refl
not-minus Plus h = refl

pub low-of : (p : Vector) (t : Edge) → is_in_span p t ≡ true → not (is_plus (sign (t.from.y -ℤ p.y))) ≡ true
low-of p t h = and-left (not (is_plus (sign (t.from.y -ℤ p.y)))) (is_plus (sign (t.to.y -ℤ p.y))) h

pub high-of : (p : Vector) (t : Edge) → is_in_span p t ≡ true → sign (t.to.y -ℤ p.y) ≡ Plus
high-of p t h = is_plus-true (sign (t.to.y -ℤ p.y)) (and-right (not (is_plus (sign (t.from.y -ℤ p.y)))) (is_plus (sign (t.to.y -ℤ p.y))) h)

far-below-by : (a p q : ℤ) (s : Sign) → sign (a -ℤ p) ≡ s → not (is_plus s) ≡ true → sign (q -ℤ p) ≡ Plus → sign (a -ℤ q) ≡ Minus
far-below-by a p q Minus h n up = let x = says-at Minus (a -ℤ p) h in let y = says-at Plus (q -ℤ p) up in sign-from Minus (a -ℤ q) (omega (arith, ints))
far-below-by a p q Null h n up = let x = says-at Null (a -ℤ p) h in let y = says-at Plus (q -ℤ p) up in sign-from Minus (a -ℤ q) (omega (arith, ints))
far-below-by a p q Plus h n up = absurd (cc n)

-- ---- the signs of f seen from e at two heights: x and then y; k is the turn between them, g how the heights lie
abbrev stays_plus : Sign → Sign → Sign → Bool
stays_plus x k y = imp (agree x (times Plus k) y) λ _. imp (is_plus (then_sign x k)) λ _. (is_plus y || (is_plus x && is_minus k))

abbrev below_plus : Sign → Sign → Bool
below_plus g y = imp (not (is_plus g)) λ _. imp (agree Plus (times g Minus) y) λ _. is_plus y

abbrev above_minus : Sign → Sign → Bool
above_minus g y = imp (not (is_minus g)) λ _. imp (agree Minus (times g Minus) y) λ _. is_minus y

falls-by : (x k y : Sign) → agree x (times Plus k) y ≡ true → is_plus (then_sign x k) ≡ true → is_plus y ≡ false → (x ≡ Plus) × (k ≡ Minus)
falls-by x k y a r n =
    let t = imp-out _ _ (imp-out _ _ (all-out (λ y. stays_plus x k y) (all2-out (λ x k. all (stays_plus x k)) refl x k) y) a) r in
    let u = subst (λ b. b || (is_plus x && is_minus k) ≡ true) n t in
    (is_plus-true x (and-left (is_plus x) (is_minus k) u), is_minus-true k (and-right (is_plus x) (is_minus k) u))

-- what is right of a clear one just above a height, and goes up as far as another height too, is right of it there or ends with it
module _ (e f : Edge) (te : IsTall e) (tf : IsTall f) (clear : IsClearOf e f) (p : Vector) (pe : is_in_span p e ≡ true) (pf : is_in_span p f ≡ true) (right : right_of p e f ≡ true) where
  module _ (q : Vector) (up : sign (q.y -ℤ p.y) ≡ Plus) (high_e : not (is_minus (sign (e.to.y -ℤ q.y))) ≡ true) (high_f : not (is_minus (sign (f.to.y -ℤ q.y))) ≡ true) where
    changes : agree (beside p e f) (times Plus (fans e f)) (beside q e f) ≡ true
    changes = subst (λ g. agree (beside p e f) (times g (fans e f)) (beside q e f) ≡ true) up (change-agrees e f te tf p q)

    falls : is_plus (beside q e f) ≡ false → (beside p e f ≡ Plus) × (fans e f ≡ Minus)
    falls n = falls-by (beside p e f) (fans e f) (beside q e f) changes right n

    at-low : (v : Vector) → beside p e f ≡ Plus → fans e f ≡ Minus → not (is_plus (sign (v.y -ℤ p.y))) ≡ true → beside v e f ≡ Plus
    at-low v x k low =
        let g = sign (v.y -ℤ p.y) in
        let c = subst (λ x. agree x (times g (fans e f)) (beside v e f) ≡ true) x (change-agrees e f te tf p v) in
        let d = subst (λ k. agree Plus (times g k) (beside v e f) ≡ true) k c in
        is_plus-true (beside v e f) (imp-out _ _ (imp-out _ _ (all2-out below_plus refl g (beside v e f)) low) d)

    at-high : (v : Vector) → beside q e f ≡ Minus → fans e f ≡ Minus → not (is_minus (sign (v.y -ℤ q.y))) ≡ true → beside v e f ≡ Minus
    at-high v y k high =
        let g = sign (v.y -ℤ q.y) in
        let c = subst (λ x. agree x (times g (fans e f)) (beside v e f) ≡ true) y (change-agrees e f te tf q v) in
        let d = subst (λ k. agree Minus (times g k) (beside v e f) ≡ true) k c in
        is_minus-true (beside v e f) (imp-out _ _ (imp-out _ _ (all2-out above_minus refl g (beside v e f)) high) d)

    tops_case : (y : Sign) → beside q e f ≡ y → TopsLeft q e f
    tops_case Plus h = inl h
    tops_case Null h =
        let fall = falls (ap is_plus h) in
        let low_e = far-below-by e.from.y p.y q.y (sign (e.from.y -ℤ p.y)) refl (low-of p e pe) up in
        let low_f = far-below-by f.from.y p.y q.y (sign (f.from.y -ℤ p.y)) refl (low-of p f pf) up in
        let r = tops-by e f te tf clear q h (ap (λ s. not (is_null s)) fall.1) (sign (e.to.y -ℤ q.y)) (sign (f.to.y -ℤ q.y)) refl refl high_e high_f low_e low_f in
        inr (h, r.0, r.1)
    tops_case Minus h =
        let fall = falls (ap is_plus h) in
        absurd (no_swap e f te tf clear Plus refl (at-low e.from fall.0 fall.1 (low-of p e pe)) (at-low f.from fall.0 fall.1 (low-of p f pf)) (at-high e.to h fall.1 high_e) (at-high f.to h fall.1 high_f))

    pub tops_left : TopsLeft q e f
    tops_left = tops_case (beside q e f) refl

  bottoms_case : (x k : Sign) → beside p e f ≡ x → fans e f ≡ k → is_plus (then_sign x k) ≡ true → BottomsLeft p e f
  bottoms_case Plus k h i r = inl h
  bottoms_case Minus k h i r = absurd (cc r)
  bottoms_case Null Null h i r = absurd (cc r)
  bottoms_case Null Minus h i r = absurd (cc r)
  bottoms_case Null Plus h i r =
      let b = bottoms-by e f te tf clear p h (ap (λ s. not (is_null s)) i) (sign (e.from.y -ℤ p.y)) (sign (f.from.y -ℤ p.y)) refl refl (low-of p e pe) (low-of p f pf) (high-of p e pe) (high-of p f pf) in
      inr (h, i, b.0, b.1)

  pub bottoms_left : BottomsLeft p e f
  bottoms_left = bottoms_case (beside p e f) (fans e f) refl refl right

-- ---- who begins or ends beside whom
module _ (e f : Edge) (te : IsTall e) (tf : IsTall f) where
  -- at one height f is alike right of e
  pub same-level : (v w : Vector) → sign (v.y -ℤ w.y) ≡ Null → beside v e f ≡ beside w e f
  same-level v w h =
      sym (same_sign-true (beside w e f) (beside v e f) (imp-out _ _ (all2-out (λ x y. imp (agree x Null y) λ _. same_sign x y) refl (beside w e f) (beside v e f))
      (subst (λ g. agree (beside w e f) (times g (fans e f)) (beside v e f) ≡ true) h (change-agrees e f te tf w v))))

  begins-one : fans e f ≡ Plus → e.from ≡ f.from → BeginsLeft e f
  begins-one k one = record {
    begins = subst (λ h. begin_by h (orient e.from e.to f.from) (orient f.from f.to e.from) (fans e f) ≡ true) (sym (ap (order e.from) (sym one) ∙ order-self-null e.from))
        (both-in (same_sign (fans e f) Plus) (is_null (orient e.from e.to f.from) && is_null (orient f.from f.to e.from)) (ap (λ s. same_sign s Plus) k)
        (both-in (is_null (orient e.from e.to f.from)) (is_null (orient f.from f.to e.from))
        (ap is_null (ap (λ v. orient e.from e.to v) (sym one) ∙ ap sign (cross-here (from_to e.from e.to) e.from)))
        (ap is_null (ap (λ v. orient f.from f.to v) one ∙ ap sign (cross-here (from_to f.from f.to) f.from)))));
  }
    where
      both-in : (a b : Bool) → a ≡ true → b ≡ true → a && b ≡ true
      both-in a b h k = rw (h, k) refl

  module _ (w : Vector) (plus : beside w e f ≡ Plus) where
    first-from : sign (e.from.y -ℤ w.y) ≡ Null → orient f.from f.to e.from ≡ Plus
    first-from h = sym (at-first-from e f te tf) ∙ same-level e.from w h ∙ plus

    second-from : sign (f.from.y -ℤ w.y) ≡ Null → orient e.from e.to f.from ≡ Minus
    second-from h = at-second-from e f te tf ∙ ap negated (same-level f.from w h ∙ plus)

    first-to : sign (e.to.y -ℤ w.y) ≡ Null → orient f.from f.to e.to ≡ Plus
    first-to h = sym (at-first-to e f te tf) ∙ same-level e.to w h ∙ plus

    second-to : sign (f.to.y -ℤ w.y) ≡ Null → orient e.from e.to f.to ≡ Minus
    second-to h = at-second-to e f te tf ∙ ap negated (same-level f.to w h ∙ plus)

    -- the order of the lower ends by their heights
    begins-by : (g h : Sign) → sign (e.from.y -ℤ w.y) ≡ g → sign (f.from.y -ℤ w.y) ≡ h → (g ≡ Null) ⊎ (h ≡ Null) → not (is_plus g) ≡ true → not (is_plus h) ≡ true → (o : Sign) → order e.from f.from ≡ o → begin_by o (orient e.from e.to f.from) (orient f.from f.to e.from) (fans e f) ≡ true
    begins-by Plus h x y c l n o k = absurd (cc l)
    begins-by Minus Plus x y c l n o k = absurd (cc n)
    begins-by Null Plus x y c l n o k = absurd (cc n)
    begins-by Minus Minus x y (inl c) l n o k = absurd (cc c)
    begins-by Minus Minus x y (inr c) l n o k = absurd (cc c)
    begins-by Minus Null x y c l n o k =
        let up = order-up e.from f.from (low-to e.from.y f.from.y w.y x y) in
        subst (λ o. begin_by o (orient e.from e.to f.from) (orient f.from f.to e.from) (fans e f) ≡ true) (sym up ∙ k) (ap (λ s. same_sign s Minus) (second-from y))
    begins-by Null Minus x y c l n o k =
        let down = order-down e.from f.from (low-to f.from.y e.from.y w.y y x) in
        subst (λ o. begin_by o (orient e.from e.to f.from) (orient f.from f.to e.from) (fans e f) ≡ true) (sym down ∙ k) (ap (λ s. same_sign s Plus) (first-from x))
    begins-by Null Null x y c l n Plus k = ap (λ s. same_sign s Minus) (second-from y)
    begins-by Null Null x y c l n Minus k = ap (λ s. same_sign s Plus) (first-from x)
    begins-by Null Null x y c l n Null k =
        let one = order-null e.from f.from k in
        let zero = ap (λ v. orient f.from f.to v) one ∙ ap sign (cross-here (from_to f.from f.to) f.from) in
        absurd (cc (sym (first-from x) ∙ zero))

    ends-by : (g h : Sign) → sign (e.to.y -ℤ w.y) ≡ g → sign (f.to.y -ℤ w.y) ≡ h → (g ≡ Null) ⊎ (h ≡ Null) → not (is_minus g) ≡ true → not (is_minus h) ≡ true → (o : Sign) → order e.to f.to ≡ o → end_by o (orient e.from e.to f.to) (orient f.from f.to e.to) ≡ true
    ends-by Minus h x y c l n o k = absurd (cc l)
    ends-by Plus Minus x y c l n o k = absurd (cc n)
    ends-by Null Minus x y c l n o k = absurd (cc n)
    ends-by Plus Plus x y (inl c) l n o k = absurd (cc c)
    ends-by Plus Plus x y (inr c) l n o k = absurd (cc c)
    ends-by Plus Null x y c l n o k =
        let down = order-down e.to f.to (to-high f.to.y e.to.y w.y y x) in
        subst (λ o. end_by o (orient e.from e.to f.to) (orient f.from f.to e.to) ≡ true) (sym down ∙ k) (ap (λ s. same_sign s Minus) (second-to y))
    ends-by Null Plus x y c l n o k =
        let up = order-up e.to f.to (to-high e.to.y f.to.y w.y x y) in
        subst (λ o. end_by o (orient e.from e.to f.to) (orient f.from f.to e.to) ≡ true) (sym up ∙ k) (ap (λ s. same_sign s Plus) (first-to x))
    ends-by Null Null x y c l n Plus k = ap (λ s. same_sign s Plus) (first-to x)
    ends-by Null Null x y c l n Minus k = ap (λ s. same_sign s Minus) (second-to y)
    ends-by Null Null x y c l n Null k =
        let one = order-null e.to f.to k in
        let zero = ap (λ v. orient f.from f.to v) one ∙ orient-top f in
        absurd (cc (sym (first-to x) ∙ zero))
      where
        orient-top : (f : Edge) → orient f.from f.to f.to ≡ Null
        orient-top f = ap sign (cross-self (from_to f.from f.to))

  -- w is as high as the higher of the lower ends
  pub begins_left : (w : Vector) → BottomsLeft w e f → (sign (e.from.y -ℤ w.y) ≡ Null) ⊎ (sign (f.from.y -ℤ w.y) ≡ Null) → not (is_plus (sign (e.from.y -ℤ w.y))) ≡ true → not (is_plus (sign (f.from.y -ℤ w.y))) ≡ true → BeginsLeft e f
  begins_left w (inl plus) c l n = record { begins = begins-by w plus (sign (e.from.y -ℤ w.y)) (sign (f.from.y -ℤ w.y)) refl refl c l n (order e.from f.from) refl }
  begins_left w (inr one) c l n = begins-one one.1 one.2

  -- w is as high as the lower of the upper ends
  pub ends_left : (w : Vector) → TopsLeft w e f → (sign (e.to.y -ℤ w.y) ≡ Null) ⊎ (sign (f.to.y -ℤ w.y) ≡ Null) → not (is_minus (sign (e.to.y -ℤ w.y))) ≡ true → not (is_minus (sign (f.to.y -ℤ w.y))) ≡ true → EndsLeft e f
  ends_left w (inl plus) c l n = record { ends = ends-by w plus (sign (e.to.y -ℤ w.y)) (sign (f.to.y -ℤ w.y)) refl refl c l n (order e.to f.to) refl }
  ends_left w (inr one) c l n =
      record {
        ends = subst (λ o. end_by o (orient e.from e.to f.to) (orient f.from f.to e.to) ≡ true) (sym (ap (order e.to) (sym one.1) ∙ order-self-null e.to))
            (both-in (is_null (orient e.from e.to f.to)) (is_null (orient f.from f.to e.to))
            (ap is_null (ap (λ v. orient e.from e.to v) (sym one.1) ∙ ap sign (cross-self (from_to e.from e.to))))
            (ap is_null (ap (λ v. orient f.from f.to v) one.1 ∙ ap sign (cross-self (from_to f.from f.to)))));
      }
    where
      both-in : (a b : Bool) → a ≡ true → b ≡ true → a && b ≡ true
      both-in a b h k = rw (h, k) refl

-- ---- one ends before the other begins
abbrev apart_2 : Sign → Sign → Sign → Sign → Sign → Sign → Bool
apart_2 k g c d y z =
    imp (not (is_minus g)) λ _. imp (agree c (times Plus k) d) λ _. imp (agree d (times g k) y) λ _. imp (agree y (times Plus k) z) λ _.
    all λ m. imp (not (is_minus m)) λ _. not (conflict_by (negated y) (negated z) c d Plus Plus m Plus)

abbrev apart_1 : Sign → Sign → Bool
apart_1 k g = all4 (apart_2 k g)

over-by : (a b c : ℤ) (g : Sign) → sign (c -ℤ b) ≡ g → not (is_minus g) ≡ true → sign (b -ℤ a) ≡ Plus → sign (c -ℤ a) ≡ Plus
over-by a b c Minus h n up = absurd (cc n)
over-by a b c Null h n up = let x = says-at Null (c -ℤ b) h in let y = says-at Plus (b -ℤ a) up in sign-from Plus (c -ℤ a) (omega (arith, ints))
over-by a b c Plus h n up = let x = says-at Plus (c -ℤ b) h in let y = says-at Plus (b -ℤ a) up in sign-from Plus (c -ℤ a) (omega (arith, ints))

under-by : (b c d : ℤ) (g : Sign) → sign (c -ℤ b) ≡ g → not (is_minus g) ≡ true → sign (d -ℤ c) ≡ Plus → sign (d -ℤ b) ≡ Plus
under-by b c d Minus h n up = absurd (cc n)
under-by b c d Null h n up = let x = says-at Null (c -ℤ b) h in let y = says-at Plus (d -ℤ c) up in sign-from Plus (d -ℤ b) (omega (arith, ints))
under-by b c d Plus h n up = let x = says-at Plus (c -ℤ b) h in let y = says-at Plus (d -ℤ c) up in sign-from Plus (d -ℤ b) (omega (arith, ints))

module _ (e f : Edge) (te : IsTall e) (tf : IsTall f) (up : not (is_minus (sign (f.from.y -ℤ e.to.y))) ≡ true) (after : not (is_minus (order e.to f.from)) ≡ true) where
  gap : Sign
  gap = sign (f.from.y -ℤ e.to.y)

  pub clear_apart : IsClearOf e f
  clear_apart =
      let k = fans e f in
      let c = orient f.from f.to e.from in let d = orient f.from f.to e.to in let y = beside f.from e f in let z = beside f.to e f in
      let first : agree c (times Plus k) d ≡ true =
      subst (λ g. agree c (times g k) d ≡ true) te (subst (λ d. agree c (times (sign (e.to.y -ℤ e.from.y)) k) d ≡ true) (at-first-to e f te tf) (subst (λ c. agree c (times (sign (e.to.y -ℤ e.from.y)) k) (beside e.to e f) ≡ true) (at-first-from e f te tf) (change-agrees e f te tf e.from e.to))) in
      let second : agree d (times (sign (f.from.y -ℤ e.to.y)) k) y ≡ true = subst (λ d. agree d (times (sign (f.from.y -ℤ e.to.y)) k) y ≡ true) (at-first-to e f te tf) (change-agrees e f te tf e.to f.from) in
      let third : agree y (times Plus k) z ≡ true = subst (λ g. agree y (times g k) z ≡ true) tf (change-agrees e f te tf f.from f.to) in
      let t = all4-out (apart_2 k (sign (f.from.y -ℤ e.to.y))) (all2-out apart_1 refl k (sign (f.from.y -ℤ e.to.y))) c d y z in
      let u = imp-out _ _ (imp-out _ _ (imp-out _ _ (imp-out _ _ t up) first) second) third in
      let v = imp-out _ _ (all-out (λ m. imp (not (is_minus m)) λ _. not (conflict_by (negated y) (negated z) c d Plus Plus m Plus)) u (order e.to f.from)) after in
      let low = over-by e.from.y e.to.y f.from.y (sign (f.from.y -ℤ e.to.y)) refl up te in
      let high = under-by e.to.y f.from.y f.to.y (sign (f.from.y -ℤ e.to.y)) refl up tf in
      let far : sign (f.to.y -ℤ e.from.y) ≡ Plus = over-by e.from.y e.to.y f.to.y (sign (f.to.y -ℤ e.to.y)) refl (ap (λ s. not (is_minus s)) high) te in
      conflicts-by e f
      ∙ ap (λ s. conflict_by s (orient e.from e.to f.to) c d (order e.from f.from) (order e.from f.to) (order e.to f.from) (order e.to f.to)) (at-second-from e f te tf)
      ∙ ap (λ s. conflict_by (negated y) s c d (order e.from f.from) (order e.from f.to) (order e.to f.from) (order e.to f.to)) (at-second-to e f te tf)
      ∙ ap (λ s. conflict_by (negated y) (negated z) c d s (order e.from f.to) (order e.to f.from) (order e.to f.to)) (order-up e.from f.from low)
      ∙ ap (λ s. conflict_by (negated y) (negated z) c d Plus s (order e.to f.from) (order e.to f.to)) (order-up e.from f.to far)
      ∙ ap (λ s. conflict_by (negated y) (negated z) c d Plus Plus (order e.to f.from) s) (order-up e.to f.to high)
      ∙ not-out (conflict_by (negated y) (negated z) c d Plus Plus (order e.to f.from) Plus) v
    where
      not-out : (b : Bool) → not b ≡ true → b ≡ false
      not-out false h = refl
      not-out true h = absurd (cc h)
