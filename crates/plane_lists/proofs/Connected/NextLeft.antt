-- The nearest edge left of an edge that runs up, in a list that is conflict-free and even at points.
use Rattle.std.proofs.Common.{Bool, List, ap, arith, eqb, eqb-true, false, inl, inr, not, refl, sym, true, ℕ, ◌%◌, ◌&&◌, ◌+◌, ◌∙◌, ◌≡◌, ◌⊎◌}
use Rattle.std.proofs.lemmas.Bool.{and_from, false_from_ne_true}
use Rattle.std.specs.List.{filter}
use lib.IntN.{◌-ℤ◌}
use Rattle.plane_lists.specs.Rings.Nesting.{IsNextLeft}
use Rattle.plane.specs.Bit.{bit}
use Rattle.plane.specs.Conflict.{IsClearOf}
use Rattle.plane.specs.Edge.{Edge, IsRisingEdge, same_edge}
use Rattle.plane.specs.Height.{is_in_span, is_right_above}
use Rattle.plane.specs.Sign.{Sign, is_minus, is_plus, sign}
use Rattle.plane.specs.Vector.{Vector}
use Rattle.plane_lists.specs.Lists.ConflictFree.{IsConflictFree, others}
use Rattle.plane_lists.specs.Lists.EdgeList.{IsEvenAtPoints}
use Rattle.lists.specs.Member.{In}
use Rattle.plane_lists.specs.Lists.OddSide.{runs_up_by_odd_side}
use Rattle.plane_lists.specs.Lists.Parity.{is_even}
use Rattle.plane_lists.specs.Lists.Rank.{IsOrder}
use Rattle.lists.proofs.ListsKit.{and-left, and-right, clash, in-filter, in-passes, into-filter, not-true-out, pairs-filter, pairs-weaker, total, total-+, total-same}
use Rattle.plane_lists.proofs.NestingKit.{beyond-right, beyond-span, bit-both}
use Rattle.plane.proofs.PlaneKit.{clear_back, right_chain, right_either, right_itself, right_of, rise-y, same_edge-refl, same_edge-true}
use Rattle.plane.proofs.SignKit.{agree, all3-out, imp, imp-out, not-minus-by}
use Rattle.plane_lists.proofs.WindingKit.{First, clear_pair, even-at-ends, first_exists, odd-is, right_apart, rising_in, some_odd, spanning_runs, split_off, to_right, total-ends}

-- ---- the edges that span a height are even in number
abbrev above : Vector → Vector → ℕ
above p v = bit (is_plus (sign (v.y -ℤ p.y)))

abbrev span_1 : Sign → Sign → Sign → Bool
span_1 u d v = imp (agree u d v) λ _. imp (not (is_minus d)) λ _. eqb (bit (is_plus u) + bit (is_plus v)) (bit (not (is_plus u) && is_plus v) + (bit (is_plus u) + bit (is_plus u)))

span-ends : (p : Vector) (t : Edge) → IsRisingEdge t → above p t.from + above p t.to ≡ bit (is_in_span p t) + (above p t.from + above p t.from)
span-ends p t r =
    let u = t.from in let v = t.to in
    let c = all3-out span_1 refl (sign (u.y -ℤ p.y)) (sign (v.y -ℤ u.y)) (sign (v.y -ℤ p.y)) in
    eqb-true _ _ (imp-out _ _ (imp-out _ _ c (rise-y p u v)) (not-minus-by (sign (v.y -ℤ u.y)) (sign (v.x -ℤ u.x)) r))

spans-even : (p : Vector) (es : List Edge) → IsConflictFree es → IsEvenAtPoints es → total (λ (t : Edge). bit (is_in_span p t)) es % 2 ≡ 0
spans-even p es pl even =
    let f = above p in
    let a = even-at-ends f es even in let b = total-ends f es in
    let low = λ (t : Edge). f t.from in let span = λ (t : Edge). bit (is_in_span p t) in
    let c = total-same (λ (t : Edge). f t.from + f t.to) (λ (t : Edge). span t + (low t + low t)) es (λ t i. span-ends p t (rising_in es t pl i)) in
    let d = total-+ span (λ (t : Edge). low t + low t) es in let e = total-+ low low es in omega arith

pub even-out : (n : ℕ) → is_even n ≡ true → n % 2 ≡ 0
even-out n h = eqb-true (n % 2) 0 h

module _ (es : List Edge) (pl : IsConflictFree es) (even : IsEvenAtPoints es) (a : Edge) (ia : In a es) (up : runs_up_by_odd_side es a ≡ true) (sa : is_in_span a.from a ≡ true) where
  abbrev p : Vector
  p = a.from

  -- t is left of a
  abbrev left : Edge → Bool
  left t = is_in_span p t && right_of p t a

  abbrev to_left : Edge → ℕ
  to_left t = bit (left t)

  either-of : (s t : Edge) → In s es → In t es → IsClearOf s t → is_in_span p s ≡ true → is_in_span p t ≡ true → right_of p s t ≡ not (right_of p t s)
  either-of s t i j c ss st = right_either p s t (right_apart p s t es pl i j c st ss)

  side-by : (t : Edge) → In t es → IsClearOf a t → (b : Bool) → is_in_span p t ≡ b → bit b ≡ bit (b && right_of p t a) + bit (b && right_of p a t)
  side-by t i c true h = one-of (right_of p t a) (right_of p a t) (either-of a t ia i c sa h)
    where
      one-of : (x y : Bool) → y ≡ not x → 1 ≡ bit x + bit y
      one-of true true h = absurd (cc h)
      one-of true false h = refl
      one-of false true h = refl
      one-of false false h = absurd (cc h)
  side-by t i c false h = refl

  other-of : (t : Edge) → In t (others a es) → In t es × (same_edge a t ≡ false)
  other-of t i = (in-filter (λ (t : Edge). not (same_edge a t)) es t i, not-true-out (same_edge a t) (in-passes (λ (t : Edge). not (same_edge a t)) es t i))

  clear-other : (t : Edge) → In t es → same_edge a t ≡ false → IsClearOf a t
  clear-other t i n = clear_pair a t es pl ia i n

  right-even : total (to_right p a) (others a es) % 2 ≡ 0
  right-even = even-out (total (to_right p a) (others a es)) (sym (spanning_runs p a es pl even ia sa) ∙ up)

  left-odd : is_even (total to_left (others a es)) ≡ false
  left-odd =
      let span = λ (t : Edge). bit (is_in_span p t) in
      let s = split_off span a es pl ia in let one : span a ≡ 1 = ap bit sa in
      let e = spans-even p es pl even in let r = right-even in
      let c = total-same span (λ (t : Edge). to_left t + to_right p a t) (others a es) (λ t i. let o = other-of t i in side-by t o.0 (clear-other t o.0 o.1) (is_in_span p t) refl) in
      let d = total-+ to_left (to_right p a) (others a es) in
      odd-is (total to_left (others a es)) (omega arith)

  -- from right to left
  abbrev nearer : Edge → Edge → Bool
  nearer x y = right_of p y x

  abbrev lefts : List Edge
  lefts = filter left es

  left-in : (t : Edge) → In t lefts → In t es
  left-in t i = in-filter left es t i

  left-span : (t : Edge) → In t lefts → is_in_span p t ≡ true
  left-span t i = and-left (is_in_span p t) (right_of p t a) (in-passes left es t i)

  left-right : (t : Edge) → In t lefts → right_of p t a ≡ true
  left-right t i = and-right (is_in_span p t) (right_of p t a) (in-passes left es t i)

  lefts-order : IsOrder false nearer lefts
  lefts-order = record {
    itself = λ x i. right_itself p x;
    chain = λ x y z i j k h g. right_chain p z y x (left-span z k) (left-span y j) (left-span x i) g h;
    either = pairs-weaker IsClearOf (λ x y. nearer x y ≡ not (nearer y x)) lefts
        (λ x y i j c. either-of y x (left-in y j) (left-in x i) (clear_back x y c) (left-span y j) (left-span x i))
        (pairs-filter IsClearOf left es pl.clear);
  }

  nearest-left : (m : Edge) × First nearer m lefts
  nearest-left =
      let t = some_odd left (others a es) left-odd in
      first_exists nearer lefts t.0 (into-filter left es t.0 (other-of t.0 t.1).0 t.2) lefts-order

  module _ (m : Edge) (f : First nearer m lefts) where
    abbrev im : In m es
    im = left-in m f.here

    sm : is_in_span p m ≡ true
    sm = left-span m f.here

    ma : right_of p m a ≡ true
    ma = left-right m f.here

    -- nothing lies between
    between-by : (t : Edge) → is_in_span p t ≡ true → right_of p m t ≡ true → (t ≡ m) ⊎ (right_of p t m ≡ true) → ⊥
    between-by t s h (inl e) = clash (right_of p m m) (sym (ap (λ w. right_of p m w) e) ∙ h) (right_itself p m)
    between-by t s h (inr k) = clash (right_of p m m) (right_chain p m t m sm s sm h k) (right_itself p m)

    between : (t : Edge) → In t es → is_in_span p t ≡ true → right_of p m t ≡ true → right_of p t a ≡ true → ⊥
    between t i s h k = between-by t s h (f.first t (into-filter left es t i (and_from (is_in_span p t) (right_of p t a) s k)))

    beyond-by : (t : Edge) → In t es → is_right_above p m t ≡ true → (b : Bool) → same_edge a t ≡ b → (t ≡ a) ⊎ (right_of p a t ≡ true)
    beyond-by t i h true e = inl (sym (same_edge-true a t e))
    beyond-by t i h false e =
        let st = beyond-span p m t h in
        let n = false_from_ne_true (right_of p t a) (λ k. between t i st (beyond-right p m t h) k) in
        inr (either-of a t ia i (clear-other t i e) sa st ∙ ap not n)

    beyond : (t : Edge) → In t es → is_right_above p m t ≡ true → (t ≡ a) ⊎ (right_of p a t ≡ true)
    beyond t i h = beyond-by t i h (same_edge a t) refl

    next : IsNextLeft a m es
    next = record { spans = sm; right = and_from (is_in_span p a) (right_of p m a) sa ma; nearest = beyond }

    beside-same : (t : Edge) → In t (others a es) → to_right p m t ≡ to_right p a t
    beside-same t i =
        let o = other-of t i in
        bit-both (is_right_above p m t) (is_right_above p a t)
        (λ k. and_from (is_in_span p t) (right_of p a t) (beyond-span p m t k) (right-by t o.1 (beyond t o.0 k)))
        (λ k. and_from (is_in_span p t) (right_of p m t) (beyond-span p a t k) (right_chain p m a t sm sa (beyond-span p a t k) ma (beyond-right p a t k)))
      where
        right-by : (t : Edge) → same_edge a t ≡ false → (t ≡ a) ⊎ (right_of p a t ≡ true) → right_of p a t ≡ true
        right-by t n (inl e) = absurd (clash (same_edge a a) (same_edge-refl a) (sym (ap (same_edge a) e) ∙ n))
        right-by t n (inr h) = h

    -- it runs down
    down : runs_up_by_odd_side es m ≡ false
    down =
        let w = total-same (to_right p m) (to_right p a) (others a es) beside-same in
        let s = split_off (to_right p m) a es pl ia in let t = split_off (to_right p m) m es pl im in
        let one : to_right p m a ≡ 1 = ap bit (and_from (is_in_span p a) (right_of p m a) sa ma) in
        let none : to_right p m m ≡ 0 = ap bit (own (is_in_span p m) (right_of p m m) (right_itself p m)) in
        let e = right-even in
        spanning_runs p m es pl even im sm ∙ odd-is (total (to_right p m) (others m es)) (omega arith)
      where
        own : (x y : Bool) → y ≡ false → (x && y) ≡ false
        own true y h = h
        own false y h = refl

  -- an edge that runs up has a nearest edge on its left, which runs down
  pub next_left : (m : Edge) × In m es × (runs_up_by_odd_side es m ≡ false) × IsNextLeft a m es
  next_left = let n = nearest-left in (n.0, im n.0 n.1, down n.0 n.1, next n.0 n.1)
