-- A list whose winding number is 0 or 1 at all points off it is directed by the odd side.
use Rattle.std.proofs.Common.{All, Bool, List, [], ap, arith, cond, false, inl, inr, map, not, refl, subst, sym, true, ℕ, ◌%◌, ◌&&◌, ◌+◌, ◌∙◌, ◌∷◌, ◌≡◌, ◌≤◌, ◌⊎◌}
use Rattle.std.specs.List.{filter}
use borrow.Author.Differences.{ints, up}
use lib.IntN.{pos, ℤ, ◌*ℤ◌, ◌+ℤ◌, ◌-ℤ◌}
use Rattle.plane.specs.Bit.{bit}
use Rattle.plane.specs.Conflict.{IsClearOf}
use Rattle.plane.specs.Edge.{Edge, IsRisingEdge, ends_at, reversed, same_edge, segment_of}
use Rattle.plane.specs.FreeSegment.{IsBetween}
use Rattle.plane.specs.Height.{distance_right, is_in_span, is_left_of}
use Rattle.plane.specs.Order.{order}
use Rattle.plane.specs.RayCrossing.{IsOff, IsOffEdge, off_by}
use Rattle.plane.specs.Scale.{scaled_edge, scaled_point}
use Rattle.plane.specs.Sign.{Minus, Null, Plus, Sign, is_minus, is_null, is_plus, negated, sign, then_sign}
use Rattle.plane.specs.Vector.{Vector, cross, dot, east, from_to, one_at, orient, same_point}
use Rattle.plane_lists.specs.Lists.ConflictFree.{IsConflictFree, others}
use Rattle.plane_lists.specs.Lists.EdgeList.{IsBalanced, IsEvenAtPoints, crossing_count, up_count, winding_number}
use Rattle.lists.specs.Member.{EachPair, In}
use Rattle.plane_lists.specs.Lists.OddSide.{directed, directed_edge, runs_up_by_odd_side}
use Rattle.plane_lists.specs.Lists.Parity.{is_even}
use Rattle.plane_lists.specs.Lists.Ring.{IsAnchor, segments_of}
use Rattle.plane_lists.specs.Lists.ScaledEdges.{scaled_edges}
use Rattle.plane_lists.specs.Lists.Sided.{IsSided}
use Rattle.plane.proofs.PlaneKit.{ends_at-from, same_edge-true, step_of, tall-by, line-order-up, order-reversed, same_point-true, cross-agree, cross-chain, cross-negated, cross-self, lift2, orient-round, dot-swap, down_seen, level-side, up_seen, order-scaled, view_at}
use Rattle.plane.proofs.SignKit.{lift, same, ◌⊞◌, ◌⊟◌, ◌⊠◌, agree, all2-out, imp, imp-out, null-zero, plus-times, same_bool, same_sign, same_sign-true, says-at, sign-from, sign-reversed, times, same_bool-refl, minus-not-null}
use Rattle.plane_lists.proofs.Lists.AlongSegment.{off_all}
use Rattle.plane_lists.proofs.Lists.Anchors.{begins-by, level-plus, some-anchor}
use Rattle.plane_lists.proofs.Lists.Balance.{directed_balanced, ends-by}
use Rattle.plane_lists.proofs.Lists.ConflictFree.{misses_others, rising_in, segment-rises, split_off}
use Rattle.plane_lists.proofs.Lists.Levels.{down-run, first-tells, inner_runs, low-plus, off_not_null, to_right, up-run}
use Rattle.lists.proofs.ListsKit.{all-in, even_or_odd, in-all, in-filter, in-map, in-map-out, in-passes, into-filter, none-sum, none_or_one, rest_nothing, total, total-+, total-filter, total-is, total-map, total-same}
use Rattle.plane_lists.proofs.Lists.OddSides.{covers-crossings}
use Rattle.plane_lists.proofs.Lists.Ranks.{even-is, odd-is}
use Rattle.plane_lists.proofs.Lists.RingCounts.{bit-sum, direct-is, ends-swap, keeps, total-member}
use Rattle.plane_lists.proofs.Lists.ScaledLists.{even_scaled, plain_scaled, rational_count, runs-scaled}
use Rattle.plane_lists.proofs.Lists.Shifts.{left-left, left-off, left_point, right-left, right-off, right_point}
use Rattle.plane_lists.proofs.Lists.ScaledSides.{edges-twice, segment-scaled, segments-scaled}

abbrev pub rises : Edge → Bool
rises x = is_plus (order x.from x.to)

scale-segment : (k : ℤ) (b : Bool) (x : Edge) → scaled_edge k x ≡ cond b (scaled_edge k (cond b x (reversed x))) (reversed (scaled_edge k (cond b x (reversed x))))
scale-segment k true x = refl
scale-segment k false x = refl

split-left : (s : Bool) (o : Sign) (n : ℕ) → cond (s && not (is_minus o)) n 0 ≡ cond (s && is_plus o) n 0 + cond (s && is_null o) n 0
split-left false o n = refl
split-left true Plus n = omega arith
split-left true Null n = omega arith
split-left true Minus n = refl

own-share : (s b : Bool) → cond s (bit b) 0 + cond s (bit (not b)) 0 ≡ bit s
own-share true true = refl
own-share true false = refl
own-share false b = refl

tells-up : (b : Bool) (u d o n : ℕ) → o ≡ bit b → n ≡ bit (not b) → (u ≡ d) ⊎ (u ≡ d + 1) → (u + o ≡ d + n) ⊎ (u + o ≡ (d + n) + 1) → is_even (u + d) ≡ b
tells-up true u d o n h k (inl x) y = even-is (u + d) (omega arith)
tells-up false u d o n h k (inr x) y = odd-is (u + d) (omega arith)
tells-up true u d o n h k (inr x) (inl y) = absurd (omega arith)
tells-up true u d o n h k (inr x) (inr y) = absurd (omega arith)
tells-up false u d o n h k (inl x) (inl y) = absurd (omega arith)
tells-up false u d o n h k (inl x) (inr y) = absurd (omega arith)

beside-zero : (k n d c : Sign) → agree k (times n d) (times Plus c) ≡ true → n ≡ Null → k ≡ c
beside-zero k Null d c h e = same_sign-true k c (imp-out _ _ (all2-out (λ k c. imp (agree k Null (times Plus c)) λ _. same_sign k c) refl k c) h)
beside-zero k Plus d c h e = absurd (cc e)
beside-zero k Minus d c h e = absurd (cc e)

null-out : (s : Sign) → not (is_null s) ≡ true → is_null s ≡ false
null-out Plus h = refl
null-out Minus h = refl
null-out Null h = absurd (cc h)

both-false : (b c : Bool) → (b ≡ true → c ≡ false) → (b && c) ≡ false
both-false true c h = h refl
both-false false c h = refl

and-zero : (b : Bool) → bit (b && false) ≡ 0
and-zero true = refl
and-zero false = refl

off-negated : (c s : Sign) → off_by c s ≡ true → off_by (negated c) s ≡ true
off-negated Plus s h = refl
off-negated Minus s h = refl
off-negated Null Plus h = refl
off-negated Null Null h = h
off-negated Null Minus h = h

off-swap : (a b : Vector) → IsOff a b → IsOff b a
off-swap a b h =
    subst (λ c. off_by c (sign (dot b a)) ≡ true) (sym (cross-negated a b)) (subst (λ d. off_by (negated (sign (cross a b))) d ≡ true) (ap sign (sym (dot-swap a b))) (off-negated (sign (cross a b)) (sign (dot a b)) h))

off-segment : (q : Vector) (k : ℤ) (b : Bool) (x : Edge) → IsOffEdge q (scaled_edge k (cond b x (reversed x))) → IsOffEdge q (scaled_edge k x)
off-segment q k true x h = h
off-segment q k false x h = off-swap (from_to q (scaled_point k x.to)) (from_to q (scaled_point k x.from)) h

module _ (es : List Edge) (pl : IsConflictFree (segments_of es)) (even : IsEvenAtPoints (segments_of es)) (e : Edge) (i : In e es) (p : Vector)
    (lo : sign ((segment_of e).from.y -ℤ p.y) ≡ Minus) (hi : sign ((segment_of e).to.y -ℤ p.y) ≡ Plus) (on : orient (segment_of e).from (segment_of e).to p ≡ Null) where
  abbrev s : Edge
  s = segment_of e

  abbrev U : List Edge
  U = segments_of es

  is' : In s U
  is' = in-map segment_of es e i

  rs : IsRisingEdge s
  rs = rising_in U s pl is'

  s-span : is_in_span p s ≡ true
  s-span = ap (λ z. not (is_plus z) && is_plus (sign (s.to.y -ℤ p.y))) lo ∙ ap (λ z. true && is_plus z) hi

  inside-s : IsBetween s.from s.to p
  inside-s =
      let st = from_to s.from s.to in
      let low = low-plus p s.from s.to lo hi in
      let z = rest_nothing (cross st (from_to s.from p)) (cross st (from_to p s.to)) (cross st st) (cross-chain st s.from p s.to) (null-zero _ on) (cross-self st) in
      record {
        on_line = on;
        after_s = line-order-up s.from s.to s.from p rs on ∙ ap (λ z. then_sign z (sign (p.x -ℤ s.from.x))) low;
        before_t = line-order-up s.from s.to p s.to rs (ap sign z) ∙ ap (λ z. then_sign z (sign (s.to.x -ℤ p.x))) hi;
      }

  not-same : (x : Edge) → is_in_span p (segment_of x) ≡ false → (b : Bool) → same_edge s (segment_of x) ≡ b → b ≡ false
  not-same x h false g = refl
  not-same x h true g = let q = ap (is_in_span p) (same_edge-true s (segment_of x) g) in absurd (cc (sym s-span ∙ q ∙ h))

  off-rest : All (IsOffEdge p) (others s U)
  off-rest = off_all s.from s.to (from_to p) (view_at s.from s.to p inside-s) (others s U) (misses_others s U pl is')

  not-on : (t : Edge) → In t (others s U) → is_in_span p t ≡ true → not (is_null (sign (cross (from_to p t.from) (from_to p t.to)))) ≡ true
  not-on t j h = off_not_null (from_to p t.from) (from_to p t.to) (in-all (IsOffEdge p) (others s U) t off-rest j) h

  rest-right : (t : Edge) → In t (others s U) → to_right p s t ≡ bit (is_left_of p t)
  rest-right t j =
      let c = sign (cross (from_to p t.from) (from_to p t.to)) in
      let ct : c ≡ orient t.from t.to p = ap sign (sym (orient-round p t.from t.to)) in
      let cs = ap sign (sym (orient-round p s.from s.to)) ∙ on in
      let a = subst (λ z. agree (sign (cross (distance_right p s) (distance_right p t))) (times (sign (cross (from_to p s.from) (from_to p s.to))) (sign (t.to.y -ℤ t.from.y))) (times z c) ≡ true) (tall-by p s s-span) (cross-agree (distance_right p s) (distance_right p t)) in
      let k = beside-zero (sign (cross (distance_right p s) (distance_right p t))) (sign (cross (from_to p s.from) (from_to p s.to))) (sign (t.to.y -ℤ t.from.y)) c a cs in
      sym (first-tells (is_in_span p t) (sign (cross (distance_right p s) (distance_right p t))) (sign (cross (step_of t) (step_of s))) (λ h. subst (λ z. not (is_null z) ≡ true) (sym k) (not-on t j h)))
      ∙ ap (λ z. bit (is_in_span p t && is_plus z)) (k ∙ ct)

  own-not-left : bit (is_left_of p s) ≡ 0
  own-not-left = ap (λ z. bit (is_in_span p s && is_plus z)) on ∙ and-zero (is_in_span p s)

  -- the direction of the odd side, by the parity at p
  runs-here : runs_up_by_odd_side U s ≡ is_even (crossing_count east p U)
  runs-here =
      let a = covers-crossings p U pl in let b = split_off (λ t. bit (is_left_of p t)) s U pl is' in let c = own-not-left in
      let d = total-same (to_right p s) (λ t. bit (is_left_of p t)) (others s U) rest-right in
      let n : total (to_right p s) (others s U) ≡ crossing_count east p U = omega arith in
      inner_runs p s U pl is' lo hi even ∙ ap is_even n

  abbrev own : Edge → Bool
  own t = is_in_span p t && is_null (orient t.from t.to p)

  own-one : total (λ x. bit (own (segment_of x))) es ≡ 1
  own-one =
      let a = sym (total-map (λ t. bit (own t)) segment_of es) in let b = split_off (λ t. bit (own t)) s U pl is' in
      let c : bit (own s) ≡ 1 = ap (λ z. bit (z && is_null (orient s.from s.to p))) s-span ∙ ap (λ z. bit (is_null z)) on in
      let d = total-same (λ t. bit (own t)) (λ t. 0) (others s U) (λ t j. ap bit (both-false (is_in_span p t) (is_null (orient t.from t.to p))
      (λ h. null-out (orient t.from t.to p) (subst (λ z. not (is_null z) ≡ true) (ap sign (sym (orient-round p t.from t.to))) (not-on t j h))))) in
      let z = none-sum (others s U) in omega arith

  module _ (k : ℤ) (hk : sign k ≡ Plus) (h1 : sign (k -ℤ pos 1) ≡ Plus) (big : (t : Edge) → In t U → is_in_span p t ≡ true → sign (k -ℤ (t.to.y -ℤ t.from.y)) ≡ Plus) where
    rk : (x : Edge) → In x es → IsRisingEdge (scaled_edge k (segment_of x))
    rk x j = order-scaled k hk (segment_of x).from (segment_of x).to ∙ segment-rises es pl x j

    up-q : (q : Vector) → total (up_seen east (from_to q)) (scaled_edges k es) ≡ total (λ x. cond (is_left_of q (scaled_edge k (segment_of x))) (bit (rises x)) 0) es
    up-q q = total-map (up_seen east (from_to q)) (scaled_edge k) es ∙ total-same (λ x. up_seen east (from_to q) (scaled_edge k x)) (λ x. cond (is_left_of q (scaled_edge k (segment_of x))) (bit (rises x)) 0) es
        (λ x j. ap (up_seen east (from_to q)) (scale-segment k (rises x) x) ∙ up-run q (scaled_edge k (segment_of x)) (rk x j) (rises x))

    down-q : (q : Vector) → total (down_seen east (from_to q)) (scaled_edges k es) ≡ total (λ x. cond (is_left_of q (scaled_edge k (segment_of x))) (bit (not (rises x))) 0) es
    down-q q = total-map (down_seen east (from_to q)) (scaled_edge k) es ∙ total-same (λ x. down_seen east (from_to q) (scaled_edge k x)) (λ x. cond (is_left_of q (scaled_edge k (segment_of x))) (bit (not (rises x))) 0) es
        (λ x j. ap (down_seen east (from_to q)) (scale-segment k (rises x) x) ∙ down-run q (scaled_edge k (segment_of x)) (rk x j) (rises x))

    bigx : (x : Edge) → In x es → is_in_span p (segment_of x) ≡ true → sign (k -ℤ ((segment_of x).to.y -ℤ (segment_of x).from.y)) ≡ Plus
    bigx x j = big (segment_of x) (in-map segment_of es x j)

    right-sum : (f : Edge → ℕ) → total (λ x. cond (is_left_of (right_point k p) (scaled_edge k (segment_of x))) (f x) 0) es ≡ total (λ x. cond (is_left_of p (segment_of x)) (f x) 0) es
    right-sum f = total-same (λ x. cond (is_left_of (right_point k p) (scaled_edge k (segment_of x))) (f x) 0) (λ x. cond (is_left_of p (segment_of x)) (f x) 0) es
        (λ x j. ap (λ b. cond b (f x) 0) (right-left k hk h1 p (segment_of x) (segment-rises es pl x j) (bigx x j)))

    left-sum : (f : Edge → ℕ) → total (λ x. cond (is_left_of (left_point k p) (scaled_edge k (segment_of x))) (f x) 0) es ≡ total (λ x. cond (is_left_of p (segment_of x)) (f x) 0) es + total (λ x. cond (own (segment_of x)) (f x) 0) es
    left-sum f =
        total-same (λ x. cond (is_left_of (left_point k p) (scaled_edge k (segment_of x))) (f x) 0) (λ x. cond (is_left_of p (segment_of x)) (f x) 0 + cond (own (segment_of x)) (f x) 0) es
        (λ x j. ap (λ b. cond b (f x) 0) (left-left k hk h1 p (segment_of x) (segment-rises es pl x j) (bigx x j)) ∙ split-left (is_in_span p (segment_of x)) (orient (segment_of x).from (segment_of x).to p) (f x))
        ∙ total-+ (λ x. cond (is_left_of p (segment_of x)) (f x) 0) (λ x. cond (own (segment_of x)) (f x) 0) es

    parity-here : (winding_number east (right_point k p) (scaled_edges k es) ≡ pos 0) ⊎ (winding_number east (right_point k p) (scaled_edges k es) ≡ pos 1) →
        (winding_number east (left_point k p) (scaled_edges k es) ≡ pos 0) ⊎ (winding_number east (left_point k p) (scaled_edges k es) ≡ pos 1) → is_even (crossing_count east p U) ≡ rises e
    parity-here wr wl =
        let R = right_point k p in let L = left_point k p in
        let ru = sym (total-is (up_seen east (from_to R)) (scaled_edges k es)) ∙ up-q R ∙ right-sum (λ x. bit (rises x)) in
        let rd = sym (total-is (down_seen east (from_to R)) (scaled_edges k es)) ∙ down-q R ∙ right-sum (λ x. bit (not (rises x))) in
        let lu = sym (total-is (up_seen east (from_to L)) (scaled_edges k es)) ∙ up-q L ∙ left-sum (λ x. bit (rises x)) in
        let ld = sym (total-is (down_seen east (from_to L)) (scaled_edges k es)) ∙ down-q L ∙ left-sum (λ x. bit (not (rises x))) in
        let A = total (λ x. cond (is_left_of p (segment_of x)) (bit (rises x)) 0) es in let B = total (λ x. cond (is_left_of p (segment_of x)) (bit (not (rises x))) 0) es in
        let O = total (λ x. cond (own (segment_of x)) (bit (rises x)) 0) es in let N = total (λ x. cond (own (segment_of x)) (bit (not (rises x))) 0) es in
        let one = own-one in
        let on' = sym (total-+ (λ x. cond (own (segment_of x)) (bit (rises x)) 0) (λ x. cond (own (segment_of x)) (bit (not (rises x))) 0) es)
        ∙ total-same (λ x. cond (own (segment_of x)) (bit (rises x)) 0 + cond (own (segment_of x)) (bit (not (rises x))) 0) (λ x. bit (own (segment_of x))) es (λ x j. own-share (own (segment_of x)) (rises x)) in
        let oe : own s ≡ true = ap (λ z. z && is_null (orient s.from s.to p)) s-span ∙ ap (λ z. is_null z) on in
        let m1 = total-member (λ x. cond (own (segment_of x)) (bit (rises x)) 0) es e i in let m2 = total-member (λ x. cond (own (segment_of x)) (bit (not (rises x))) 0) es e i in
        let q1 = ap (λ b. cond b (bit (rises e)) 0) oe in let q2 = ap (λ b. cond b (bit (not (rises e))) 0) oe in
        let bs = bit-sum (rises e) in
        let ho : O ≡ bit (rises e) = omega arith in let hn : N ≡ bit (not (rises e)) = omega arith in
        let ab = sym (total-+ (λ x. cond (is_left_of p (segment_of x)) (bit (rises x)) 0) (λ x. cond (is_left_of p (segment_of x)) (bit (not (rises x))) 0) es)
        ∙ total-same (λ x. cond (is_left_of p (segment_of x)) (bit (rises x)) 0 + cond (is_left_of p (segment_of x)) (bit (not (rises x))) 0) (λ x. bit (is_left_of p (segment_of x))) es (λ x j. own-share (is_left_of p (segment_of x)) (rises x))
        ∙ sym (total-map (λ t. bit (is_left_of p t)) segment_of es) ∙ sym (covers-crossings p U pl) in
        let x1 = none_or_one _ _ wr in let x2 = none_or_one _ _ wl in
        ap is_even (sym ab)
        ∙ tells-up (rises e) A B O N ho hn
        (subst (λ u. (u ≡ B) ⊎ (u ≡ B + 1)) ru (subst (λ d. (up_count east R (scaled_edges k es) ≡ d) ⊎ (up_count east R (scaled_edges k es) ≡ d + 1)) rd x1))
        (subst (λ u. (u ≡ B + N) ⊎ (u ≡ (B + N) + 1)) lu (subst (λ d. (up_count east L (scaled_edges k es) ≡ d) ⊎ (up_count east L (scaled_edges k es) ≡ d + 1)) ld x2))

    -- the odd side directs e as it is
    pub keeps-here : (winding_number east (right_point k p) (scaled_edges k es) ≡ pos 0) ⊎ (winding_number east (right_point k p) (scaled_edges k es) ≡ pos 1) →
        (winding_number east (left_point k p) (scaled_edges k es) ≡ pos 0) ⊎ (winding_number east (left_point k p) (scaled_edges k es) ≡ pos 1) → keeps es e ≡ true
    keeps-here wr wl = ap (λ b. same_bool b (rises e)) (runs-here ∙ parity-here wr wl) ∙ same_bool-refl (rises e)

    off-x : (x : Edge) → In x es → is_in_span p (segment_of x) ≡ false → IsOffEdge p (segment_of x)
    off-x x j h = in-all (IsOffEdge p) (others s U) (segment_of x) off-rest (into-filter (λ (t : Edge). not (same_edge s t)) U (segment_of x) (in-map segment_of es x j) (ap not (not-same x h (same_edge s (segment_of x)) refl)))

    pub off-right : All (IsOffEdge (right_point k p)) (scaled_edges k es)
    off-right = all-in (IsOffEdge (right_point k p)) (scaled_edges k es) (λ t j.
        let r = in-map-out (scaled_edge k) es t j in
        subst (IsOffEdge (right_point k p)) (sym r.2)
        (off-segment (right_point k p) k (rises r.0) r.0 (right-off k hk h1 p (segment_of r.0) (segment-rises es pl r.0 r.1) (bigx r.0 r.1) (off-x r.0 r.1))))

    pub off-left : All (IsOffEdge (left_point k p)) (scaled_edges k es)
    off-left = all-in (IsOffEdge (left_point k p)) (scaled_edges k es) (λ t j.
        let r = in-map-out (scaled_edge k) es t j in
        subst (IsOffEdge (left_point k p)) (sym r.2)
        (off-segment (left_point k p) k (rises r.0) r.0 (left-off k hk h1 p (segment_of r.0) (segment-rises es pl r.0 r.1) (bigx r.0 r.1) (off-x r.0 r.1))))

-- ---- a number that is greater than all heights
tall-bound : (n : ℕ) (z : ℤ) → up z ≤ n → sign z ≡ Plus → sign (pos (2 + n) -ℤ z) ≡ Plus
tall-bound n z h k = let a = says-at Plus z k in sign-from Plus (pos (2 + n) -ℤ z) (omega (arith, ints))

plus-two : (n : ℕ) → sign (pos (2 + n)) ≡ Plus
plus-two n = sign-from Plus (pos (2 + n)) (omega (arith, ints))

less-two : (n : ℕ) → sign (pos (2 + n) -ℤ pos 1) ≡ Plus
less-two n = sign-from Plus (pos (2 + n) -ℤ pos 1) (omega (arith, ints))

keeps-at : (es : List Edge) → IsConflictFree (segments_of es) → IsEvenAtPoints (segments_of es) →
    ((q : ℤ) → sign q ≡ Plus → (p : Vector) → All (IsOffEdge p) (scaled_edges q es) → (winding_number east p (scaled_edges q es) ≡ pos 0) ⊎ (winding_number east p (scaled_edges q es) ≡ pos 1)) →
    (e : Edge) → In e es → (p : Vector) → sign ((segment_of e).from.y -ℤ p.y) ≡ Minus → sign ((segment_of e).to.y -ℤ p.y) ≡ Plus → orient (segment_of e).from (segment_of e).to p ≡ Null → keeps es e ≡ true
keeps-at es pl even counted e i p lo hi on =
    let n = total (λ (t : Edge). up (t.to.y -ℤ t.from.y)) (segments_of es) in let k = pos (2 + n) in
    let hk = plus-two n in let h1 = less-two n in
    let big = λ (t : Edge) (j : In t (segments_of es)) (h : is_in_span p t ≡ true). tall-bound n (t.to.y -ℤ t.from.y) (total-member (λ (t : Edge). up (t.to.y -ℤ t.from.y)) (segments_of es) t j) (tall-by p t h) in
    keeps-here es pl even e i p lo hi on k hk h1 big
    (counted k hk (right_point k p) (off-right es pl even e i p lo hi on k hk h1 big))
    (counted k hk (left_point k p) (off-left es pl even e i p lo hi on k hk h1 big))

-- ---- the doubled list has a point in the middle of each edge
keeps-scaled : (k : ℤ) (hk : sign k ≡ Plus) (es : List Edge) (e : Edge) → keeps (scaled_edges k es) (scaled_edge k e) ≡ keeps es e
keeps-scaled k hk es e =
    ap (λ (l : List Edge). same_bool (runs_up_by_odd_side l (segment_of (scaled_edge k e))) (rises (scaled_edge k e))) (segments-scaled k hk es)
    ∙ ap (λ (s : Edge). same_bool (runs_up_by_odd_side (scaled_edges k (segments_of es)) s) (rises (scaled_edge k e))) (segment-scaled k hk e)
    ∙ ap (λ b. same_bool b (rises (scaled_edge k e))) (runs-scaled k hk (segment_of e) (segments_of es))
    ∙ ap (λ b. same_bool (runs_up_by_odd_side (segments_of es) (segment_of e)) b) (ap is_plus (order-scaled k hk e.from e.to))

product-plus : (k m : ℤ) → sign k ≡ Plus → sign m ≡ Plus → sign (k *ℤ m) ≡ Plus
product-plus k m h g = plus-times k m h ∙ g

mid-low : (a b : ℤ) → sign (b -ℤ a) ≡ Plus → sign (pos 2 *ℤ a -ℤ (a +ℤ b)) ≡ Minus
mid-low a b h =
    let a' = lift a in let b' = lift b in
    let e : pos 2 *ℤ a -ℤ (a +ℤ b) ≡ a -ℤ b = same (lift (pos 2) ⊠ a' ⊟ (a' ⊞ b')) (a' ⊟ b') (omega arith) in
    ap sign e ∙ sign-reversed (b -ℤ a) (a -ℤ b) (omega (arith, ints)) ∙ ap negated h

mid-high : (a b : ℤ) → sign (b -ℤ a) ≡ Plus → sign (pos 2 *ℤ b -ℤ (a +ℤ b)) ≡ Plus
mid-high a b h =
    let a' = lift a in let b' = lift b in
    let e : pos 2 *ℤ b -ℤ (a +ℤ b) ≡ b -ℤ a = same (lift (pos 2) ⊠ b' ⊟ (a' ⊞ b')) (b' ⊟ a') (omega arith) in ap sign e ∙ h

mid-on : (a b : Vector) → cross (from_to (scaled_point (pos 2) a) (scaled_point (pos 2) b)) (from_to (scaled_point (pos 2) a) (record { x = a.x +ℤ b.x; y = a.y +ℤ b.y })) ≡ pos 0
mid-on a b =
    let a' = lift2 a in let b' = lift2 b in let t = lift (pos 2) in
    same ((t ⊠ b'.x2 ⊟ t ⊠ a'.x2) ⊠ ((a'.y2 ⊞ b'.y2) ⊟ t ⊠ a'.y2) ⊟ (t ⊠ b'.y2 ⊟ t ⊠ a'.y2) ⊠ ((a'.x2 ⊞ b'.x2) ⊟ t ⊠ a'.x2)) (lift (pos 0)) (omega arith)

keeps-sloping : (es : List Edge) → IsSided es → IsEvenAtPoints (segments_of es) → (e : Edge) → In e es → sign ((segment_of e).to.y -ℤ (segment_of e).from.y) ≡ Plus → keeps es e ≡ true
keeps-sloping es d even e i h =
    let two : sign (pos 2) ≡ Plus = refl in
    let es2 = scaled_edges (pos 2) es in let s = segment_of e in
    let p : Vector = record { x = s.from.x +ℤ s.to.x; y = s.from.y +ℤ s.to.y } in
    let q = segment-scaled (pos 2) two e in
    let pl2 = subst IsConflictFree (sym (segments-scaled (pos 2) two es)) (plain_scaled (pos 2) two (segments_of es) d.plain) in
    let ev2 = subst IsEvenAtPoints (sym (segments-scaled (pos 2) two es)) (even_scaled (pos 2) two (segments_of es) even) in
    let c2 = λ (k : ℤ) (hk : sign k ≡ Plus) (w : Vector) (off : All (IsOffEdge w) (scaled_edges k es2)).
    subst (λ l. (winding_number east w l ≡ pos 0) ⊎ (winding_number east w l ≡ pos 1)) (sym (edges-twice k (pos 2) es))
    (d.counted (k *ℤ pos 2) (product-plus k (pos 2) hk two) w (subst (λ l. All (IsOffEdge w) l) (edges-twice k (pos 2) es) off)) in
    sym (keeps-scaled (pos 2) two es e)
    ∙ keeps-at es2 pl2 ev2 c2 (scaled_edge (pos 2) e) (in-map (scaled_edge (pos 2)) es e i) p
    (subst (λ (t : Edge). sign (t.from.y -ℤ p.y) ≡ Minus) (sym q) (mid-low s.from.y s.to.y h))
    (subst (λ (t : Edge). sign (t.to.y -ℤ p.y) ≡ Plus) (sym q) (mid-high s.from.y s.to.y h))
    (subst (λ (t : Edge). orient t.from t.to p ≡ Null) (sym q) (ap sign (mid-on s.from s.to)))

-- ---- level edges, by balance
abbrev bad : List Edge → List Edge
bad es = filter (λ e. not (keeps es e)) es

segments-filter : (q : Edge → Bool) (es : List Edge) (t : Edge) → In t (segments_of (filter q es)) → (x : Edge) × In x es × (q x ≡ true) × (t ≡ segment_of x)
segments-filter q es t i = let r = in-map-out segment_of (filter q es) t i in (r.0, in-filter q es r.0 r.1, in-passes q es r.0 r.1, r.2)

pairs-map-by : (b : Bool) (x : Edge) (ys : List Edge) → All (IsClearOf (segment_of x)) (segments_of ys) → EachPair IsClearOf (segments_of ys) → EachPair IsClearOf (segments_of (cond b (x ∷ ys) ys))
pairs-map-by true x ys h p = (h, p)
pairs-map-by false x ys h p = p

pairs-bad : (q : Edge → Bool) (es : List Edge) → EachPair IsClearOf (segments_of es) → EachPair IsClearOf (segments_of (filter q es))
pairs-bad q [] p = tt
pairs-bad q (x ∷ xs) p =
    pairs-map-by (q x) x (filter q xs) (all-in (IsClearOf (segment_of x)) (segments_of (filter q xs)) (λ t i. let r = segments-filter q xs t i in
    subst (λ w. IsClearOf (segment_of x) w) (sym r.3) (in-all (IsClearOf (segment_of x)) (segments_of xs) (segment_of r.0) p.0 (in-map segment_of xs r.0 r.1)))) (pairs-bad q xs p.1)

plain-bad : (q : Edge → Bool) (es : List Edge) → IsConflictFree (segments_of es) → IsConflictFree (segments_of (filter q es))
plain-bad q es p = record {
  rising = all-in IsRisingEdge (segments_of (filter q es)) (λ t i. let r = segments-filter q es t i in subst IsRisingEdge (sym r.3) (rising_in (segments_of es) (segment_of r.0) p (in-map segment_of es r.0 r.1)));
  clear = pairs-bad q es p.clear;
}

from-keep : (v : Vector) (k : Bool) (e : Edge) → one_at v (cond k e (reversed e)).from + cond (not k) (one_at v e.from) 0 ≡ one_at v e.from + cond (not k) (one_at v e.to) 0
from-keep v true e = omega arith
from-keep v false e = omega arith

to-keep : (v : Vector) (k : Bool) (e : Edge) → one_at v (cond k e (reversed e)).to + cond (not k) (one_at v e.to) 0 ≡ one_at v e.to + cond (not k) (one_at v e.from) 0
to-keep v true e = omega arith
to-keep v false e = omega arith

-- the edges that the odd side turns are balanced by themselves, since both directions of the list are balanced
bad-balanced : (es : List Edge) → IsConflictFree (segments_of es) → IsEvenAtPoints (segments_of es) → IsBalanced es → (v : Vector) → total (λ (e : Edge). one_at v e.from) (bad es) ≡ total (λ (e : Edge). one_at v e.to) (bad es)
bad-balanced es p even b v =
    let k = keeps es in
    let bal = directed_balanced (segments_of es) p even v in
    let a = sym (total-is (λ (e : Edge). one_at v e.from) (directed (segments_of es))) ∙ total-map (λ (e : Edge). one_at v e.from) (directed_edge (segments_of es)) (segments_of es) ∙ total-map (λ (e : Edge). one_at v (directed_edge (segments_of es) e).from) segment_of es in
    let c = sym (total-is (λ (e : Edge). one_at v e.to) (directed (segments_of es))) ∙ total-map (λ (e : Edge). one_at v e.to) (directed_edge (segments_of es)) (segments_of es) ∙ total-map (λ (e : Edge). one_at v (directed_edge (segments_of es) e).to) segment_of es in
    let F = λ (x : Edge). cond (not (k x)) (one_at v x.from) 0 in let T = λ (x : Edge). cond (not (k x)) (one_at v x.to) 0 in
    let f = λ (x : Edge). one_at v (directed_edge (segments_of es) (segment_of x)).from in let g = λ (x : Edge). one_at v (directed_edge (segments_of es) (segment_of x)).to in
    let x1 = total-same (λ x. f x + F x) (λ (x : Edge). one_at v x.from + T x) es (λ x i. ap (λ (d : Edge). one_at v d.from + F x) (direct-is es x) ∙ from-keep v (k x) x) in
    let x2 = total-same (λ x. g x + T x) (λ (x : Edge). one_at v x.to + F x) es (λ x i. ap (λ (d : Edge). one_at v d.to + T x) (direct-is es x) ∙ to-keep v (k x) x) in
    let s1 = total-+ f F es in let s2 = total-+ (λ (x : Edge). one_at v x.from) T es in let s3 = total-+ g T es in let s4 = total-+ (λ (x : Edge). one_at v x.to) F es in
    let y1 = total-filter (λ e. not (k e)) (λ (e : Edge). one_at v e.from) es in let y2 = total-filter (λ e. not (k e)) (λ (e : Edge). one_at v e.to) es in
    let z1 = total-is (λ (e : Edge). one_at v e.from) es in let z2 = total-is (λ (e : Edge). one_at v e.to) es in
    let bb = b v in omega arith

pub sided-even : (es : List Edge) → IsBalanced es → IsEvenAtPoints (segments_of es)
sided-even es b v =
    let a = sym (total-is (λ (e : Edge). one_at v e.from + one_at v e.to) (segments_of es)) ∙ total-map (λ (e : Edge). one_at v e.from + one_at v e.to) segment_of es in
    let c = total-same (λ e. one_at v (segment_of e).from + one_at v (segment_of e).to) (λ (e : Edge). one_at v e.from + one_at v e.to) es (λ e i. ends-swap v (is_plus (order e.from e.to)) e) in
    let d = total-+ (λ (e : Edge). one_at v e.from) (λ (e : Edge). one_at v e.to) es in
    let z1 = total-is (λ (e : Edge). one_at v e.from) es in let z2 = total-is (λ (e : Edge). one_at v e.to) es in let bb = b v in omega arith

level-by : (y x : Sign) → then_sign y x ≡ Plus → (y ≡ Plus → ⊥) → y ≡ Null
level-by Null x h n = refl
level-by Plus x h n = absurd (n refl)
level-by Minus x h n = absurd (cc h)

not-out : (b : Bool) → not b ≡ true → b ≡ true → ⊥
not-out true h k = cc h
not-out false h k = cc k

module _ (es : List Edge) (d : IsSided es) where
  ev : IsEvenAtPoints (segments_of es)
  ev = sided-even es d.balanced

  bad-level : (t : Edge) → In t (segments_of (bad es)) → sign (t.to.y -ℤ t.from.y) ≡ Null
  bad-level t i =
      let r = segments-filter (λ e. not (keeps es e)) es t i in
      subst (λ (t : Edge). sign (t.to.y -ℤ t.from.y) ≡ Null) (sym r.3)
      (level-by (sign ((segment_of r.0).to.y -ℤ (segment_of r.0).from.y)) (sign ((segment_of r.0).to.x -ℤ (segment_of r.0).from.x)) (rising_in (segments_of es) (segment_of r.0) d.plain (in-map segment_of es r.0 r.1))
      (λ h. not-out (keeps es r.0) r.2 (keeps-sloping es d ev r.0 r.1 h)))

  bad-plain : IsConflictFree (segments_of (bad es))
  bad-plain = plain-bad (λ e. not (keeps es e)) es d.plain

  alone : (m : Edge) → IsAnchor m (segments_of (bad es)) → (t : Edge) → In t (others m (segments_of (bad es))) → (b : Bool) → ends_at m.from t ≡ b → b ≡ false
  alone m a t i false h = refl
  alone m a t i true h =
      let B = segments_of (bad es) in
      let j = in-filter (λ (t : Edge). not (same_edge m t)) B t i in
      let rm = rising_in B m bad-plain a.member in let rt = rising_in B t bad-plain j in
      let b = begins-by m.from t (same_point m.from t.from) (same_point m.from t.to) refl refl h rt (a.least t j) in
      let q = same_point-true m.from t.from b in
      let o = a.leftmost t i q in
      let lm = bad-level m a.member in
      let l = level-side (from_to m.from m.to) (from_to m.from t.to) lm (level-plus (sign (m.to.y -ℤ m.from.y)) (sign (m.to.x -ℤ m.from.x)) lm rm) in
      let lt : sign (t.to.y -ℤ m.from.y) ≡ Null = subst (λ (w : Vector). sign (t.to.y -ℤ w.y) ≡ Null) (sym q) (bad-level t j) in
      absurd (minus-not-null _ o (l ∙ lt))

  no-anchor : (m : Edge) → IsAnchor m (segments_of (bad es)) → ⊥
  no-anchor m a =
      let v = m.from in let B = segments_of (bad es) in
      let x = bad-balanced es d.plain ev d.balanced v in
      let s = total-+ (λ (e : Edge). one_at v e.from) (λ (e : Edge). one_at v e.to) (bad es) in
      let c = total-same (λ e. one_at v (segment_of e).from + one_at v (segment_of e).to) (λ (e : Edge). one_at v e.from + one_at v e.to) (bad es) (λ e i. ends-swap v (is_plus (order e.from e.to)) e) in
      let t = total-map (λ (e : Edge). one_at v e.from + one_at v e.to) segment_of (bad es) in
      let f = total-same (λ (t : Edge). one_at v t.from + one_at v t.to) (λ (t : Edge). bit (ends_at v t)) B (λ t i. ends-by v t (rising_in B t bad-plain i) (same_point v t.from) (same_point v t.to) refl refl) in
      let g = split_off (λ (t : Edge). bit (ends_at v t)) m B bad-plain a.member in
      let o : bit (ends_at v m) ≡ 1 = ap bit (ends_at-from m) in
      let z = total-same (λ (t : Edge). bit (ends_at v t)) (λ t. 0) (others m B) (λ t i. ap bit (alone m a t i (ends_at v t) refl)) in
      let w = none-sum (others m B) in
      absurd (omega arith)

  keeps-by : (e : Edge) → In e es → (b : Bool) → keeps es e ≡ b → b ≡ true
  keeps-by e i true h = refl
  keeps-by e i false h =
      let j = in-map segment_of (bad es) e (into-filter (λ e. not (keeps es e)) es e i (ap not h)) in
      let a = some-anchor (segments_of (bad es)) (segment_of e) j bad-plain in absurd (no-anchor a.0 a.1)

  -- the odd side directs the edges of a sided list as they are
  pub sided_direct : (e : Edge) → In e es → directed_edge (segments_of es) (segment_of e) ≡ e
  sided_direct e i = direct-is es e ∙ ap (λ k. cond k e (reversed e)) (keeps-by e i (keeps es e) refl)

-- ---- the odd side gives a sided list
pub segment-direct-by : (b : Bool) (s : Edge) → IsRisingEdge s → segment_of (cond b s (reversed s)) ≡ s
segment-direct-by true s r = ap (λ z. cond (is_plus z) s (reversed s)) r
segment-direct-by false s r = ap (λ z. cond (is_plus z) (reversed s) (reversed (reversed s))) (order-reversed s.from s.to ∙ ap negated r)

segments-directed-by : (us es : List Edge) → ((s : Edge) → In s es → IsRisingEdge s) → segments_of (map (directed_edge us) es) ≡ es
segments-directed-by us [] r = refl
segments-directed-by us (x ∷ xs) r =
    ap (λ y. y ∷ segments_of (map (directed_edge us) xs)) (segment-direct-by (runs_up_by_odd_side us x) x (r x (inl refl))) ∙ ap (λ l. x ∷ l) (segments-directed-by us xs (λ s i. r s (inr i)))

zero-or-one : (n : ℕ) (w : ℤ) → w ≡ pos (n % 2) → (n % 2 ≡ 0) ⊎ (n % 2 ≡ 1) → (w ≡ pos 0) ⊎ (w ≡ pos 1)
zero-or-one n w h (inl e) = inl (h ∙ ap pos e)
zero-or-one n w h (inr e) = inr (h ∙ ap pos e)

pub directed_sided : (es : List Edge) → IsConflictFree es → IsEvenAtPoints es → IsSided (directed es)
directed_sided es p even = record {
  plain = subst IsConflictFree (sym (segments-directed-by es es (λ s i. rising_in es s p i))) p;
  balanced = directed_balanced es p even;
  counted = λ q hq w off. zero-or-one (crossing_count east w (scaled_edges q es)) (winding_number east w (scaled_edges q (directed es))) (rational_count q hq w es p even) (even_or_odd (crossing_count east w (scaled_edges q es)));
}
