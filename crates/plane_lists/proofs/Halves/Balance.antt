-- A half leaves each point as often as it enters it.
use Rattle.std.proofs.Common.{All, Bool, List, [], ap, arith, cond, count_by, eqb, eqb-true, false, inl, inr, not, refl, subst, sym, true, ℕ, ◌%◌, ◌+◌, ◌&&◌, ◌||◌, ◌∙◌, ◌∷◌, ◌≡◌, ◌⊎◌}
use borrow.Author.Differences.{ints}
use lib.IntN.{pos, ◌-ℤ◌}
use Rattle.plane.specs.Bit.{bit}
use Rattle.plane.specs.Edge.{Edge}
use Rattle.plane.specs.RayCrossing.{IsOffEdge, down_by, up_by}
use Rattle.plane.specs.Scale.{scaled_edge}
use Rattle.plane.specs.Sign.{Minus, Null, Plus, Sign, is_minus, is_null, is_plus, negated}
use Rattle.plane.specs.Vector.{IsNonZero, Vector, from_to, one_at, same_point}
use Rattle.plane_lists.specs.Lists.EdgeList.{IsBalanced, up_count}
use Rattle.lists.specs.Member.{EachPair, In}
use Rattle.plane_lists.specs.Lists.Parity.{is_even}
use Rattle.plane_lists.specs.Lists.ScaledEdges.{scaled_edges}
use Rattle.plane_lists.specs.Lists.Sided.{IsSided}
use Rattle.plane_lists.specs.Halves.Half.{AreMeetings, Cutting, IsCut, closing, closing_from, ends_up_to, half, is_up_to, parts, wholes}
use Rattle.plane_lists.specs.Halves.Line.{Line, has_part, order_along, scaled_line, side}
use Rattle.plane.proofs.PlaneKit.{ends_at-from, ends_at-to, crossings_seen, same_point-refl, same_point-true, down_seen, up_seen}
use Rattle.plane.proofs.SignKit.{all4-out, imp, imp-out, neither-plus, plus-behind, bit-no}
use Rattle.lists.proofs.ListsKit.{all-in, cond_by, even_or_odd, in-all, in-map-out, none-sum, none_or_one, total, total-+, total-++, total-is, total-map, total-same}
use Rattle.plane_lists.proofs.WindingKit.{even-is, odd-is, balanced-total, sided-scaled}
use Rattle.plane_lists.proofs.Halves.Above.{WindsOnce}
use Rattle.plane_lists.proofs.Halves.AlongLine.{IsApart, after, along-negated, along-self, along-sum, middle, middle-down, middle-off, middle-side, middle-up, one-place, two-plus}
use Rattle.plane_lists.proofs.Halves.Counts.{along-line, in-parts, over-parts, seen-parts}
use Rattle.plane_lists.proofs.Halves.ScaledHalves.{cut-scaled, parts-scaled, scaled_cuttings, side-scaled, wholes-scaled}
use Rattle.plane_lists.proofs.Halves.Sides.{IsCutFrom, IsCutTo, IsWholePart, down_flat, kinds, part-ends, up_flat}

-- v is on the line, at z or after it
abbrev pub is_from : Line → Vector → Vector → Bool
is_from l z v = is_null (side l v) && not (is_minus (order_along l z v))

-- how many parts end on the line at z or after it
abbrev pub ends_from : Line → List Edge → Vector → ℕ
ends_from l ts z = count_by (λ (t : Edge). is_from l z t.from || is_from l z t.to) ts

-- ---- points that are not one
differ-by : (v w : Vector) → (v ≡ w → ⊥) → (b : Bool) → same_point v w ≡ b → b ≡ false
differ-by v w h true e = absurd (h (same_point-true v w e))
differ-by v w h false e = refl

pub differ : (v w : Vector) → (v ≡ w → ⊥) → same_point v w ≡ false
differ v w h = differ-by v w h (same_point v w) refl

pub apart-sides : (l : Line) (v w : Vector) (s t : Sign) → side l v ≡ s → side l w ≡ t → (s ≡ t → ⊥) → same_point v w ≡ false
apart-sides l v w s t hv hw n = differ v w (λ e. n (sym hv ∙ ap (side l) e ∙ hw))

pub one-self : (v : Vector) → one_at v v ≡ 1
one-self v = ap bit (same_point-refl v)

not-plus-of : (s t : Sign) → s ≡ t → not (is_plus t) ≡ true → not (is_plus s) ≡ true
not-plus-of s t h k = ap (λ x. not (is_plus x)) h ∙ k

-- ---- sums over the ends of parts strictly on the kept side
module _ (l : Line) (cs : List Cutting) (cut : IsCut l cs) (x : Vector → ℕ) (zero : (v : Vector) → not (is_plus (side l v)) ≡ true → x v ≡ 0) where
  from-kind : (e t : Edge) → IsWholePart l e t ⊎ (IsCutFrom l e t ⊎ IsCutTo l e t) → x t.from ≡ x e.from
  from-kind e t (inl w) = ap x w.from
  from-kind e t (inr (inl w)) = zero t.from (not-plus-of _ _ w.on refl) ∙ sym (zero e.from (not-plus-of _ _ w.beyond refl))
  from-kind e t (inr (inr w)) = ap x w.from

  to-kind : (e t : Edge) → IsWholePart l e t ⊎ (IsCutFrom l e t ⊎ IsCutTo l e t) → x t.to ≡ x e.to
  to-kind e t (inl w) = ap x w.to
  to-kind e t (inr (inl w)) = ap x w.to
  to-kind e t (inr (inr w)) = zero t.to (not-plus-of _ _ w.on refl) ∙ sym (zero e.to (not-plus-of _ _ w.beyond refl))

  kept-from : total (λ (t : Edge). x t.from) (parts l cs) ≡ total (λ (e : Edge). x e.from) (wholes cs)
  kept-from =
      over-parts (λ (t : Edge). x t.from) l cs
      ∙ total-same (λ (c : Cutting). cond (has_part l c.whole) (x c.part.from) 0) (λ (c : Cutting). x c.whole.from) cs
      (λ c i. cond_by (has_part l c.whole) (x c.part.from) (x c.whole.from) (λ h. from-kind c.whole c.part (kinds l c.whole c.part (cut c i h) h))
      (λ h. zero c.whole.from (neither-plus (side l c.whole.from) (side l c.whole.to) h).0))
      ∙ sym (total-map (λ (e : Edge). x e.from) (λ (c : Cutting). c.whole) cs)

  kept-to : total (λ (t : Edge). x t.to) (parts l cs) ≡ total (λ (e : Edge). x e.to) (wholes cs)
  kept-to =
      over-parts (λ (t : Edge). x t.to) l cs
      ∙ total-same (λ (c : Cutting). cond (has_part l c.whole) (x c.part.to) 0) (λ (c : Cutting). x c.whole.to) cs
      (λ c i. cond_by (has_part l c.whole) (x c.part.to) (x c.whole.to) (λ h. to-kind c.whole c.part (kinds l c.whole c.part (cut c i h) h))
      (λ h. zero c.whole.to (neither-plus (side l c.whole.from) (side l c.whole.to) h).1))
      ∙ sym (total-map (λ (e : Edge). x e.to) (λ (c : Cutting). c.whole) cs)

  pub kept-balanced : IsBalanced (wholes cs) → total (λ (t : Edge). x t.from) (parts l cs) ≡ total (λ (t : Edge). x t.to) (parts l cs)
  kept-balanced b = kept-from ∙ balanced-total x (wholes cs) b ∙ sym kept-to

-- ---- signs of one part
pub record AreKept (l : Line) (t : Edge) : Type 0 where
  pub from : not (is_minus (side l t.from)) ≡ true
  pub to : not (is_minus (side l t.to)) ≡ true
  pub some : has_part l t ≡ true

pub kept-part : (l : Line) (cs : List Cutting) → IsCut l cs → (t : Edge) → In t (parts l cs) → AreKept l t
kept-part l cs cut t i =
    let r = in-parts l cs t i in let e = part-ends l r.0.whole r.0.part (kinds l r.0.whole r.0.part (cut r.0 r.1 r.2) r.2) in
    subst (AreKept l) (sym r.3) (record { from = e.0; to = e.1; some = e.2 })

null-plus : (s : Sign) → not (is_minus s) ≡ true → bit (is_null s) + bit (is_plus s) ≡ 1
null-plus Null h = refl
null-plus Plus h = refl
null-plus Minus h = absurd (cc h)

abbrev ends_2 : Sign → Sign → Sign → Sign → Bool
ends_2 a b o p =
    imp (not (is_minus a)) λ _.
    imp (not (is_minus b)) λ _.
    imp (is_plus a || is_plus b) λ _.
    eqb (bit ((is_null a && not (is_minus (negated o))) || (is_null b && not (is_minus (negated p)))) + (bit (is_null a && is_plus o) + bit (is_null b && is_plus p))) (bit (is_null a) + bit (is_null b))

ends-at : (l : Line) (z : Vector) (t : Edge) → AreKept l t →
    bit (is_up_to l z t.from || is_up_to l z t.to) + (after l z t.from + after l z t.to) ≡ bit (is_null (side l t.from)) + bit (is_null (side l t.to))
ends-at l z t k =
    let c = eqb-true _ _ (imp-out _ _ (imp-out _ _ (imp-out _ _ (all4-out ends_2 refl (side l t.from) (side l t.to) (order_along l z t.from) (order_along l z t.to)) k.from) k.to) k.some) in
    rw (along-negated l z t.from, along-negated l z t.to) c

-- ---- where an end is, among the points from z on
abbrev pub IsPlaced : Line → Vector → List Vector → Vector → Type 0
IsPlaced l z rest v = (not (is_plus (order_along l z v)) ≡ true) ⊎ In v rest

abbrev pub IsAfter : Line → Vector → Vector → Type 0
IsAfter l z v = order_along l z v ≡ Plus

module _ (l : Line) (z w : Vector) (r : List Vector) (hzw : IsAfter l z w) (az : All (IsAfter l z) (w ∷ r)) (aw : All (IsAfter l w) r) (v : Vector) where
  behind : not (is_plus (order_along l z v)) ≡ true → order_along l w v ≡ Minus
  behind n = plus-behind (order_along l z w) (order_along l w v) (order_along l z v) (along-sum l z w v) hzw n

  apart-by : (b : Bool) → is_plus (order_along l z v) ≡ b → not b ≡ true → IsApart l z w v
  apart-by false h n = h ∙ sym (ap (λ s. not (is_minus s)) (behind (ap not h ∙ n)))
  apart-by true h n = absurd (cc n)

  pub placed-apart : IsPlaced l z (w ∷ r) v → IsApart l z w v
  placed-apart (inl n) = apart-by (is_plus (order_along l z v)) refl n
  placed-apart (inr (inl e)) =
      ap (λ x. is_plus (order_along l z x)) e ∙ ap is_plus hzw ∙ sym (ap (λ s. not (is_minus s)) (ap (order_along l w) e ∙ along-self l w))
  placed-apart (inr (inr i)) = ap is_plus (in-all (IsAfter l z) (w ∷ r) v az (inr i)) ∙ sym (ap (λ s. not (is_minus s)) (in-all (IsAfter l w) r v aw i))

  pub placed-next : IsPlaced l z (w ∷ r) v → IsPlaced l w r v
  placed-next (inl n) = inl (not-plus-of _ _ (behind n) refl)
  placed-next (inr (inl e)) = inl (not-plus-of _ _ (ap (order_along l w) e ∙ along-self l w) refl)
  placed-next (inr (inr i)) = inr i

-- ---- one end, seen from two neighbours
module _ (l : Line) (d : IsNonZero l.along) (z w : Vector) (hw : side l w ≡ Null) (v : Vector) where
  next-on : (s : Sign) → order_along l w v ≡ s → side l v ≡ Null → IsApart l z w v → bit (is_plus (order_along l z v)) ≡ bit (is_plus s) + one_at w v
  next-on Null h hv a =
      let e = one-place l w v d hw hv h in
      let q = ap (one_at w) (sym e) ∙ one-self w in
      let b = ap bit (a ∙ ap (λ x. not (is_minus x)) h) in omega arith
  next-on Plus h hv a =
      let n = ap bit (differ w v (λ e. let q = ap (order_along l w) (sym e) ∙ along-self l w in cc (sym h ∙ q))) in
      let b = ap bit (a ∙ ap (λ x. not (is_minus x)) h) in omega arith
  next-on Minus h hv a =
      let n = ap bit (differ w v (λ e. let q = ap (order_along l w) (sym e) ∙ along-self l w in cc (sym h ∙ q))) in
      let b = ap bit (a ∙ ap (λ x. not (is_minus x)) h) in omega arith

  next-by : (s : Sign) → side l v ≡ s → not (is_minus s) ≡ true → (side l v ≡ Null → IsApart l z w v) → after l z v ≡ after l w v + one_at w v
  next-by Null h n a =
      let o = next-on (order_along l w v) refl h (a h) in
      ap (λ x. bit (is_null x && is_plus (order_along l z v))) h ∙ o ∙ ap (λ k. k + one_at w v) (sym (ap (λ x. bit (is_null x && is_plus (order_along l w v))) h))
  next-by Plus h n a =
      let k = ap bit (apart-sides l w v Null Plus hw h (λ e. cc e)) in
      let b = ap (λ x. bit (is_null x && is_plus (order_along l z v))) h in let c = ap (λ x. bit (is_null x && is_plus (order_along l w v))) h in omega arith
  next-by Minus h n a = absurd (cc n)

  pub next-after : not (is_minus (side l v)) ≡ true → (side l v ≡ Null → IsApart l z w v) → after l z v ≡ after l w v + one_at w v
  next-after n a = next-by (side l v) refl n a

-- the first point: each end is there or after it
module _ (l : Line) (d : IsNonZero l.along) (z : Vector) (hz : side l z ≡ Null) (v : Vector) where
  first-on : (v ≡ z) ⊎ IsAfter l z v → after l z v ≡ bit (is_plus (order_along l z v)) → after l z v + one_at z v ≡ 1
  first-on (inl e) b =
      let p = ap (λ x. bit (is_plus x)) (ap (order_along l z) e ∙ along-self l z) in let q = ap (one_at z) e ∙ one-self z in omega arith
  first-on (inr e) b =
      let p = ap (λ x. bit (is_plus x)) e in let q = ap bit (differ z v (λ f. let g = ap (order_along l z) (sym f) ∙ along-self l z in cc (sym e ∙ g))) in omega arith

  first-by : (s : Sign) → side l v ≡ s → not (is_minus s) ≡ true → (side l v ≡ Null → (v ≡ z) ⊎ IsAfter l z v) → after l z v + one_at z v ≡ bit (is_null s)
  first-by Plus h n a =
      let k = ap bit (apart-sides l z v Null Plus hz h (λ e. cc e)) in let b = ap (λ x. bit (is_null x && is_plus (order_along l z v))) h in omega arith
  first-by Minus h n a = absurd (cc n)
  first-by Null h n a =
      let b = ap (λ x. bit (is_null x && is_plus (order_along l z v))) h in first-on (a h) b

  pub first-after : not (is_minus (side l v)) ≡ true → (side l v ≡ Null → (v ≡ z) ⊎ IsAfter l z v) → after l z v + one_at z v ≡ bit (is_null (side l v))
  first-after n a = first-by (side l v) refl n a

-- ---- the points on the line, one after the other
cond-cons : {X : Type 0} (h : X → ℕ) (b : Bool) (x : X) (xs : List X) → total h (cond b xs (x ∷ xs)) ≡ cond b 0 (h x) + total h xs
cond-cons h true x xs = omega arith
cond-cons h false x xs = refl

chain-by : (b pz pw : Bool) (S F E G Az Bz Aw Bw fw gw : ℕ) →
    S + F + cond pw Bw 0 ≡ E + G + cond pw Aw 0 → Az ≡ Bz + cond b 0 1 → Az ≡ Aw + fw → Bz ≡ Bw + gw →
    (cond b 0 (bit pz) + S) + (cond pw fw 0 + F) + cond pz Bz 0 ≡ (cond b 0 (bit pw) + E) + (cond pw gw 0 + G) + cond pz Az 0
chain-by true true true S F E G Az Bz Aw Bw fw gw h k n m = omega arith
chain-by true true false S F E G Az Bz Aw Bw fw gw h k n m = omega arith
chain-by true false true S F E G Az Bz Aw Bw fw gw h k n m = omega arith
chain-by true false false S F E G Az Bz Aw Bw fw gw h k n m = omega arith
chain-by false true true S F E G Az Bz Aw Bw fw gw h k n m = omega arith
chain-by false true false S F E G Az Bz Aw Bw fw gw h k n m = omega arith
chain-by false false true S F E G Az Bz Aw Bw fw gw h k n m = omega arith
chain-by false false false S F E G Az Bz Aw Bw fw gw h k n m = omega arith

odd-by : (n a b t : ℕ) → n + (a + b) ≡ t + t → (a ≡ b) ⊎ (a ≡ b + 1) → a ≡ b + cond (is_even n) 0 1
odd-by n a b t h (inl e) = let k = ap (λ (x : Bool). cond {A = ℕ} x 0 1) (even-is n (omega arith)) in omega arith
odd-by n a b t h (inr e) = let k = ap (λ (x : Bool). cond {A = ℕ} x 0 1) (odd-is n (omega arith)) in omega arith

from-by : (a b : Sign) (x y X Y : Bool) → not (is_minus a) ≡ true → not (is_minus b) ≡ true → (is_plus a || is_plus b) ≡ true → (a ≡ Null → X ≡ x) → (b ≡ Null → Y ≡ y) →
    bit ((is_null a && x) || (is_null b && y)) ≡ bit (is_null a && X) + bit (is_null b && Y)
from-by Null Plus true y X Y na nb h hx hy = let k = ap bit (hx refl) in omega arith
from-by Null Plus false y X Y na nb h hx hy = let k = ap bit (hx refl) in omega arith
from-by Plus Null x true X Y na nb h hx hy = let k = ap bit (hy refl) in omega arith
from-by Plus Null x false X Y na nb h hx hy = let k = ap bit (hy refl) in omega arith
from-by Plus Plus x y X Y na nb h hx hy = omega arith
from-by Null Null x y X Y na nb h hx hy = absurd (cc h)
from-by Minus b x y X Y na nb h hx hy = absurd (cc na)
from-by Null Minus x y X Y na nb h hx hy = absurd (cc nb)
from-by Plus Minus x y X Y na nb h hx hy = absurd (cc nb)

parity-by : (m n t : ℕ) → n + m ≡ t + t → (n % 2 ≡ 0) ⊎ (n % 2 ≡ 1) → is_even m ≡ is_even n
parity-by m n t h (inl e) = even-is m (omega arith) ∙ sym (even-is n e)
parity-by m n t h (inr e) = odd-is m (omega arith) ∙ sym (odd-is n e)

module _ (l : Line) (d : IsNonZero l.along) (cs : List Cutting) (cut : IsCut l cs) (sd : IsSided (wholes cs)) where
  abbrev T : List Edge
  T = parts l cs

  abbrev A : Vector → ℕ
  A z = total (λ (t : Edge). after l z t.from) T

  abbrev B : Vector → ℕ
  B z = total (λ (t : Edge). after l z t.to) T

  abbrev F : Vector → ℕ
  F w = total (λ (t : Edge). one_at w t.from) T

  abbrev G : Vector → ℕ
  G w = total (λ (t : Edge). one_at w t.to) T

  abbrev begun : ℕ
  begun = total (λ (t : Edge). bit (is_null (side l t.from))) T

  abbrev ended : ℕ
  ended = total (λ (t : Edge). bit (is_null (side l t.to))) T

  kept : (t : Edge) → In t T → AreKept l t
  kept t i = kept-part l cs cut t i

  -- as many parts begin on the line as end there
  same-ends : begun ≡ ended
  same-ends =
      let p = kept-balanced l cs cut (λ v. bit (is_plus (side l v))) (λ v h. bit-no (is_plus (side l v)) h) sd.balanced in
      let a = sym (total-+ (λ (t : Edge). bit (is_null (side l t.from))) (λ (t : Edge). bit (is_plus (side l t.from))) T)
      ∙ total-same (λ (t : Edge). bit (is_null (side l t.from)) + bit (is_plus (side l t.from))) (λ t. 1) T (λ t i. null-plus (side l t.from) (kept t i).from) in
      let b = sym (total-+ (λ (t : Edge). bit (is_null (side l t.to))) (λ (t : Edge). bit (is_plus (side l t.to))) T)
      ∙ total-same (λ (t : Edge). bit (is_null (side l t.to)) + bit (is_plus (side l t.to))) (λ t. 1) T (λ t i. null-plus (side l t.to) (kept t i).to) in
      omega arith

  count-ends : (z : Vector) → ends_up_to l T z + (A z + B z) ≡ begun + ended
  count-ends z =
      let n = total-is (λ (t : Edge). bit (is_up_to l z t.from || is_up_to l z t.to)) T in
      let ab = total-+ (λ (t : Edge). after l z t.from) (λ (t : Edge). after l z t.to) T in
      let nab = total-+ (λ (t : Edge). bit (is_up_to l z t.from || is_up_to l z t.to)) (λ (t : Edge). after l z t.from + after l z t.to) T in
      let be = total-+ (λ (t : Edge). bit (is_null (side l t.from))) (λ (t : Edge). bit (is_null (side l t.to))) T in
      let s = total-same (λ (t : Edge). bit (is_up_to l z t.from || is_up_to l z t.to) + (after l z t.from + after l z t.to)) (λ (t : Edge). bit (is_null (side l t.from)) + bit (is_null (side l t.to))) T (λ t i. ends-at l z t (kept t i)) in
      omega arith

  -- no part ends strictly between z and w
  abbrev AllApart : Vector → Vector → Type 0
  AllApart z w = (t : Edge) → In t T → (side l t.from ≡ Null → IsApart l z w t.from) × (side l t.to ≡ Null → IsApart l z w t.to)

  -- between neighbours it is the same to count the ends up to the first as those from the second on
  pub counted-either-way : (z w : Vector) → AllApart z w → is_even (ends_from l T w) ≡ is_even (ends_up_to l T z)
  counted-either-way z w apart =
      let n = total-is (λ (t : Edge). bit (is_from l w t.from || is_from l w t.to)) T in
      let s = total-same (λ (t : Edge). bit (is_from l w t.from || is_from l w t.to)) (λ (t : Edge). after l z t.from + after l z t.to) T
      (λ t i. let k = kept t i in let a = apart t i in
      from-by (side l t.from) (side l t.to) (not (is_minus (order_along l w t.from))) (not (is_minus (order_along l w t.to))) (is_plus (order_along l z t.from)) (is_plus (order_along l z t.to)) k.from k.to k.some a.0 a.1) in
      let ab = total-+ (λ (t : Edge). after l z t.from) (λ (t : Edge). after l z t.to) T in
      let c = count-ends z in let e = same-ends in
      parity-by (ends_from l T w) (ends_up_to l T z) begun (omega arith) (even_or_odd (ends_up_to l T z))

  module _ (z w : Vector) (hz : side l z ≡ Null) (hw : side l w ≡ Null) (apart : AllApart z w) where
    abbrev m : Line
    m = scaled_line (pos 2) l

    abbrev cs2 : List Cutting
    cs2 = scaled_cuttings (pos 2) two-plus l cs

    abbrev p : Vector
    p = middle z w

    p-on : side m p ≡ Null
    p-on = middle-side l z w hz hw

    off-two : All (IsOffEdge p) (parts m cs2)
    off-two = subst (All (IsOffEdge p)) (sym (parts-scaled (pos 2) two-plus l cs)) (all-in (IsOffEdge p) (scaled_edges (pos 2) T) (λ e i.
        let r = in-map-out (scaled_edge (pos 2)) T e i in let k = kept r.0 r.1 in let a = apart r.0 r.1 in
        subst (IsOffEdge p) (sym r.2) (middle-off l d z w hz hw r.0 k.from k.to k.some a.0 a.1 (side-scaled (pos 2) two-plus l))))

    once-two : WindsOnce l.along p (wholes cs2)
    once-two = along-line m d cs2 (cut-scaled (pos 2) two-plus l cs cut) [] (λ e i. absurd i) (subst IsSided (sym (wholes-scaled (pos 2) two-plus l cs)) (sided-scaled (pos 2) two-plus (wholes cs) sd)) p p-on off-two

    up-two : total (crossings_seen up_by l.along (from_to p)) (wholes cs2) ≡ A z
    up-two =
        sym (seen-parts m d cs2 (cut-scaled (pos 2) two-plus l cs cut) [] (λ e i. absurd i) up_by up_flat p (ap (λ s. not (is_minus s)) p-on))
        ∙ ap (total (crossings_seen up_by l.along (from_to p))) (parts-scaled (pos 2) two-plus l cs)
        ∙ total-map (crossings_seen up_by l.along (from_to p)) (scaled_edge (pos 2)) T
        ∙ total-same (λ t. crossings_seen up_by l.along (from_to p) (scaled_edge (pos 2) t)) (λ (t : Edge). after l z t.from) T
        (λ t i. let k = kept t i in let a = apart t i in middle-up l d z w hz hw t k.from k.to k.some a.0 a.1 (side-scaled (pos 2) two-plus l))

    down-two : total (crossings_seen down_by l.along (from_to p)) (wholes cs2) ≡ B z
    down-two =
        sym (seen-parts m d cs2 (cut-scaled (pos 2) two-plus l cs cut) [] (λ e i. absurd i) down_by down_flat p (ap (λ s. not (is_minus s)) p-on))
        ∙ ap (total (crossings_seen down_by l.along (from_to p))) (parts-scaled (pos 2) two-plus l cs)
        ∙ total-map (crossings_seen down_by l.along (from_to p)) (scaled_edge (pos 2)) T
        ∙ total-same (λ t. crossings_seen down_by l.along (from_to p) (scaled_edge (pos 2) t)) (λ (t : Edge). after l z t.to) T
        (λ t i. let k = kept t i in let a = apart t i in middle-down l d z w hz hw t k.from k.to k.some a.0 a.1 (side-scaled (pos 2) two-plus l))

    -- between z and w the list goes round the inside of the line once where an odd number of parts ends up to z, else not at all
    pub once-between : A z ≡ B z + cond (is_even (ends_up_to l T z)) 0 1
    once-between =
        let u = sym (total-is (up_seen l.along (from_to p)) (wholes cs2)) ∙ up-two in
        let v = sym (total-is (down_seen l.along (from_to p)) (wholes cs2)) ∙ down-two in
        let o = none_or_one (A z) (B z) (subst (λ a. (pos a -ℤ pos (B z) ≡ pos 0) ⊎ (pos a -ℤ pos (B z) ≡ pos 1)) u
        (subst (λ b. (pos (up_count l.along p (wholes cs2)) -ℤ pos b ≡ pos 0) ⊎ (pos (up_count l.along p (wholes cs2)) -ℤ pos b ≡ pos 1)) v once-two)) in
        let c = count-ends z in let s = same-ends in
        odd-by (ends_up_to l T z) (A z) (B z) begun (omega arith) o

  -- ---- the edges on the line, from one point on
  abbrev left_by : Vector → List Edge → ℕ
  left_by v es = total (λ (e : Edge). one_at v e.from) es

  abbrev entered_by : Vector → List Edge → ℕ
  entered_by v es = total (λ (e : Edge). one_at v e.to) es

  abbrev at : Vector → (Vector → ℕ) → List Vector → ℕ
  at v x zs = total (λ (w : Vector). cond (same_point v w) (x w) 0) zs

  abbrev AllPlaced : Vector → List Vector → Type 0
  AllPlaced z rest = (t : Edge) → In t T → (side l t.from ≡ Null → IsPlaced l z rest t.from) × (side l t.to ≡ Null → IsPlaced l z rest t.to)

  placed-none : (z v : Vector) → IsPlaced l z [] v → bit (is_plus (order_along l z v)) ≡ 0
  placed-none z v (inl n) = bit-no (is_plus (order_along l z v)) n
  placed-none z v (inr i) = absurd i

  not-after-by : (z v : Vector) (s : Sign) → side l v ≡ s → not (is_minus s) ≡ true → (side l v ≡ Null → IsPlaced l z [] v) → after l z v ≡ 0
  not-after-by z v Plus e n h = ap (λ x. bit (is_null x && is_plus (order_along l z v))) e
  not-after-by z v Null e n h = ap (λ x. bit (is_null x && is_plus (order_along l z v))) e ∙ placed-none z v (h e)
  not-after-by z v Minus e n h = absurd (cc n)

  not-after : (z v : Vector) → not (is_minus (side l v)) ≡ true → (side l v ≡ Null → IsPlaced l z [] v) → after l z v ≡ 0
  not-after z v n h = not-after-by z v (side l v) refl n h

  last-none : (z : Vector) → AllPlaced z [] → (A z ≡ 0) × (B z ≡ 0)
  last-none z h = (
    total-same (λ (t : Edge). after l z t.from) (λ t. 0) T (λ t i. not-after z t.from (kept t i).from (h t i).0) ∙ none-sum T,
    total-same (λ (t : Edge). after l z t.to) (λ t. 0) T (λ t i. not-after z t.to (kept t i).to (h t i).1) ∙ none-sum T,
  )

  next-all : (z w : Vector) → side l w ≡ Null → AllApart z w → (A z ≡ A w + F w) × (B z ≡ B w + G w)
  next-all z w hw h = (
    total-same (λ (t : Edge). after l z t.from) (λ (t : Edge). after l w t.from + one_at w t.from) T (λ t i. next-after l d z w hw t.from (kept t i).from (h t i).0) ∙ total-+ (λ (t : Edge). after l w t.from) (λ (t : Edge). one_at w t.from) T,
    total-same (λ (t : Edge). after l z t.to) (λ (t : Edge). after l w t.to + one_at w t.to) T (λ t i. next-after l d z w hw t.to (kept t i).to (h t i).1) ∙ total-+ (λ (t : Edge). after l w t.to) (λ (t : Edge). one_at w t.to) T,
  )

  abbrev AreRising : List Vector → Type 0
  AreRising zs = EachPair (IsAfter l) zs

  chain : (v z : Vector) (rest : List Vector) → side l z ≡ Null → ((w : Vector) → In w rest → side l w ≡ Null) → AreRising (z ∷ rest) → AllPlaced z rest →
      left_by v (closing_from l T z rest) + at v F rest + cond (same_point v z) (B z) 0 ≡ entered_by v (closing_from l T z rest) + at v G rest + cond (same_point v z) (A z) 0
  chain v z [] hz hr rising placed =
      let n = last-none z placed in
      let a = ap (λ x. cond (same_point v z) x 0) n.0 in let b = ap (λ x. cond (same_point v z) x 0) n.1 in omega arith
  chain v z (w ∷ r) hz hr rising placed =
      let hw = hr w (inl refl) in
      let hzw = in-all (IsAfter l z) (w ∷ r) w rising.0 (inl refl) in
      let apart : AllApart z w = λ t i. let k = placed t i in (
        (λ h. placed-apart l z w r hzw rising.0 rising.1.0 t.from (k.0 h)),
        (λ h. placed-apart l z w r hzw rising.0 rising.1.0 t.to (k.1 h)),
      ) in
      let next : AllPlaced w r = λ t i. let k = placed t i in (
        (λ h. placed-next l z w r hzw rising.0 rising.1.0 t.from (k.0 h)),
        (λ h. placed-next l z w r hzw rising.0 rising.1.0 t.to (k.1 h)),
      ) in
      let ih = chain v w r hw (λ x i. hr x (inr i)) rising.1 next in
      let n = next-all z w hw apart in
      let k = once-between z w hz hw apart in
      let b = is_even (ends_up_to l T z) in
      let sl = cond-cons (λ (e : Edge). one_at v e.from) b (record { from = z; to = w }) (closing_from l T w r) in
      let se = cond-cons (λ (e : Edge). one_at v e.to) b (record { from = z; to = w }) (closing_from l T w r) in
      let s = chain-by b (same_point v z) (same_point v w) (left_by v (closing_from l T w r)) (at v F r) (entered_by v (closing_from l T w r)) (at v G r) (A z) (B z) (A w) (B w) (F w) (G w) ih k n.0 n.1 in
      omega arith

  -- ---- all of them
  first-all : (z : Vector) (rest : List Vector) → side l z ≡ Null → ((t : Edge) → In t T → (side l t.from ≡ Null → (t.from ≡ z) ⊎ IsAfter l z t.from) × (side l t.to ≡ Null → (t.to ≡ z) ⊎ IsAfter l z t.to)) →
      A z + F z ≡ B z + G z
  first-all z rest hz h =
      let a = sym (total-+ (λ (t : Edge). after l z t.from) (λ (t : Edge). one_at z t.from) T)
      ∙ total-same (λ (t : Edge). after l z t.from + one_at z t.from) (λ (t : Edge). bit (is_null (side l t.from))) T (λ t i. first-after l d z hz t.from (kept t i).from (h t i).0) in
      let b = sym (total-+ (λ (t : Edge). after l z t.to) (λ (t : Edge). one_at z t.to) T)
      ∙ total-same (λ (t : Edge). after l z t.to + one_at z t.to) (λ (t : Edge). bit (is_null (side l t.to))) T (λ t i. first-after l d z hz t.to (kept t i).to (h t i).1) in
      let s = same-ends in omega arith

  first-or : (z : Vector) (rest : List Vector) → All (IsAfter l z) rest → (v : Vector) → In v (z ∷ rest) → (v ≡ z) ⊎ IsAfter l z v
  first-or z rest h v (inl e) = inl e
  first-or z rest h v (inr i) = inr (in-all (IsAfter l z) rest v h i)

  placed-or : (z : Vector) (rest : List Vector) → (v : Vector) → In v (z ∷ rest) → IsPlaced l z rest v
  placed-or z rest v (inl e) = inl (not-plus-of _ _ (ap (order_along l z) e ∙ along-self l z) refl)
  placed-or z rest v (inr i) = inr i

  whole-by : (p : Bool) (S R E Q Az Bz Fz Gz : ℕ) → S + R + cond p Bz 0 ≡ E + Q + cond p Az 0 → Az + Fz ≡ Bz + Gz → S + (cond p Fz 0 + R) ≡ E + (cond p Gz 0 + Q)
  whole-by true S R E Q Az Bz Fz Gz h k = omega arith
  whole-by false S R E Q Az Bz Fz Gz h k = omega arith

  all-balanced : (zs : List Vector) → AreMeetings l T zs → (v : Vector) → left_by v (closing l T zs) + at v F zs ≡ entered_by v (closing l T zs) + at v G zs
  all-balanced [] mt v = refl
  all-balanced (z ∷ rest) mt v =
      let hz = mt.on_line z (inl refl) in
      let into : (t : Edge) → In t T → (side l t.from ≡ Null → In t.from (z ∷ rest)) × (side l t.to ≡ Null → In t.to (z ∷ rest)) = λ t i. (mt.whole t i t.from (ends_at-from t), mt.whole t i t.to (ends_at-to t)) in
      let c = chain v z rest hz (λ w i. mt.on_line w (inr i)) mt.rising (λ t i. let k = into t i in ((λ h. placed-or z rest t.from (k.0 h)), (λ h. placed-or z rest t.to (k.1 h)))) in
      let f = first-all z rest hz (λ t i. let k = into t i in ((λ h. first-or z rest mt.rising.0 t.from (k.0 h)), (λ h. first-or z rest mt.rising.0 t.to (k.1 h)))) in
      whole-by (same_point v z) (left_by v (closing_from l T z rest)) (at v F rest) (entered_by v (closing_from l T z rest)) (at v G rest) (A z) (B z) (F z) (G z) c f

  -- ---- what stands at one point
  apart-after : (y w : Vector) → IsAfter l y w → same_point y w ≡ false
  apart-after y w h = differ y w (λ e. let g = ap (order_along l y) (sym e) ∙ along-self l y in cc (sym h ∙ g))

  apart-before : (y w : Vector) → IsAfter l y w → same_point w y ≡ false
  apart-before y w h = differ w y (λ e. let g = ap (order_along l y) e ∙ along-self l y in cc (sym h ∙ g))

  at-none : (v : Vector) (x : Vector → ℕ) (zs : List Vector) → ((w : Vector) → In w zs → same_point v w ≡ false) → at v x zs ≡ 0
  at-none v x zs h = total-same (λ (w : Vector). cond (same_point v w) (x w) 0) (λ w. 0) zs (λ w i. ap (λ b. cond b (x w) 0) (h w i)) ∙ none-sum zs

  at-one : (v : Vector) (x : Vector → ℕ) (zs : List Vector) → AreRising zs → In v zs → at v x zs ≡ x v
  at-one v x [] r i = absurd i
  at-one v x (y ∷ ys) r (inl e) =
      let a = ap (λ b. cond b (x y) 0) (ap (same_point v) (sym e) ∙ same_point-refl v) in
      let b = at-none v x ys (λ w j. ap (λ u. same_point u w) e ∙ apart-after y w (in-all (IsAfter l y) ys w r.0 j)) in
      let c = ap x e in omega arith
  at-one v x (y ∷ ys) r (inr i) =
      let a = ap (λ b. cond b (x y) 0) (apart-before y v (in-all (IsAfter l y) ys v r.0 i)) in
      let b = at-one v x ys r.1 i in omega arith

  elsewhere : (v y : Vector) (ys : List Vector) → same_point v y ≡ false → ((w : Vector) → In w ys → same_point v w ≡ false) → (w : Vector) → In w (y ∷ ys) → same_point v w ≡ false
  elsewhere v y ys h n w (inl e) = ap (same_point v) e ∙ h
  elsewhere v y ys h n w (inr i) = n w i

  found-or : (v y : Vector) (ys : List Vector) → (b : Bool) → same_point v y ≡ b → (In v ys) ⊎ ((w : Vector) → In w ys → same_point v w ≡ false) → (In v (y ∷ ys)) ⊎ ((w : Vector) → In w (y ∷ ys) → same_point v w ≡ false)
  found-or v y ys true h k = inl (inl (same_point-true v y h))
  found-or v y ys false h (inl i) = inl (inr i)
  found-or v y ys false h (inr n) = inr (elsewhere v y ys h n)

  found : (v : Vector) (zs : List Vector) → (In v zs) ⊎ ((w : Vector) → In w zs → same_point v w ≡ false)
  found v [] = inr (λ w i. absurd i)
  found v (y ∷ ys) = found-or v y ys (same_point v y) refl (found v ys)

  never-by : (v w : Vector) → (v ≡ w → ⊥) → one_at v w ≡ 0
  never-by v w h = ap bit (differ v w h)

  module _ (zs : List Vector) (mt : AreMeetings l T zs) (v : Vector) where
    none-of : ((w : Vector) → In w zs → same_point v w ≡ false) → side l v ≡ Null → (F v ≡ 0) × (G v ≡ 0)
    none-of n h = (
      total-same (λ (t : Edge). one_at v t.from) (λ t. 0) T (λ t i. never-by v t.from (λ e. let m = n t.from (mt.whole t i t.from (ends_at-from t) (ap (side l) (sym e) ∙ h)) in cc (sym m ∙ ap (same_point v) (sym e) ∙ same_point-refl v))) ∙ none-sum T,
      total-same (λ (t : Edge). one_at v t.to) (λ t. 0) T (λ t i. never-by v t.to (λ e. let m = n t.to (mt.whole t i t.to (ends_at-to t) (ap (side l) (sym e) ∙ h)) in cc (sym m ∙ ap (same_point v) (sym e) ∙ same_point-refl v))) ∙ none-sum T,
    )

    on-line-by : side l v ≡ Null → (In v zs) ⊎ ((w : Vector) → In w zs → same_point v w ≡ false) → F v + left_by v (closing l T zs) ≡ G v + entered_by v (closing l T zs)
    on-line-by h (inl i) = let a = all-balanced zs mt v in let f = at-one v F zs mt.rising i in let g = at-one v G zs mt.rising i in omega arith
    on-line-by h (inr n) = let a = all-balanced zs mt v in let f = at-none v F zs n in let g = at-none v G zs n in let k = none-of n h in omega arith

    on-line : side l v ≡ Null → F v + left_by v (closing l T zs) ≡ G v + entered_by v (closing l T zs)
    on-line h = on-line-by h (found v zs)

    off-line-closing : (s : Sign) → side l v ≡ s → (s ≡ Null → ⊥) → left_by v (closing l T zs) ≡ entered_by v (closing l T zs)
    off-line-closing s h n =
        let a = all-balanced zs mt v in
        let o = λ (w : Vector) (i : In w zs). apart-sides l v w s Null h (mt.on_line w i) n in
        let f = at-none v F zs o in let g = at-none v G zs o in omega arith

    beyond-none : side l v ≡ Minus → (F v ≡ 0) × (G v ≡ 0)
    beyond-none h = (
      total-same (λ (t : Edge). one_at v t.from) (λ t. 0) T (λ t i. never-by v t.from (λ e. let k = (kept t i).from in let m = ap (λ x. not (is_minus x)) (ap (side l) (sym e) ∙ h) in cc (sym k ∙ m))) ∙ none-sum T,
      total-same (λ (t : Edge). one_at v t.to) (λ t. 0) T (λ t i. never-by v t.to (λ e. let k = (kept t i).to in let m = ap (λ x. not (is_minus x)) (ap (side l) (sym e) ∙ h) in cc (sym k ∙ m))) ∙ none-sum T,
    )

    not-it : (s : Sign) → side l v ≡ s → (w : Vector) → not (is_plus (side l w)) ≡ true → s ≡ Plus → one_at v w ≡ 0
    not-it s h w n e = never-by v w (λ f. let k = ap (λ x. not (is_plus x)) (ap (side l) (sym f) ∙ h ∙ e) in cc (sym n ∙ k))

    ends-by : (s : Sign) → side l v ≡ s → F v + left_by v (closing l T zs) ≡ G v + entered_by v (closing l T zs)
    ends-by Null h = on-line h
    ends-by Plus h =
        let c = off-line-closing Plus h (λ e. cc e) in
        let k = kept-balanced l cs cut (one_at v) (λ w n. not-it Plus h w n refl) sd.balanced in omega arith
    ends-by Minus h =
        let c = off-line-closing Minus h (λ e. cc e) in let k = beyond-none h in omega arith

    pub half-ends : total (λ (e : Edge). one_at v e.from) (half l cs zs) ≡ total (λ (e : Edge). one_at v e.to) (half l cs zs)
    half-ends =
        let a = total-++ (λ (e : Edge). one_at v e.from) T (closing l T zs) in let b = total-++ (λ (e : Edge). one_at v e.to) T (closing l T zs) in
        let e = ends-by (side l v) refl in omega arith

  pub half-balanced : (zs : List Vector) → AreMeetings l T zs → IsBalanced (half l cs zs)
  half-balanced zs mt v = sym (total-is (λ (e : Edge). one_at v e.from) (half l cs zs)) ∙ half-ends zs mt v ∙ total-is (λ (e : Edge). one_at v e.to) (half l cs zs)
