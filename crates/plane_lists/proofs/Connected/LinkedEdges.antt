-- All edges of a sided list are linked where one edge alone is the anchor of a walk and runs down.
use Rattle.std.proofs.Common.{Bool, List, [], ap, arith, cond, false, inl, inr, not, refl, subst, suc, sym, true, zero, ℕ, ◌&&◌, ◌<◌, ◌∙◌, ◌∷◌, ◌≡◌, ◌≤◌}
use Rattle.plane_lists.specs.Rings.Walk.{Follow, IsSuccessor, IsWalk, last}
use Rattle.plane.specs.Bit.{bit}
use Rattle.plane.specs.Edge.{Edge, IsRisingEdge, is_horizontal, is_rising, reversed, segment_of}
use Rattle.plane.specs.Sign.{Minus, Null, Plus, Sign, is_null, is_plus, sign, then_sign}
use lib.IntN.{◌-ℤ◌}
use Rattle.plane_lists.specs.Connected.Earlier.{is_earlier}
use Rattle.std.proofs.lemmas.Bool.{false_from_ne_true}
use Rattle.plane.proofs.SignKit.{self-diff}
use Rattle.plane.specs.Height.{is_in_span}
use Rattle.plane.specs.Order.{order}
use Rattle.plane.specs.Vector.{one_at}
use Rattle.plane_lists.specs.Lists.OddSide.{runs_up_by_odd_side}
use Rattle.plane_lists.specs.Rings.Nesting.{IsNextLeft}
use Rattle.lists.specs.Member.{In}
use Rattle.plane_lists.specs.Lists.ConflictFree.{IsConflictFree}
use Rattle.plane_lists.specs.Lists.EdgeList.{IsBalanced, IsEvenAtPoints}
use Rattle.plane_lists.specs.Lists.Ring.{IsAnchor, segments_of}
use Rattle.plane_lists.specs.Lists.Sided.{IsSided}
use Rattle.plane_lists.specs.Connected.Linked.{IsAcross, Linked}
use Rattle.plane_lists.specs.Connected.Linked.Linked.{Back, Crosses, Follows, Through}
use Rattle.lists.proofs.ListsKit.{and-left, and-right, clash, in-map, in-map-out, total, total-below, total-is}
use Rattle.plane_lists.proofs.NestingKit.{Once, last-in, plain-of, rise, runs_up_as, walk_path}
use Rattle.plane_lists.proofs.OneRingListKit.{walk-of}
use Rattle.plane.proofs.PlaneKit.{right_of}
use Rattle.plane_lists.proofs.WindingKit.{anchor_span, bit-less, ok, ok-either-by, ok_chain, path-ends, rising_in, sided-even, some-anchor}
use Rattle.plane_lists.proofs.Connected.Earlier.{anchor_first, earlier_is, neighbour_before}
use Rattle.plane_lists.proofs.Connected.NextLeft.{next_left}

-- ---- along a walk
-- an edge that runs up is its segment
up-segment-by : (x : Edge) (b : Bool) → b ≡ true → cond b x (reversed x) ≡ x
up-segment-by x true h = refl
up-segment-by x false h = absurd (cc h)

pub up-segment : (x : Edge) → is_rising x ≡ true → segment_of x ≡ x
up-segment x h = up-segment-by x (is_rising x) h

module _ (es : List Edge) where
  follow-linked : (z : Edge) (xs : List Edge) → In z es → Follow (IsSuccessor es) z xs → (x : Edge) → In x xs → Linked es z x
  follow-linked z [] i h x j = absurd j
  follow-linked z (y ∷ ys) i h x (inl e) = subst (λ w. Linked es z w) (sym e) (Follows z y i h.0)
  follow-linked z (y ∷ ys) i h x (inr j) = Through z y x (Follows z y i h.0) (follow-linked y ys (h.0).member h.1 x j)

  end-of : (w : List Edge) (e : Edge) → In e w → (z : Edge) → last z w ≡ z → In z w
  end-of [] e i z q = absurd i
  end-of (x ∷ xs) e i z q = subst (λ y. In y (x ∷ xs)) q (last-in z x xs)

  -- all edges of a walk are linked
  pub walk_linked : (w : List Edge) → IsWalk es w → (e f : Edge) → In e w → In f w → Linked es e f
  walk_linked w k e f i j =
      let z = k.cycle.end in
      let to = follow-linked z w (k.here z (end-of w e i z k.cycle.closed)) k.cycle.steps in
      Through e z f (Back z e (to e i)) (to f j)

module _ (es : List Edge) (sd : IsSided es) where
  -- ---- walks as lists
  pub walk-plain : (w : List Edge) → IsWalk es w → Once w → IsConflictFree (segments_of w)
  walk-plain w k o = plain-of es sd w k.here o

  pub walk-even : (w : List Edge) → IsWalk es w → IsEvenAtPoints (segments_of w)
  walk-even w k = sided-even w balanced
    where
      balanced : IsBalanced w
      balanced v =
          let p = walk_path es sd w k in let e = path-ends v p.0 p.0 w p.1 in
          let a = total-is (λ (e : Edge). one_at v e.from) w in let b = total-is (λ (e : Edge). one_at v e.to) w in omega arith

  -- ---- an edge that runs up, and the nearest edge on its left
  in-seg : (x : Edge) → In x es → is_rising x ≡ true → In x (segments_of es)
  in-seg x i h = subst (λ w. In w (segments_of es)) (up-segment x h) (in-map segment_of es x i)

  -- what is across comes earlier
  pub across_earlier : (x y : Edge) → IsAcross es x y → ok x (segment_of y) ≡ false
  across_earlier x y c =
      let n = c.next in
      neighbour_before (segments_of es) sd.plain x (segment_of y) (in-seg x c.here c.up) (in-map segment_of es y c.there)
      (and-left (is_in_span x.from x) (right_of x.from (segment_of y) x) n.right) n.spans
      (and-right (is_in_span x.from x) (right_of x.from (segment_of y) x) n.right)

  pub across_there : (x : Edge) → In x es → is_rising x ≡ true → is_in_span x.from x ≡ true → (y : Edge) × IsAcross es x y
  across_there x i u s =
      let up = ap (runs_up_by_odd_side (segments_of es)) (sym (up-segment x u)) ∙ runs_up_as es sd x i ∙ u in
      let m = next_left (segments_of es) sd.plain (sided-even es sd.balanced) x (in-seg x i u) up s in
      let y = in-map-out segment_of es m.0 m.1 in (
        y.0,
        record {
          here = i;
          there = y.1;
          up = u;
          down = sym (runs_up_as es sd y.0 y.1) ∙ ap (runs_up_by_odd_side (segments_of es)) (sym y.2) ∙ m.2;
          next = subst (λ w. IsNextLeft x w (segments_of es)) y.2 m.3;
        },
      )

  -- the walk of the neighbour begins earlier
  anchor-rising : (w : List Edge) → IsWalk es w → (a : Edge) → In a (segments_of w) → IsRisingEdge a
  anchor-rising w k a i = let x = in-map-out segment_of w a i in subst IsRisingEdge (sym x.2) (rise es sd x.0 (k.here x.0 x.1))

  pub walk_earlier : (x y : Edge) → IsAcross es x y → (w : List Edge) → IsWalk es w → In y w → (a : Edge) → IsAnchor a (segments_of w) → is_earlier a x ≡ true
  walk_earlier x y c w k j a aa =
      let ra = anchor-rising w k a aa.member in let ry = rise es sd y c.there in
      let rx = subst IsRisingEdge (up-segment x c.up) (rise es sd x c.here) in
      let before = anchor_first a (segment_of y) (segments_of w) aa (in-map segment_of w y j) in
      let n = false_from_ne_true (ok x a) (λ h. clash (ok x (segment_of y)) (ok_chain x a (segment_of y) rx ra ry h before) (across_earlier x y c)) in
      earlier_is a x ∙ ap not n

  -- an edge that runs up and isn't level spans the height where it begins
  own-span : (x : Edge) → In x es → is_rising x ≡ true → is_horizontal x ≡ false → is_in_span x.from x ≡ true
  own-span x i u h =
      let r : IsRisingEdge x = subst IsRisingEdge (up-segment x u) (rise es sd x i) in
      let t = tall (sign (x.to.y -ℤ x.from.y)) (sign (x.to.x -ℤ x.from.x)) r h in
      ap (λ s. not (is_plus s) && is_plus (sign (x.to.y -ℤ x.from.y))) (self-diff x.from.y) ∙ t
    where
      tall : (s t : Sign) → then_sign s t ≡ Plus → is_null s ≡ false → is_plus s ≡ true
      tall Plus t h n = refl
      tall Null t h n = absurd (cc n)
      tall Minus t h n = absurd (cc h)

  pub neighbour_there : (x : Edge) → In x es → is_rising x ≡ true → is_horizontal x ≡ false → (y : Edge) × IsAcross es x y
  neighbour_there x i u h = across_there x i u (own-span x i u h)

  -- ---- how many edges come no later
  abbrev place : Edge → ℕ
  place e = total (λ (s : Edge). bit (ok s e)) (segments_of es)

  bit-below : (x y : Bool) → x ≡ false → y ≡ true → bit x < bit y
  bit-below false true h k = omega arith
  bit-below true y h k = absurd (cc h)
  bit-below false false h k = absurd (cc k)

  -- m comes before a, and a no later than e
  less-place : (m a e : Edge) → In m (segments_of es) → In a (segments_of es) → In e (segments_of es) → ok a m ≡ false → ok a e ≡ true → place m < place e
  less-place m a e im ia ie n k =
      let rm = rising_in (segments_of es) m sd.plain im in let ra = rising_in (segments_of es) a sd.plain ia in let re = rising_in (segments_of es) e sd.plain ie in
      let me = ok_chain m a e rm ra re (ok-either-by a m (order a.from m.from) refl n) k in
      total-below (λ (s : Edge). bit (ok s m)) (λ (s : Edge). bit (ok s e)) (segments_of es) a
      (λ s i. bit-less (ok s m) (ok s e) (λ h. ok_chain s m e (rising_in (segments_of es) s sd.plain i) rm re h me)) ia (bit-below (ok a m) (ok a e) n k)

  -- ---- from each edge to the one
  module _ (o : Edge) (one : (w : List Edge) → IsWalk es w → Once w → (x : Edge) → In x w → IsAnchor (segment_of x) (segments_of w) → is_rising x ≡ false → x ≡ o) where
    abbrev Goal : Edge → Type 0
    Goal e = Linked es e o

    from-anchor : (w : List Edge) → (k : IsWalk es w) → Once w → (e x : Edge) → In e w → In x w → IsAnchor (segment_of x) (segments_of w) → ((y : Edge) → In y es → place (segment_of y) < place (segment_of e) → Goal y) → (b : Bool) → is_rising x ≡ b → Goal e
    from-anchor w k u e x i j a rec false h = subst (λ z. Linked es e z) (one w k u x j a h) (walk_linked es w k e x i j)
    from-anchor w k u e x i j a rec true h =
        let q = up-segment x h in
        let s = anchor_span (segment_of x) (segments_of w) (walk-plain w k u) (walk-even w k) a in
        let y = across_there x (k.here x j) h (subst (λ z. is_in_span z.from z ≡ true) q s) in
        let first = subst (λ z. ok z (segment_of e) ≡ true) q (anchor_first (segment_of x) (segment_of e) (segments_of w) a (in-map segment_of w e i)) in
        let l = less-place (segment_of y.0) x (segment_of e) (in-map segment_of es y.0 y.1.there) (in-seg x (k.here x j) h) (in-map segment_of es e (k.here e i)) (across_earlier x y.0 y.1) first in
        Through e x o (walk_linked es w k e x i j) (Through x y.0 o (Crosses x y.0 y.1) (rec y.0 y.1.there l))

    step : (e : Edge) → In e es → ((y : Edge) → In y es → place (segment_of y) < place (segment_of e) → Goal y) → Goal e
    step e i rec =
        let w = walk-of es sd e i in
        let a = some-anchor (segments_of w.0) (segment_of e) (in-map segment_of w.0 e w.3) (walk-plain w.0 w.1 w.2) in
        let x = in-map-out segment_of w.0 a.0 a.1.member in
        from-anchor w.0 w.1 w.2 e x.0 w.3 x.1 (subst (λ z. IsAnchor z (segments_of w.0)) x.2 a.1) rec (is_rising x.0) refl

    by-place : (n : ℕ) (e : Edge) → In e es → place (segment_of e) ≤ n → Goal e
    by-place zero e i l = step e i (λ y j h. absurd (omega arith))
    by-place (suc n) e i l = step e i (λ y j h. by-place n y j (omega arith))

    pub all_linked : (e f : Edge) → In e es → In f es → Linked es e f
    all_linked e f i j =
        let to = λ (x : Edge) (ix : In x es). by-place (place (segment_of x)) x ix (omega arith) in
        Through e o f (to e i) (Back f o (to f j))
