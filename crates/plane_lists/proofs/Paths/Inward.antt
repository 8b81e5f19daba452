-- A point inside a sided list is joined to a point left beside the nearest edge on its right.
use Rattle.std.proofs.Common.{All, Bool, List, [], ap, arith, cond, false, map, not, pos, refl, subst, sym, true, ℤ, ◌%◌, ◌&&◌, ◌*ℤ◌, ◌+◌, ◌∙◌, ◌∷◌, ◌≡◌, ◌⊎◌, inl, inr}
use borrow.Author.Differences.{ints}
use Rattle.lists.specs.Member.{In}
use Rattle.plane_lists.specs.Paths.Beside.{IsLeftBeside, ReachesEdge}
use Rattle.plane_lists.specs.Paths.Line.{IsApart, IsFreeStep}
use Rattle.plane.specs.Bit.{bit}
use Rattle.plane.specs.Edge.{Edge, IsRisingEdge, reversed, same_edge, segment_of}
use Rattle.plane.specs.Height.{is_in_span, is_left_of}
use Rattle.plane.specs.Order.{order}
use Rattle.plane.specs.RayCrossing.{IsOffEdge}
use Rattle.plane.specs.Scale.{scaled_edge, scaled_point}
use Rattle.plane.specs.Sign.{Minus, Null, Plus, Sign, is_null, is_plus, sign, then_sign}
use Rattle.plane.specs.Vector.{Vector, cross, east, from_to, orient}
use Rattle.plane_lists.specs.Lists.ConflictFree.{IsConflictFree, others}
use Rattle.plane_lists.specs.Lists.EdgeList.{IsEvenAtPoints, crossing_count, down_count, up_count, winding_number}
use Rattle.plane_lists.specs.Lists.OddSide.{directed, directed_edge, runs_up_by_odd_side}
use Rattle.plane_lists.specs.Lists.Ring.{segments_of}
use Rattle.plane_lists.specs.Lists.ScaledEdges.{scaled_edges}
use Rattle.plane_lists.specs.Lists.Sided.{IsSided}
use Rattle.lists.proofs.ListsKit.{in-all, in-filter, in-map, in-map-out, in-passes, into-filter, not-true-out, total, total-same}
use Rattle.plane_lists.proofs.NestingKit.{clear-two, sym-differs}
use Rattle.plane.proofs.PlaneKit.{clear_differs, orient-round, point-twice, right_of, same_edge-refl, step_of, tall-by}
use Rattle.plane.proofs.SignKit.{is_plus-true, plus-times}
use Rattle.std.proofs.lemmas.Bool.{and_from, and_parts}
use Rattle.plane_lists.proofs.WindingKit.{First, covers-crossings, crossing-order, crossing_by, edges-twice, even-is, first_exists, left-span, odd-is, off_not_null, right_left, rising_in, sided-even, sided_direct, signed_parity, some_odd, spanning_runs, split_off, to_right}
use Rattle.plane_lists.proofs.Paths.Across.{other-right, right-minus, right-plus}
use Rattle.plane_lists.proofs.Paths.Builders.{beside-twice, later-beside, near-unturned}
use Rattle.plane_lists.proofs.Paths.Feet.{near-none, none}
use Rattle.plane_lists.proofs.Paths.FeetAbove.{later-between}
use Rattle.plane_lists.proofs.Paths.Joins.{joined-step}
use Rattle.plane_lists.proofs.Paths.Later.{IsNearApart, Later, apart-near, later-both, later-free, later-some, near}
use Rattle.plane_lists.proofs.Paths.Places.{IsJustAbove, IsPlace, left-apart, left-from, level-apart, lies, place-of, place-side, right-apart, side, spot, tallness}
use Rattle.plane_lists.proofs.Paths.Steps.{apart-off, apart-times, left-times, off-apart}
use Rattle.plane_lists.proofs.ConnectedKit.{up-segment}

minus-by : (s : Sign) → not (is_null s) ≡ true → is_plus s ≡ false → s ≡ Minus
minus-by Minus h k = refl
minus-by Null h k = absurd (cc h)
minus-by Plus h k = absurd (cc k)

and-second : (a b : Bool) → a ≡ true → (a && b) ≡ false → b ≡ false
and-second true b h k = k
and-second false b h k = absurd (cc h)

-- ---- the nearest edge on the right
module _ (p : Vector) (es : List Edge) (pl : IsConflictFree es) (off : (g : Edge) → In g es → IsOffEdge p g) (a : Edge) (near-one : First (right_of p) a (crossing_by p es)) where
  ja : In a es
  ja = in-filter (is_left_of p) es a near-one.here

  la : is_left_of p a ≡ true
  la = in-passes (is_left_of p) es a near-one.here

  pub sa : is_in_span p a ≡ true
  sa = left-span p a la

  abbrev pub m : ℤ
  m = pos 1 *ℤ tallness a

  pub hm : sign m ≡ Plus
  hm = plus-times (pos 1) (tallness a) refl ∙ tall-by p a sa

  abbrev pub X : Vector
  X = scaled_point m p

  abbrev pub U : Vector
  U = record { x = pos 0; y = m }

  abbrev pub Y : Vector
  Y = scaled_point (pos 1) (spot p a)

  abbrev pub V : Vector
  V = scaled_point (pos 1) (step_of a)

  pub a-place : IsPlace p a m Y V
  a-place = place-of p a sa (pos 1) refl

  pub above : IsJustAbove p m X U
  above = record { level = refl; up = hm }

  point-side : (g : Edge) (s : Sign) → orient g.from g.to p ≡ s → sign (lies m X g) ≡ s
  point-side g s h = left-times m hm (step_of g) g.from p ∙ h

  left-side : (g : Edge) → orient g.from g.to p ≡ Plus → side m X U g ≡ Plus
  left-side g h = ap (λ s. then_sign s (sign (cross (step_of g) U))) (point-side g Plus h)

  right-side : (g : Edge) → orient g.from g.to p ≡ Minus → side m X U g ≡ Minus
  right-side g h = ap (λ s. then_sign s (sign (cross (step_of g) U))) (point-side g Minus h)

  left-is : (g : Edge) → is_left_of p g ≡ true → orient g.from g.to p ≡ Plus
  left-is g h = is_plus-true (orient g.from g.to p) (and_parts (is_in_span p g) (is_plus (orient g.from g.to p)) h).1

  beyond-by : (g : Edge) → same_edge a g ≡ false → is_left_of p g ≡ true → (g ≡ a) ⊎ (right_of p a g ≡ true) → IsNearApart X U Y V (scaled_edge m g)
  beyond-by g n h (inl q) = absurd (let k = same_edge-refl a in let l = ap (same_edge a) q in cc (sym k ∙ sym l ∙ n))
  beyond-by g n h (inr k) = left-apart m X U Y V g (left-side g (left-is g h)) (place-side p a m Y V a-place g ∙ right-plus p a g k)

  not-right : (g : Edge) → is_in_span p g ≡ true → is_left_of p g ≡ false → (b : Bool) → right_of p a g ≡ b → b ≡ false
  not-right g s h false k = refl
  not-right g s h true k = let l = right_left p a g la s k in absurd (cc (sym l ∙ h))

  behind : (g : Edge) → In g es → same_edge a g ≡ false → is_in_span p g ≡ true → is_left_of p g ≡ false → IsNearApart X U Y V (scaled_edge m g)
  behind g j n s h =
      let o = off_not_null (from_to p g.from) (from_to p g.to) (off g j) s in
      let q = minus-by (orient g.from g.to p) (subst (λ z. not (is_null (sign z)) ≡ true) (sym (orient-round p g.from g.to)) o) (and-second (is_in_span p g) (is_plus (orient g.from g.to p)) s h) in
      let r = other-right p es pl a g ja j (sym-differs g a n) sa s (not-right g s h (right_of p a g) refl) in
      right-apart m X U Y V g (right-side g q) (place-side p a m Y V a-place g ∙ right-minus p a g r)

  spanned : (g : Edge) → In g es → same_edge a g ≡ false → is_in_span p g ≡ true → (b : Bool) → is_left_of p g ≡ b → IsNearApart X U Y V (scaled_edge m g)
  spanned g j n s true h = beyond-by g n h (near-one.first g (into-filter (is_left_of p) es g j h))
  spanned g j n s false h = behind g j n s h

  apart-by : (g : Edge) → In g es → same_edge a g ≡ false → (b : Bool) → is_in_span p g ≡ b → IsNearApart X U Y V (scaled_edge m g)
  apart-by g j n true s = spanned g j n s (is_left_of p g) refl
  apart-by g j n false s = level-apart p m hm X U Y V above a-place.above g (rising_in es g pl j) s

  pub nearest-apart : (g : Edge) → In g es → same_edge a g ≡ false → IsNearApart X U Y V (scaled_edge m g)
  nearest-apart g j n = apart-by g j n (is_in_span p g) refl

  pub a-left : side m X U a ≡ Plus
  a-left = left-side a (left-is a la)

  -- ---- it runs up where the edges right of p are odd in number
  right-same : (g : Edge) → In g (others a es) → bit (is_left_of p g) ≡ to_right p a g
  right-same g j =
      let i = in-filter (λ (t : Edge). not (same_edge a t)) es g j in
      let n = not-true-out (same_edge a g) (in-passes (λ (t : Edge). not (same_edge a t)) es g j) in
      both-bits (is_left_of p g) (is_in_span p g && right_of p a g)
      (λ h. and_from (is_in_span p g) (right_of p a g) (left-span p g h) (first-right g n (near-one.first g (into-filter (is_left_of p) es g i h))))
      (λ h. let b = and_parts (is_in_span p g) (right_of p a g) h in right_left p a g la b.0 b.1)
    where
      both-bits : (b c : Bool) → (b ≡ true → c ≡ true) → (c ≡ true → b ≡ true) → bit b ≡ bit c
      both-bits true true h k = refl
      both-bits false false h k = refl
      both-bits true false h k = absurd (cc (h refl))
      both-bits false true h k = absurd (cc (k refl))

      first-right : (g : Edge) → same_edge a g ≡ false → (g ≡ a) ⊎ (right_of p a g ≡ true) → right_of p a g ≡ true
      first-right g n (inl q) = absurd (let k = same_edge-refl a in let l = ap (same_edge a) q in cc (sym k ∙ sym l ∙ n))
      first-right g n (inr k) = k

  pub a-runs : IsEvenAtPoints es → crossing_count east p es % 2 ≡ 1 → runs_up_by_odd_side es a ≡ true
  a-runs even odd =
      let c = covers-crossings p es pl in
      let s = split_off (λ t. bit (is_left_of p t)) a es pl ja in
      let o : bit (is_left_of p a) ≡ 1 = ap bit la in
      let w = total-same (λ t. bit (is_left_of p t)) (to_right p a) (others a es) right-same in
      spanning_runs p a es pl even ja sa ∙ even-is (total (to_right p a) (others a es)) (let k : crossing_count east p es ≡ 1 + total (to_right p a) (others a es) = omega arith in omega arith)

-- ---- a point of winding number 1
map-in : (f g : Edge → Edge) (xs : List Edge) → ((x : Edge) → In x xs → f (g x) ≡ x) → map f (map g xs) ≡ xs
map-in f g [] h = refl
map-in f g (x ∷ xs) h = ap (λ y. y ∷ map f (map g xs)) (h x (inl refl)) ∙ ap (λ l. x ∷ l) (map-in f g xs (λ y i. h y (inr i)))

turned-up-by : (b : Bool) (p : Vector) (e : Edge) → IsApart p p e → IsApart p p (cond b e (reversed e))
turned-up-by true p e a = a
turned-up-by false p e a = record { along = a.along; first_from = a.first_to; first_to = a.first_from; last_from = a.last_to; last_to = a.last_from }

off-segment : (p : Vector) (e : Edge) → IsOffEdge p e → IsOffEdge p (segment_of e)
off-segment p e o = apart-off p p (segment_of e) (turned-up-by (is_plus (order e.from e.to)) p e (off-apart p e o))

module _ (es : List Edge) (sd : IsSided es) (p : Vector) (off : All (IsOffEdge p) es) (inside : winding_number east p es ≡ pos 1) where
  abbrev up-list : List Edge
  up-list = segments_of es

  even : IsEvenAtPoints up-list
  even = sided-even es sd.balanced

  whole : directed up-list ≡ es
  whole = map-in (directed_edge up-list) segment_of es (λ e i. sided_direct es sd e i)

  odd : crossing_count east p up-list % 2 ≡ 1
  odd =
      let h = subst (λ (l : List Edge). up_count east p l ≡ down_count east p l + crossing_count east p up-list % 2) whole (signed_parity p up-list sd.plain even) in
      omega (arith, ints)

  off-up : (g : Edge) → In g up-list → IsOffEdge p g
  off-up g j = let r = in-map-out segment_of es g j in subst (λ w. IsOffEdge p w) (sym r.2) (off-segment p r.0 (in-all (IsOffEdge p) es r.0 off r.1))

  nearest : (a : Edge) × First (right_of p) a (crossing_by p up-list)
  nearest =
      let t = some_odd (is_left_of p) up-list (let c = covers-crossings p up-list sd.plain in let o = odd in odd-is (total (λ t. bit (is_left_of p t)) up-list) (omega arith)) in
      first_exists (right_of p) (crossing_by p up-list) t.0 (into-filter (is_left_of p) up-list t.0 t.1 t.2) (crossing-order p up-list sd.plain)

  module _ (a : Edge) (f : First (right_of p) a (crossing_by p up-list)) where
    in-up : In a up-list
    in-up = in-filter (is_left_of p) up-list a f.here

    itself : directed_edge up-list a ≡ a
    itself = ap (λ b. cond b a (reversed a)) (a-runs p up-list sd.plain off-up a f even odd)

    a-in : In a es
    a-in =
        let r = in-map-out segment_of es a in-up in
        let q : a ≡ r.0 = sym itself ∙ ap (directed_edge up-list) r.2 ∙ sided_direct es sd r.0 r.1 in subst (λ w. In w es) (sym q) r.1

    a-rises : IsRisingEdge a
    a-rises = rising_in up-list a sd.plain in-up

    a-segment : segment_of a ≡ a
    a-segment = up-segment a (ap is_plus a-rises)

    differs : (g : Edge) → In g es → same_edge a g ≡ false → same_edge a (segment_of g) ≡ false
    differs g k d =
        subst (λ w. same_edge w (segment_of g) ≡ false) a-segment
        (clear_differs (segment_of a) (segment_of g) (rising_in up-list (segment_of a) sd.plain (in-map segment_of es a a-in)) (clear-two es sd a g a-in k d))

    abbrev M : ℤ
    M = m p up-list sd.plain off-up a f

    abbrev X0 : Vector
    X0 = X p up-list sd.plain off-up a f

    abbrev U0 : Vector
    U0 = U p up-list sd.plain off-up a f

    abbrev Y0 : Vector
    Y0 = Y p up-list sd.plain off-up a f

    abbrev V0 : Vector
    V0 = V p up-list sd.plain off-up a f

    big : sign M ≡ Plus
    big = hm p up-list sd.plain off-up a f

    abbrev Beside : ℤ → Type 0
    Beside k = IsLeftBeside (scaled_edges k (scaled_edges M es)) (scaled_edge k (scaled_edge M a)) (near k X0 U0)

    beside : Later Beside
    beside =
        later-beside es a M big X0 U0 Y0 V0
        (later-between p a M big Y0 V0 (a-place p up-list sd.plain off-up a f) a-rises (sa p up-list sd.plain off-up a f))
        (left-from M X0 U0 a (a-left p up-list sd.plain off-up a f))
        (λ g k d. near-unturned X0 U0 Y0 V0 M g (nearest-apart p up-list sd.plain off-up a f (segment_of g) (in-map segment_of es g k) (differs g k d)))

    abbrev Step : ℤ → Type 0
    Step k = IsFreeStep (scaled_edges k (scaled_edges M es)) (near k X0 none) (near k X0 U0)

    step : Later Step
    step =
        later-free X0 none X0 U0 (scaled_edges M es) (λ g j.
        let r = in-map-out (scaled_edge M) es g j in
        subst (λ w. IsNearApart X0 none X0 U0 w) (sym r.2) (apart-near X0 X0 (scaled_edge M r.0) (apart-times M big p p r.0 (off-apart p r.0 (in-all (IsOffEdge p) es r.0 off r.1))) none U0))

    reaches : ReachesEdge es p a
    reaches =
        let s = later-some (λ k. Step k × Beside k) (later-both Step Beside step beside) in
        let k = s.0 in let w = near k X0 U0 in record {
          multiple = k *ℤ M;
          positive = plus-times k M s.1 ∙ big;
          point = w;
          joined = joined-step (scaled_edges (k *ℤ M) es) (scaled_point (k *ℤ M) p) w
              (subst (λ (l : List Edge). IsFreeStep l (scaled_point (k *ℤ M) p) w) (edges-twice k M es)
              (subst (λ z. IsFreeStep (scaled_edges k (scaled_edges M es)) z w) (near-none k X0 ∙ point-twice k M p) s.2.0));
          beside = beside-twice k M es a w s.2.1;
        }

  pub inward : (e : Edge) × In e es × ReachesEdge es p e
  inward = let n = nearest in (n.0, a-in n.0 n.1, reaches n.0 n.1)
