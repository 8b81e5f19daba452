-- Leaf cover: the leaves of a list cover what it covers.
use Rattle.std.proofs.Common.{List, [], ap, arith, inl, inr, pos, refl, subst, sym, ℕ, ℤ, ◌%◌, ◌*◌, ◌*ℤ◌, ◌+ℤ◌, ◌-ℤ◌, ◌++◌, ◌+◌, ◌∙◌, ◌∷◌, ◌≡◌, ◌⊎◌}
use borrow.Author.Differences.{ints}
use Rattle.plane.specs.Edge as plane
use Rattle.plane.specs.Scale.{scaled_point}
use Rattle.plane.specs.Sign.{Minus, Null, Plus, Sign, sign}
use Rattle.plane.specs.Vector.{Vector, east}
use Rattle.plane_lists.specs.Lists.EdgeList.{down_count, up_count}
use Rattle.lists.specs.Member.{In}
use Rattle.plane_lists.specs.Lists.ScaledEdges.{scaled_edges}
use Rattle.plane_lists.proofs.WindingKit.{counted-both-ways}
use Rattle.plane_lists.specs.Halves.Line.{scaled_line, side}
use Rattle.osm_geom.specs.declared.cut.Axis.{Axis}
use Rattle.osm_geom.specs.declared.cut.Axis.TheVariants.{X, Y}
use Rattle.osm_geom.specs.declared.cut.Cut.{Cut}
use Rattle.osm_geom.specs.declared.cut.Side.{Side}
use Rattle.osm_geom.specs.declared.cut.Side.TheVariants.{Low, High}
use Rattle.osm_geom.specs.declared.edge.Edge.{Edge}
use Rattle.osm_geom.specs.InPlane.Multiple.{product_of_denominators, whole_edges}
use Rattle.osm_geom.specs.InPlane.Sided.{IsSided, count_at, signed_count_at}
use Rattle.coast_split.specs.Half.{IsHalf, line_by, line_of}
use Rattle.coast_split.specs.SplitTree.{Covers, IsOffCuts, IsOffList, IsTree, SomeCovers, Tree, high_cut, leaves_of, low_cut, middle_of}
use Rattle.coast_split.specs.SplitTree.Tree.{Fork, Whole}
use Rattle.plane.proofs.SignKit.{lift, same, ◌⊞◌, ◌⊟◌, ◌⊠◌, agree-sum, plus-times, says-at, plus-not-minus, difference_turned}
use Rattle.lists.proofs.ListsKit.{in-either, in-left, in-right, odd_sum}
use Rattle.coast_split.proofs.CutLines.{high-x, high-y, low-x, low-y}
use Rattle.coast_split.proofs.SidedHalves.{half-beyond, half-kept, half-sided, off-beyond, off-kept}

-- ---- of a sided list the parity is the signed count
module _ (q : ℤ) (hq : sign q ≡ Plus) (p : Vector) (es : List Edge) (sd : IsSided es) (off : IsOffList q p es) where
  abbrev P : Vector
  P = scaled_point (pos (product_of_denominators es)) p

  abbrev L : List plane.Edge
  L = scaled_edges q (whole_edges es)

  one-by : (n u d : ℕ) → n ≡ u + d → (pos u -ℤ pos d ≡ pos 0) ⊎ (pos u -ℤ pos d ≡ pos 1) → n % 2 ≡ 1 → pos u -ℤ pos d ≡ pos 1
  one-by n u d e (inr h) k = h
  one-by n u d e (inl h) k = let same : u ≡ d = omega (arith, ints) in let two : n ≡ 2 * u = omega arith in absurd (omega arith)

  pub covers-once : Covers q p es → signed_count_at q p es ≡ pos 1
  covers-once h = one-by (count_at q p es) (up_count east P L) (down_count east P L) (counted-both-ways east P L) (sd.counted q hq P off) h

  pub once-covers : signed_count_at q p es ≡ pos 1 → Covers q p es
  once-covers h = odd_sum (count_at q p es) (up_count east P L) (down_count east P L) (counted-both-ways east P L) h

pub zero-one : (z : ℤ) → z ≡ pos 0 → z ≡ pos 1 → ⊥
zero-one z e f = cc (sym e ∙ f)

-- ---- a point beyond the low half is in the high one
wider : (q x c o : ℤ) → (x -ℤ q *ℤ (c +ℤ o)) +ℤ q *ℤ (o +ℤ o) ≡ x -ℤ q *ℤ (c -ℤ o)
wider q x c o =
    let q' = lift q in let x' = lift x in let c' = lift c in let o' = lift o in
    same ((x' ⊟ q' ⊠ (c' ⊞ o')) ⊞ q' ⊠ (o' ⊞ o')) (x' ⊟ q' ⊠ (c' ⊟ o')) (omega arith)

not-minus : (k : ℕ) → sign (pos k +ℤ pos k) ≡ Minus → ⊥
not-minus k h = let s = says-at Minus (pos k +ℤ pos k) h in omega (arith, ints)

in-high : (q x c : ℤ) (o : ℕ) → sign q ≡ Plus → sign (q *ℤ (c +ℤ pos o) -ℤ x) ≡ Minus → sign (x -ℤ q *ℤ (c -ℤ pos o)) ≡ Plus
in-high q x c o hq h =
    plus-not-minus (sign (x -ℤ q *ℤ (c +ℤ pos o))) (sign (q *ℤ (pos o +ℤ pos o))) (sign (x -ℤ q *ℤ (c -ℤ pos o)))
    (agree-sum (x -ℤ q *ℤ (c +ℤ pos o)) (q *ℤ (pos o +ℤ pos o)) (x -ℤ q *ℤ (c -ℤ pos o)) (wider q x c (pos o)))
    (difference_turned (q *ℤ (c +ℤ pos o)) x h) (λ e. not-minus o (sym (plus-times q (pos o +ℤ pos o) hq) ∙ e))

either-by : (axis : Axis) (q c : ℤ) (o : ℕ) (p : Vector) → sign q ≡ Plus →
    side (scaled_line q (line_by axis Low (record { axis = axis; at = c +ℤ pos o }))) p ≡ Minus → side (scaled_line q (line_by axis High (record { axis = axis; at = c -ℤ pos o }))) p ≡ Plus
either-by X q c o p hq h = ap sign (high-x q (c -ℤ pos o) p.x p.y) ∙ in-high q p.x c o hq (sym (ap sign (low-x q (c +ℤ pos o) p.x p.y)) ∙ h)
either-by Y q c o p hq h = ap sign (high-y q (c -ℤ pos o) p.x p.y) ∙ in-high q p.y c o hq (sym (ap sign (low-y q (c +ℤ pos o) p.x p.y)) ∙ h)

pub either-half : (x : Cut) (o : ℕ) (q : ℤ) (p : Vector) → sign q ≡ Plus → side (scaled_line q (line_of (low_cut x o) Low)) p ≡ Minus → side (scaled_line q (line_of (high_cut x o) High)) p ≡ Plus
either-half x o q p hq h = either-by x.axis q x.at o p hq h

-- ---- one half at a point off its line
pub record HalfAt (q : ℤ) (p : Vector) (es hs : List Edge) (o : Sign) : Type 0 where
  pub off : IsOffList q p hs
  pub inside : o ≡ Plus → signed_count_at q p hs ≡ signed_count_at q p es
  pub outside : o ≡ Minus → signed_count_at q p hs ≡ pos 0

module _ (cut : Cut) (s : Side) (es hs : List Edge) (h : IsHalf cut s es hs) (sd : IsSided es) (q : ℤ) (hq : sign q ≡ Plus) (p : Vector) (off : IsOffList q p es) where
  half-by : (o : Sign) → side (scaled_line q (line_of cut s)) p ≡ o → (o ≡ Null → ⊥) → HalfAt q p es hs o
  half-by Plus e n = record { off = off-kept cut s es hs h sd q hq p e off; inside = λ x. half-kept cut s es hs h sd q hq p e off; outside = λ x. absurd (cc x) }
  half-by Minus e n = record { off = off-beyond cut s es hs h sd q hq p e; inside = λ x. absurd (cc x); outside = λ x. half-beyond cut s es hs h sd q hq p e }
  half-by Null e n = absurd (n refl)

  pub half-at : (side (scaled_line q (line_of cut s)) p ≡ Null → ⊥) → HalfAt q p es hs (side (scaled_line q (line_of cut s)) p)
  half-at n = half-by (side (scaled_line q (line_of cut s)) p) refl n

-- ---- the tree
module _ (m o : ℕ) where
  in-leaf : (es : List Edge) (leaf : List Edge) → In leaf (es ∷ []) → leaf ≡ es
  in-leaf es leaf (inl e) = e
  in-leaf es leaf (inr i) = absurd i

  sided-either : (low high : List (List Edge)) (leaf : List Edge) → (In leaf low → IsSided leaf) → (In leaf high → IsSided leaf) → (In leaf low) ⊎ (In leaf high) → IsSided leaf
  sided-either low high leaf f g (inl i) = f i
  sided-either low high leaf f g (inr i) = g i

  pub leaves-sided : (es : List Edge) (t : Tree) → IsTree m o es t → IsSided es → (leaf : List Edge) → In leaf (leaves_of es t) → IsSided leaf
  leaves-sided es Whole h sd leaf i = subst IsSided (sym (in-leaf es leaf i)) sd
  leaves-sided es (Fork low high s t) h sd leaf i =
      let x = middle_of es in
      sided-either (leaves_of low s) (leaves_of high t) leaf
      (λ j. leaves-sided low s h.3 (half-sided (low_cut x o) Low es low h.1 sd) leaf j)
      (λ j. leaves-sided high t h.4 (half-sided (high_cut x o) High es high h.2 sd) leaf j)
      (in-either (leaves_of low s) (leaves_of high t) leaf i)

  module _ (q : ℤ) (hq : sign q ≡ Plus) (p : Vector) where
    abbrev Some : List (List Edge) → Type 0
    Some ls = SomeCovers q p ls

    some-left : (xs ys : List (List Edge)) → Some xs → Some (xs ++ ys)
    some-left xs ys c = record { leaf = c.leaf; member = in-left xs ys c.leaf c.member; covers = c.covers }

    some-right : (xs ys : List (List Edge)) → Some ys → Some (xs ++ ys)
    some-right xs ys c = record { leaf = c.leaf; member = in-right xs ys c.leaf c.member; covers = c.covers }

    some-either : (xs ys : List (List Edge)) (leaf : List Edge) → Covers q p leaf → (In leaf xs) ⊎ (In leaf ys) → (Some xs) ⊎ (Some ys)
    some-either xs ys leaf c (inl i) = inl (record { leaf = leaf; member = i; covers = c })
    some-either xs ys leaf c (inr i) = inr (record { leaf = leaf; member = i; covers = c })

    -- the signs of the two sides, and the two halves there
    down-by : (es low high : List Edge) (a b : Sign) → (a ≡ Null → ⊥) → (a ≡ Minus → b ≡ Plus) → HalfAt q p es low a → HalfAt q p es high b → signed_count_at q p es ≡ pos 1 →
        (signed_count_at q p low ≡ pos 1) ⊎ (signed_count_at q p high ≡ pos 1)
    down-by es low high Plus b n f x y c = inl (x.inside refl ∙ c)
    down-by es low high Minus b n f x y c = inr (y.inside (f refl) ∙ c)
    down-by es low high Null b n f x y c = absurd (n refl)

    up-by : (es hs : List Edge) (a : Sign) → (a ≡ Null → ⊥) → HalfAt q p es hs a → signed_count_at q p hs ≡ pos 1 → signed_count_at q p es ≡ pos 1
    up-by es hs Plus n x c = sym (x.inside refl) ∙ c
    up-by es hs Minus n x c = absurd (zero-one (signed_count_at q p hs) (x.outside refl) c)
    up-by es hs Null n x c = absurd (n refl)

    some-of : (xs ys : List (List Edge)) (A B : Type 0) → (A → Some xs) → (B → Some ys) → A ⊎ B → Some (xs ++ ys)
    some-of xs ys A B f g (inl a) = some-left xs ys (f a)
    some-of xs ys A B f g (inr b) = some-right xs ys (g b)

    from-either : (A B C : Type 0) → (A → C) → (B → C) → A ⊎ B → C
    from-either A B C f g (inl a) = f a
    from-either A B C f g (inr b) = g b

    pub leaf-cover : (es : List Edge) (t : Tree) → IsTree m o es t → IsSided es → IsOffList q p es → IsOffCuts o q p es t → (Covers q p es → Some (leaves_of es t)) × (Some (leaves_of es t) → Covers q p es)
    leaf-cover es Whole h sd off cuts = (
      (λ c. record { leaf = es; member = inl refl; covers = c }),
      (λ c. subst (Covers q p) (in-leaf es c.leaf c.member) c.covers),
    )
    leaf-cover es (Fork low high s t) h sd off cuts =
        let x = middle_of es in
        let a = half-at (low_cut x o) Low es low h.1 sd q hq p off cuts.0 in
        let b = half-at (high_cut x o) High es high h.2 sd q hq p off cuts.1 in
        let sl = half-sided (low_cut x o) Low es low h.1 sd in let sh = half-sided (high_cut x o) High es high h.2 sd in
        let l = leaf-cover low s h.3 sl a.off cuts.2 in let r = leaf-cover high t h.4 sh b.off cuts.3 in (
          (λ c. some-of (leaves_of low s) (leaves_of high t) (signed_count_at q p low ≡ pos 1) (signed_count_at q p high ≡ pos 1)
              (λ e. l.0 (once-covers q hq p low sl a.off e)) (λ e. r.0 (once-covers q hq p high sh b.off e))
              (down-by es low high (side (scaled_line q (line_of (low_cut x o) Low)) p) (side (scaled_line q (line_of (high_cut x o) High)) p) cuts.0 (λ e. either-half x o q p hq e) a b (covers-once q hq p es sd off c))),
          (λ c. once-covers q hq p es sd off
              (from-either (Some (leaves_of low s)) (Some (leaves_of high t)) (signed_count_at q p es ≡ pos 1)
              (λ d. up-by es low (side (scaled_line q (line_of (low_cut x o) Low)) p) cuts.0 a (covers-once q hq p low sl a.off (l.1 d)))
              (λ d. up-by es high (side (scaled_line q (line_of (high_cut x o) High)) p) cuts.1 b (covers-once q hq p high sh b.off (r.1 d)))
              (some-either (leaves_of low s) (leaves_of high t) c.leaf c.covers (in-either (leaves_of low s) (leaves_of high t) c.leaf c.member)))),
        )
