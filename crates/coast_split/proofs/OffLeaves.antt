-- At points off the leaves' edges, on cut lines too: the leaves cover what the list covers, and no edge of the list is there.
use Rattle.std.proofs.Common.{Bool, List, [], ap, arith, false, inl, pos, refl, subst, sym, true, ℕ, ℤ, ◌%◌, ◌*ℤ◌, ◌-ℤ◌, ◌↔◌, ◌∙◌, ◌≡◌}
use borrow.Author.Differences.{ints}
use Rattle.std.specs.List.{sum_by}
use Rattle.std.proofs.lemmas.List.Elements.{All-append, All-cons, All-nil}
use Rattle.lists.specs.Member.{In}
use Rattle.plane_lists.specs.Paths.BesideLaws.{EdgePartsInside}
use Rattle.plane_lists.specs.Paths.Inside.{PartsInside}
use Rattle.plane_lists.specs.Paths.Near.{near, opposite_of}
use Rattle.plane.specs.Edge as plane
use Rattle.plane.specs.FreeSegment.{IsBetween}
use Rattle.plane.specs.RayCrossing.{IsOffEdge, is_off}
use Rattle.plane.specs.Scale.{scaled_edge, scaled_point}
use Rattle.plane.specs.Sign.{Plus, sign}
use Rattle.plane.specs.Vector.{IsNonZero, Vector, cross, from_to, same_point}
use Rattle.plane_lists.specs.Lists.ScaledEdges.{scaled_edges}
use Rattle.osm_geom.specs.declared.cut.Side.TheVariants.{Low, High}
use Rattle.osm_geom.specs.declared.edge.Edge.{Edge}
use Rattle.osm_geom.specs.InPlane.Multiple.{product_of_denominators, whole_edges}
use Rattle.osm_geom.specs.InPlane.Sided.{IsSided, count_at, signed_count_at}
use Rattle.coast_split.specs.SplitTree.{Covers, IsOffCuts, IsOffLeaves, IsOffList, IsTree, SomeCovers, Tree, high_cut, leaves_of, low_cut, middle_of}
use Rattle.coast_split.specs.SplitTree.Tree.{Fork, Whole}
use Rattle.lists.proofs.ListsKit.{all-in, in-all, in-map, in-map-out, total-is, total-same}
use Rattle.plane.proofs.PlaneKit.{cross-times, direction-back, on-between, point-twice, same_point-true, same_vector}
use Rattle.plane.proofs.SignKit.{lift, plus-times, same, sign-from, ◌⊟◌, ◌⊠◌}
use Rattle.plane_lists.proofs.WindingKit.{sided-scaled}
use Rattle.osm_geom.proofs.EdgesKit.{common_is_common, sign-some}
use Rattle.plane_lists.proofs.PathsKit.{Later, between-back, later-both, later-some}
use Rattle.coast_split.proofs.Aside.{IsUnit, aside, aside-left, off-cuts, unit-back, unit-x, unit-y}
use Rattle.coast_split.proofs.LeafCover.{covers-once, half-at, leaf-cover, leaves-sided, once-covers, zero-one}
use Rattle.coast_split.proofs.LeafParts.{leaf-parts, same-parity}
use Rattle.coast_split.proofs.NearPoints.{IsAlike, alike-later, count-near, covers-here, covers-near, later-each, near-times, off-near}
use Rattle.coast_split.proofs.OnEdges.{between-near, edge-direction}
use Rattle.coast_split.proofs.SidedHalves.{half-sided}

-- ---- off the list and the cuts
module _ (m o : ℕ) (q : ℤ) (hq : sign q ≡ Plus) (p : Vector) where
  pub leaves-off : (es : List Edge) (t : Tree) → IsTree m o es t → IsSided es → IsOffList q p es → IsOffCuts o q p es t → IsOffLeaves q p (leaves_of es t)
  leaves-off es Whole h sd off cuts = All-cons (IsOffList q p) es [] off (All-nil (IsOffList q p))
  leaves-off es (Fork low high s t) h sd off cuts =
      let x = middle_of es in
      let a = half-at (low_cut x o) Low es low h.1 sd q hq p off cuts.0 in let b = half-at (high_cut x o) High es high h.2 sd q hq p off cuts.1 in
      All-append (IsOffList q p) (leaves_of low s) (leaves_of high t)
      (leaves-off low s h.3 (half-sided (low_cut x o) Low es low h.1 sd) a.off cuts.2) (leaves-off high t h.4 (half-sided (high_cut x o) High es high h.2 sd) b.off cuts.3)

-- ---- the leaves of a sided list
module _ (parted : EdgePartsInside) (m o : ℕ) (es : List Edge) (t : Tree) (h : IsTree m o es t) (sd : IsSided es) where
  abbrev ls : List (List Edge)
  ls = leaves_of es t

  abbrev c : ℤ
  c = pos (product_of_denominators es)

  abbrev W : List plane.Edge
  W = whole_edges es

  hc : sign c ≡ Plus
  hc = sign-some (product_of_denominators es) (common_is_common es).some

  leaf-sided : (leaf : List Edge) → In leaf ls → IsSided leaf
  leaf-sided leaf i = leaves-sided m o es t h sd leaf i

  -- from a point off the leaves' edges to one near it
  module _ (q : ℤ) (hq : sign q ≡ Plus) (p : Vector) (off : IsOffLeaves q p ls) (u : Vector) where
    abbrev AreAlike : ℤ → Type 0
    AreAlike k = (leaf : List Edge) → In leaf ls → IsAlike q p u leaf k

    leaf-off : (leaf : List Edge) → In leaf ls → IsOffList q p leaf
    leaf-off leaf i = in-all (IsOffList q p) ls leaf off i

    alike : Later AreAlike
    alike = later-each (IsAlike q p u) ls (λ leaf i. alike-later q hq p u leaf (leaf-sided leaf i) (leaf-off leaf i))

    module _ (k : ℤ) (hk : sign k ≡ Plus) (a : AreAlike k) where
      off-there : IsOffLeaves (k *ℤ q) (near k p u) ls
      off-there = all-in (IsOffList (k *ℤ q) (near k p u)) ls (λ leaf i. (a leaf i).off)

      some-there : SomeCovers q p ls → SomeCovers (k *ℤ q) (near k p u) ls
      some-there s = record {
        leaf = s.leaf;
        member = s.member;
        covers = covers-near q hq p u s.leaf (leaf-sided s.leaf s.member) (leaf-off s.leaf s.member) k hk (a s.leaf s.member) s.covers;
      }

      some-back : SomeCovers (k *ℤ q) (near k p u) ls → SomeCovers q p ls
      some-back s = record {
        leaf = s.leaf;
        member = s.member;
        covers = covers-here q hq p u s.leaf (leaf-sided s.leaf s.member) (leaf-off s.leaf s.member) k hk (a s.leaf s.member) s.covers;
      }

      parity-there : sum_by (λ (leaf : List Edge). count_at (k *ℤ q) (near k p u) leaf % 2) ls ≡ sum_by (λ (leaf : List Edge). count_at q p leaf % 2) ls
      parity-there =
          let f = λ (leaf : List Edge). count_at (k *ℤ q) (near k p u) leaf % 2 in let g = λ (leaf : List Edge). count_at q p leaf % 2 in
          sym (total-is f ls)
          ∙ total-same f g ls (λ leaf i.
          same-parity (count_at (k *ℤ q) (near k p u) leaf) (count_at q p leaf)
          (covers-here q hq p u leaf (leaf-sided leaf i) (leaf-off leaf i) k hk (a leaf i)) (covers-near q hq p u leaf (leaf-sided leaf i) (leaf-off leaf i) k hk (a leaf i)))
          ∙ total-is g ls

  -- ---- no edge of the list is there
  abbrev Parts : (q : ℤ) (p u : Vector) → ℤ → Type 0
  Parts q p u k = PartsInside (scaled_edges k (scaled_edges q W)) (near k (scaled_point c p) (scaled_point c u)) (near k (scaled_point c p) (opposite_of (scaled_point c u)))

  abbrev AreOffCuts : (q : ℤ) (p u : Vector) → ℤ → Type 0
  AreOffCuts q p u k = IsOffCuts o (k *ℤ q) (near k p u) es t

  cuts-later : (q : ℤ) (p u : Vector) → IsUnit u.x → IsUnit u.y → Later (AreOffCuts q p u)
  cuts-later q p u hx hy = (1, λ k l. off-cuts q p u hx hy k l o es t)

  opposite_of-part : (c x : ℤ) → pos 0 -ℤ c *ℤ x ≡ c *ℤ (pos 0 -ℤ x)
  opposite_of-part c x = same (lift (pos 0) ⊟ lift c ⊠ lift x) (lift c ⊠ (lift (pos 0) ⊟ lift x)) (omega arith)

  opposite_of-times : (u : Vector) → opposite_of (scaled_point c u) ≡ scaled_point c (opposite_of u)
  opposite_of-times u = same_vector (pos 0 -ℤ c *ℤ u.x) (pos 0 -ℤ c *ℤ u.y) (c *ℤ (pos 0 -ℤ u.x)) (c *ℤ (pos 0 -ℤ u.y)) (opposite_of-part c u.x) (opposite_of-part c u.y)

  -- some leaf would cover the points on its left, and those on its right
  module _ (q : ℤ) (hq : sign q ≡ Plus) (p : Vector) (off : IsOffLeaves q p ls) (u : Vector) (k : ℤ) (hk : sign k ≡ Plus)
      (parts : Parts q p u k) (left : AreAlike q hq p off u k) (right : AreAlike q hq p off (opposite_of u) k) (left_cuts : AreOffCuts q p u k) (right_cuts : AreOffCuts q p (opposite_of u) k) where
    hkq : sign (k *ℤ q) ≡ Plus
    hkq = plus-times k q hk ∙ hq

    right-parts : PartsInside (scaled_edges k (scaled_edges q W)) (near k (scaled_point c p) (scaled_point c u)) (near k (scaled_point c p) (scaled_point c (opposite_of u)))
    right-parts = subst (λ v. PartsInside (scaled_edges k (scaled_edges q W)) (near k (scaled_point c p) (scaled_point c u)) (near k (scaled_point c p) v)) (opposite_of-times u) parts

    parts-absurd : ⊥
    parts-absurd =
        let l = near k p u in let r = near k p (opposite_of u) in
        let off_l = off-near q p u k es parts.0.off in let off_r = off-near q p (opposite_of u) k es right-parts.1.off in
        let some_l = (leaf-cover m o (k *ℤ q) hkq l es t h sd off_l left_cuts).0 (once-covers (k *ℤ q) hkq l es sd off_l (count-near q p u k es ∙ parts.0.once)) in
        let some_r = some-there q hq p off (opposite_of u) k hk right (some-back q hq p off u k hk left some_l) in
        zero-one (signed_count_at (k *ℤ q) r es) (count-near q p (opposite_of u) k es ∙ right-parts.1.none)
        (covers-once (k *ℤ q) hkq r es sd off_r ((leaf-cover m o (k *ℤ q) hkq r es t h sd off_r right_cuts).1 some_r))

  inside-none : (q : ℤ) → sign q ≡ Plus → (p : Vector) → IsOffLeaves q p ls → (e : plane.Edge) → In e W → IsBetween (scaled_point q e.from) (scaled_point q e.to) (scaled_point c p) → ⊥
  inside-none q hq p off e i b =
      let d = from_to e.from e.to in let u = aside d in
      let turned : sign (cross d (scaled_point c u)) ≡ Plus = ap sign (cross-times c d u) ∙ plus-times c (cross d u) hc ∙ aside-left d (edge-direction W sd e i) in
      let x = unit-x (sign d.y) in let y = unit-y (sign d.x) in
      let A = Parts q p u in let B = AreAlike q hq p off u in let C = AreAlike q hq p off (opposite_of u) in let D = AreOffCuts q p u in let E = AreOffCuts q p (opposite_of u) in
      let s = later-some (λ k. A k × ((B k × C k) × (D k × E k)))
      (later-both A (λ k. (B k × C k) × (D k × E k)) (parted W sd e i q hq (scaled_point c p) (scaled_point c u) b turned)
      (later-both (λ k. B k × C k) (λ k. D k × E k) (later-both B C (alike q hq p off u) (alike q hq p off (opposite_of u)))
      (later-both D E (cuts-later q p u x y) (cuts-later q p (opposite_of u) (unit-back u.x x) (unit-back u.y y))))) in
      parts-absurd q hq p off u s.0 s.1 s.2.0 s.2.1.0.0 s.2.1.0.1 s.2.1.1.0 s.2.1.1.1

  -- ---- at an end of an edge: close to it, strictly inside the edge
  beyond-c : Later (λ k. sign (k -ℤ c) ≡ Plus)
  beyond-c = (product_of_denominators es, λ k l. sign-from Plus (pos k -ℤ pos (product_of_denominators es)) (omega (arith, ints)))

  module _ (q : ℤ) (hq : sign q ≡ Plus) (p : Vector) (off : IsOffLeaves q p ls) (e : plane.Edge) (i : In e W) where
    abbrev P : Vector
    P = scaled_point c p

    abbrev from : Vector
    from = scaled_point q e.from

    abbrev to : Vector
    to = scaled_point q e.to

    direction : IsNonZero (from_to from to)
    direction = edge-direction (scaled_edges q W) (sided-scaled q hq W sd) (scaled_edge q e) (in-map (scaled_edge q) W e i)

    -- v is the end that the point is at, and w the other one
    module _ (v w : Vector) (at : P ≡ v) (dir : IsNonZero (from_to v w)) (inside : (k : ℤ) (x : Vector) → IsBetween (scaled_point k v) (scaled_point k w) x → IsBetween (scaled_point k from) (scaled_point k to) x) where
      abbrev u : Vector
      u = from_to v w

      end-none : ⊥
      end-none =
          let A = AreAlike q hq p off u in
          let s = later-some (λ k. A k × (sign (k -ℤ c) ≡ Plus)) (later-both A (λ k. sign (k -ℤ c) ≡ Plus) (alike q hq p off u) beyond-c) in
          let k = s.0 in let hk = s.1 in
          let b = inside k (near k v (scaled_point c u)) (between-near k c hk hc s.2.1 v w dir) in
          let there : near k v (scaled_point c u) ≡ scaled_point c (near k p u) = ap (λ x. near k x (scaled_point c u)) (sym at) ∙ near-times c k p u in
          let b' = subst (IsBetween (scaled_point k from) (scaled_point k to)) there b in
          let b'' = subst (λ x. IsBetween x (scaled_point k to) (scaled_point c (near k p u))) (point-twice k q e.from) b' in
          inside-none (k *ℤ q) (plus-times k q hk ∙ hq) (near k p u) (off-there q hq p off u k hk s.2.0) e i
          (subst (λ x. IsBetween (scaled_point (k *ℤ q) e.from) x (scaled_point c (near k p u))) (point-twice k q e.to) b'')

    on-none : (a b : Bool) → same_point P from ≡ a → same_point P to ≡ b → is_off P (scaled_edge q e) ≡ false → ⊥
    on-none true b x y n = end-none from to (same_point-true P from x) direction (λ k z g. g)
    on-none false true x y n =
        end-none to from (same_point-true P to y) (direction-back from to direction) (λ k z g. between-back (scaled_point k to) (scaled_point k from) z g)
    on-none false false x y n = inside-none q hq p off e i (on-between (scaled_edge q e) P n x y)

    off-by : (b : Bool) → is_off P (scaled_edge q e) ≡ b → IsOffEdge P (scaled_edge q e)
    off-by true h = h
    off-by false h = absurd (on-none (same_point P from) (same_point P to) refl refl h)

  pub list-off : (q : ℤ) → sign q ≡ Plus → (p : Vector) → IsOffLeaves q p ls → IsOffList q p es
  list-off q hq p off = all-in (IsOffEdge (scaled_point c p)) (scaled_edges q W) (λ x j.
      let r = in-map-out (scaled_edge q) W x j in
      subst (IsOffEdge (scaled_point c p)) (sym r.2) (off-by q hq p off r.0 r.1 (is_off (scaled_point c p) (scaled_edge q r.0)) refl))

  -- ---- what the leaves cover, as seen one unit aside
  abbrev one : Vector
  one = record { x = pos 1; y = pos 1 }

  module _ (q : ℤ) (hq : sign q ≡ Plus) (p : Vector) (off : IsOffLeaves q p ls) where
    abbrev IsSeen : ℤ → Type 0
    IsSeen k = IsAlike q p one es k × (AreAlike q hq p off one k × AreOffCuts q p one k)

    pub seen : (k : ℤ) × (sign k ≡ Plus) × IsSeen k
    seen =
        later-some IsSeen (later-both (IsAlike q p one es) (λ k. AreAlike q hq p off one k × AreOffCuts q p one k) (alike-later q hq p one es sd (list-off q hq p off))
        (later-both (AreAlike q hq p off one) (AreOffCuts q p one) (alike q hq p off one) (cuts-later q p one (inl refl) (inl refl))))

    pub cover : Covers q p es ↔ SomeCovers q p ls
    cover =
        let k = seen.0 in let hk = seen.1 in let a = seen.2.0 in let b = seen.2.1.0 in
        let there = leaf-cover m o (k *ℤ q) (plus-times k q hk ∙ hq) (near k p one) es t h sd a.off seen.2.1.1 in (
          (λ x. some-back q hq p off one k hk b (there.0 (covers-near q hq p one es sd (list-off q hq p off) k hk a x))),
          (λ x. covers-here q hq p one es sd (list-off q hq p off) k hk a (there.1 (some-there q hq p off one k hk b x))),
        )

-- without an overlap
module _ (parted : EdgePartsInside) (m : ℕ) (es : List Edge) (t : Tree) (h : IsTree m 0 es t) (sd : IsSided es) (q : ℤ) (hq : sign q ≡ Plus) (p : Vector) (off : IsOffLeaves q p (leaves_of es t)) where
  pub part : sum_by (λ (leaf : List Edge). count_at q p leaf % 2) (leaves_of es t) ≡ count_at q p es % 2
  part =
      let s = seen parted m 0 es t h sd q hq p off in let u = one parted m 0 es t h sd in
      let k = s.0 in let hk = s.1 in let a = s.2.0 in let l = list-off parted m 0 es t h sd q hq p off in
      sym (parity-there parted m 0 es t h sd q hq p off u k hk s.2.1.0)
      ∙ leaf-parts (k *ℤ q) (plus-times k q hk ∙ hq) (near k p u) m es t h sd a.off s.2.1.1
      ∙ same-parity (count_at (k *ℤ q) (near k p u) es) (count_at q p es) (covers-here q hq p u es sd l k hk a) (covers-near q hq p u es sd l k hk a)
