-- What a sweep over the edges of rings tells: the enclosers of the inner rings whose anchors begin at the height of a row.
use lib.IntN.{pos}
use Rattle.std.proofs.Common.{All, List, None, Option, Some, [], ap, arith, filter, get_or, length, not, refl, subst, sym, true, ℕ, ℤ, ⊎_elim, ◌&&◌, ◌-ℤ◌, ◌<◌, ◌∙◌, ◌++◌, ◌∷◌, ◌≡◌, ◌≢◌}
use borrow.Author.Differences.{ints}
use Rattle.std.proofs.lemmas.Bool.{cases_eq}
use Rattle.std.proofs.lemmas.List.{get_or-set_other, get_or-set_same, length-set}
use Rattle.std.proofs.lemmas.List.Sorted.{All-permutation, IsPermutation-sym}
use Rattle.std.specs.Prelude.{IfSome, IsPermutation, set}
use Rattle.plane_lists.specs.Rings.Nesting.{edges_of}
use Rattle.plane_lists.proofs.NestingKit.{nest-plain, in-edges}
use Rattle.plane.specs.Edge as plane
use Rattle.plane.specs.Height.{is_in_span}
use Rattle.plane.specs.Sign.{Minus, Null, Plus, Sign, is_plus, sign}
use Rattle.plane.specs.Vector.{Vector}
use Rattle.lists.proofs.ListsKit.{all-in, and-left, and-right, in-all, in-either, in-filter, in-map}
use Rattle.plane.proofs.SignKit.{says-at, sign-from}
use Rattle.lists.specs.Member.{In}
use Rattle.plane_lists.specs.Statuses.Status.{IsStatus}
use Rattle.plane_lists.proofs.StatusKit.{climbs}
use Rattle.osm_geom.specs.declared.edge.Edge.{Edge}
use Rattle.osm_geom.specs.Span.{lower_end, spans}
use Rattle.osm_geom.specs.InPlane.Multiple.{IsWholeAt, product_of_denominators}
use Rattle.osm_nest.specs.declared.sweep.ring_edge.RingEdge.{RingEdge}
use Rattle.osm_nest.specs.Beside.{IsSloping}
use Rattle.osm_nest.specs.Enclosers.{IsDirectEncloser}
use Rattle.osm_nest.specs.Outer.{IsOuter}
use Rattle.osm_nest.specs.RingLists.{AreRings, all_edges, whole_rings}
use Rattle.osm_nest.specs.SweptEdges.{AreSlopingEdges, KnownEnclosersAreRight, HasNeighbour, IsInnerAnchor, IsSlopingEdge, StartsRise, TellsEncloser, begin_level, is_within}
use Rattle.osm_nest.proofs.DirectEnclosers.{listed, nest, segments-in, sloping, whole-in}
use Rattle.osm_nest.proofs.InPlane.{segment_at, segments_times, spans-at}
use Rattle.osm_nest.proofs.LeftEnclosers.{left-inner, left-outer, seg}
use Rattle.osm_nest.proofs.FilteredLists.{filter-alike}
use Rattle.osm_nest.proofs.SweptHeights.{IsSweptTo, IsUnderWay, not-lower}
use Rattle.osm_nest.proofs.SweptRows.{stands-next, whole-of, within-is}

-- ---- the items in another order
pub in-permutation : {X : Type 0} (xs ys : List X) → IsPermutation xs ys → (x : X) → In x xs → In x ys
in-permutation {X} xs ys moved x i =
    in-all (λ (y : X). In y ys) xs x (All-permutation (λ (y : X). In y ys) ys xs (IsPermutation-sym xs ys moved) (all-in (λ (y : X). In y ys) ys (λ y j. j))) i

pub items-permutation : (rs : List (List Edge)) (items moved : List RingEdge) → IsPermutation items moved → AreSlopingEdges rs items → AreSlopingEdges rs moved
items-permutation rs items moved is of = record {
  each = All-permutation (IsSlopingEdge rs) items moved is of.each;
  whole = λ k h e j s. let w = of.whole k h e j s in (w.0, in-permutation items moved is w.0 w.1, w.2);
}

-- ---- two heights neither of which is above the other
one-height : (b c : ℤ) → not (is_plus (sign (b -ℤ c))) ≡ true → not (is_plus (sign (c -ℤ b))) ≡ true → b ≡ c
one-height b c h k = by-sign (sign (b -ℤ c)) refl h
  where
    by-sign : (s : Sign) → sign (b -ℤ c) ≡ s → not (is_plus s) ≡ true → b ≡ c
    by-sign Plus e n = absurd (cc n)
    by-sign Null e n = let x = says-at Null (b -ℤ c) e in omega (arith, ints)
    by-sign Minus e n =
        let x = says-at Minus (b -ℤ c) e in
        let up : sign (c -ℤ b) ≡ Plus = sign-from Plus (c -ℤ b) (omega (arith, ints)) in
        absurd (cc (sym (ap (λ s. not (is_plus s)) up) ∙ k))

-- ---- a row's status tells the enclosers of the anchors at its height
module _ (rs : List (List Edge)) (are : AreRings rs) (items : List RingEdge) (of : AreSlopingEdges rs items) (first : RingEdge) (fi : In first items) (status : List RingEdge)
    (is : IsStatus (seg rs are items of) (segment_at (product_of_denominators (all_edges rs)) first.edge.now).from items status) where
  abbrev K : ℕ
  K = product_of_denominators (all_edges rs)

  abbrev p : Vector
  p = (segment_at K first.edge.now).from

  among : (x : RingEdge) → In x items → In (segment_at K x.edge.now) (edges_of (nest rs are))
  among x j =
      let it = in-all (IsSlopingEdge rs) items x of.each j in
      in-edges (nest rs are) (segments_times K (get_or rs x.ring [])) (segment_at K x.edge.now) (segments-in rs are x.ring it.inside) (in-map (segment_at K) (get_or rs x.ring []) x.edge.now it.member)

  module _ (a : RingEdge) (an : IsInnerAnchor rs a) (level : begin_level first.edge.now a.edge.now ≡ true) where
    abbrev q : Vector
    q = (segment_at K a.edge.now).from

    wa : IsWholeAt K a.edge.now
    wa = whole-in rs are a.ring an.inside a.edge.now an.anchor.member

    wf : IsWholeAt K first.edge.now
    wf = whole-of rs are items of first fi

    low-high : is_in_span p (segment_at K a.edge.now) ≡ true
    low-high = sym (spans-at K first.edge.now a.edge.now wf wa) ∙ and-left (spans a.edge.now (lower_end first.edge.now)) (spans first.edge.now (lower_end a.edge.now)) level

    high-low : is_in_span q (segment_at K first.edge.now) ≡ true
    high-low = sym (spans-at K a.edge.now first.edge.now wa wf) ∙ and-right (spans a.edge.now (lower_end first.edge.now)) (spans first.edge.now (lower_end a.edge.now)) level

    same-height : p.y ≡ q.y
    same-height = one-height p.y q.y
        (and-left (not (is_plus (sign (p.y -ℤ q.y)))) (is_plus (sign ((segment_at K first.edge.now).to.y -ℤ q.y))) high-low)
        (and-left (not (is_plus (sign (q.y -ℤ p.y)))) (is_plus (sign ((segment_at K a.edge.now).to.y -ℤ p.y))) low-high)

    pub level-span : (t : plane.Edge) → is_in_span p t ≡ is_in_span q t
    level-span t = ap (λ y. not (is_plus (sign (t.from.y -ℤ y))) && is_plus (sign (t.to.y -ℤ y))) same-height

    at-anchor : IsStatus (seg rs are items of) q items status
    at-anchor = climbs (seg rs are items of) p q items status (edges_of (nest rs are)) (nest-plain (whole_rings rs) (listed rs are)) among is (λ x i. level-span (segment_at K x.edge.now))

    slopes : IsSloping a.edge.now
    slopes = sloping rs are a.ring an.inside a.edge.now an.anchor

    neighbour-in : (e : RingEdge) → HasNeighbour a.edge.now status e → In e items
    neighbour-in e has =
        subst (λ (t : RingEdge). In t items) has.is
        (in-filter (λ (t : RingEdge). is_in_span q (segment_at K t.edge.now)) items (get_or status has.place e) (at-anchor.members has.place e (let i = has.inside in omega (arith, i))))

    pub row-tells : TellsEncloser rs status a
    row-tells e has =
        let next = stands-next rs are items of a.ring an.inside a.edge.now an.anchor.member slopes status at-anchor e has in
        record {
          inside = (in-all (IsSlopingEdge rs) items e of.each (neighbour-in e has)).inside;
          outer = λ o. subst (λ (t : RingEdge). IsDirectEncloser rs a.ring (Some t.ring)) has.is
              (left-outer rs are items of a.ring an.inside an.inner a.edge.now an.anchor status at-anchor has.place e has.inside next (subst (λ (t : RingEdge). IsOuter (get_or rs t.ring [])) (sym has.is) o));
          inner = λ encloser o. left-inner rs are items of a.ring an.inside an.inner a.edge.now an.anchor status at-anchor has.place e has.inside next encloser (subst (λ (t : RingEdge). IsDirectEncloser rs t.ring (Some encloser)) (sym has.is) o);
        }

-- the same for a status that may hold edges that ended
pub status-tells : (rs : List (List Edge)) (are : AreRings rs) (items : List RingEdge) (of : AreSlopingEdges rs items) (first : RingEdge) (fi : In first items) (status : List RingEdge)
    (is : IsStatus (seg rs are items of) (segment_at (product_of_denominators (all_edges rs)) first.edge.now).from items (filter (is_within (lower_end first.edge.now)) status)) → ((x : RingEdge) → In x status → In x items) →
    (a : RingEdge) → IsInnerAnchor rs a → begin_level first.edge.now a.edge.now ≡ true → TellsEncloser rs (filter (is_within (lower_end a.edge.now)) status) a
status-tells rs are items of first fi status is members a an level =
    let k = product_of_denominators (all_edges rs) in
    let low = filter (is_within (lower_end first.edge.now)) status in
    let wa = whole-in rs are a.ring an.inside a.edge.now an.anchor.member in
    subst (λ xs. TellsEncloser rs xs a)
    (filter-alike (is_within (lower_end first.edge.now)) (is_within (lower_end a.edge.now)) status (λ x i.
    let wx = whole-of rs are items of x (members x i) in
    within-is rs are items of first fi x (members x i) ∙ level-span rs are items of first fi low is a an level (segment_at k x.edge.now) ∙ sym (spans-at k a.edge.now x.edge.now wa wx)))
    (row-tells rs are items of first fi low is a an level)

-- ---- one more encloser is known
pub one-known : (rs : List (List Edge)) (place : ℕ) (encloser : Option ℕ) (old new : List (Option ℕ)) → place < length rs → IfSome encloser (λ k. IsDirectEncloser rs place (Some k)) → new ≡ set old place encloser → KnownEnclosersAreRight rs old → KnownEnclosersAreRight rs new
one-known rs place encloser old new inside right is known = record {
  sized = ap length is ∙ length-set old place encloser ∙ known.sized;
  right = λ k h l e. ⊎_elim
      (λ (same : k ≡ place).
      let got : encloser ≡ Some h = sym (get_or-set_same old place encloser None (let s = known.sized in omega (arith, s, inside))) ∙ ap (λ (xs : List (Option ℕ)). get_or xs place None) (sym is) ∙ ap (λ j. get_or new j None) (sym same) ∙ e in
      subst (λ j. IsDirectEncloser rs j (Some h)) (sym same) (subst (λ (o : Option ℕ). IfSome o (λ k. IsDirectEncloser rs place (Some k))) got right))
      (λ (other : k ≢ place). known.right k h l (sym (get_or-set_other old place k encloser None other) ∙ ap (λ (xs : List (Option ℕ)). get_or xs k None) (sym is) ∙ e))
      (cases_eq k place);
}

pub one-anchor : (rs : List (List Edge)) (anchors : List RingEdge) (a : RingEdge) → All (IsInnerAnchor rs) anchors → IsInnerAnchor rs a → All (IsInnerAnchor rs) (anchors ++ a ∷ [])
one-anchor rs anchors a all one = all-in (IsInnerAnchor rs) (anchors ++ a ∷ [])
    (λ x i. ⊎_elim (λ (j : In x anchors). in-all (IsInnerAnchor rs) anchors x all j)
    (λ (j : In x (a ∷ [])). ⊎_elim (λ (e : x ≡ a). subst (IsInnerAnchor rs) (sym e) one) (λ none. absurd none) j)
    (in-either anchors (a ∷ []) x i))

-- ---- the sweep begins with no item put
pub none-swept : (rs : List (List Edge)) (are : AreRings rs) (items : List RingEdge) (of : AreSlopingEdges rs items) (rise : StartsRise items) → IsSweptTo rs are items of rise 0 []
none-swept rs are [] of rise = record {
  p = record { x = pos 0; y = pos 0 };
  is = record { order = λ i j d h l. absurd (omega arith); whole = λ f. refl; members = λ k d h. absurd (omega arith) };
  begun = λ x i. absurd i;
  later = λ j d h l. absurd (omega arith);
}
none-swept rs are (x ∷ xs) of rise = record {
  p = record { x = pos 0; y = low -ℤ pos 1 };
  is = record { order = λ i j d h l. absurd (omega arith); whole = λ f. refl; members = λ k d h. absurd (omega arith) };
  begun = λ y i. absurd i;
  later = λ j d h l. above low (segment_at (product_of_denominators (all_edges rs)) (get_or (x ∷ xs) j d).edge.now).from.y (not-lower rs are (x ∷ xs) of rise 0 j d (omega arith) l);
}
  where
    low : ℤ
    low = (segment_at (product_of_denominators (all_edges rs)) x.edge.now).from.y

    above : (b c : ℤ) → not (is_plus (sign (b -ℤ c))) ≡ true → sign (c -ℤ (b -ℤ pos 1)) ≡ Plus
    above b c h = by-sign (sign (b -ℤ c)) refl h
      where
        by-sign : (s : Sign) → sign (b -ℤ c) ≡ s → not (is_plus s) ≡ true → sign (c -ℤ (b -ℤ pos 1)) ≡ Plus
        by-sign Plus e n = absurd (cc n)
        by-sign Null e n = let x = says-at Null (b -ℤ c) e in sign-from Plus (c -ℤ (b -ℤ pos 1)) (omega (arith, ints))
        by-sign Minus e n = let x = says-at Minus (b -ℤ c) e in sign-from Plus (c -ℤ (b -ℤ pos 1)) (omega (arith, ints))

pub none-under-way : (rs : List (List Edge)) (are : AreRings rs) (items : List RingEdge) (of : AreSlopingEdges rs items) (rise : StartsRise items) → IsUnderWay rs are items of rise 0 []
none-under-way rs are items of rise = record { alive = []; swept = none-swept rs are items of rise; members = λ x i. absurd i; alike = λ j d h l. refl }
