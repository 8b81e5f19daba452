-- The rings put under their enclosers are the polygons of the list, in order, each ring begun at its least node.
use Rattle.std.proofs.Common.{All, AllPairs, Bool, List, None, Option, Some, [], ap, arith, cond, false, get_or, inl, inr, length, map, nat_eq, refl, subst, suc, sym, true, ℕ, ◌+◌, ◌<◌, ◌∙◌, ◌∷◌, ◌≡◌, ◌≢◌, ◌≤◌, ◌⊎◌}
use Rattle.std.specs.List.{filter, sum_by}
use Rattle.std.proofs.lemmas.Bool.{cases_lt, eq-eqb, eqb-true}
use Rattle.std.proofs.lemmas.List.{get_or-map, get_or_past, length-map}
use Rattle.std.proofs.lemmas.List.Elements.{All-map}
use Rattle.std.proofs.lemmas.List.Kept.{AllPairs-cons, AllPairs-filter}
use Rattle.plane_lists.specs.Rings.Nesting.{EnclosesDirectly, IsInnerRing, IsOuterRing, edges_of}
use Rattle.plane_lists.specs.Rings.Polygon.{IsPolygon}
use Rattle.plane_lists.proofs.NestingKit.{inner-out, is_outer_by, outer-out, sided-once}
use Rattle.plane.specs.Edge as plane
use Rattle.lists.specs.Member.{EachPair, In}
use Rattle.plane_lists.specs.Lists.Ring.{segments_of}
use Rattle.lists.proofs.ListsKit.{all-in, at-in, both_conds, clash, cond-+, cond-total, cond_none, in-all, in-either, in-filter, in-map, in-map-out, in-passes, none-sum, pairs-each, pairs-into-map, pairs-weaker, some_member, swap-sums, total, total-+, total-filter, total-is, total-map, total-same}
use Rattle.osm_geom.specs.declared.edge.Edge.{Edge}
use Rattle.osm_nest.specs.declared.rings_from_least.RingFromLeast.{RingFromLeast}
use Rattle.osm_nest.specs.declared.polygon.Polygon.{Polygon}
use Rattle.osm_nest.specs.Cover.{AreSided, CoverAsRings}
use Rattle.osm_nest.specs.Grouped.{AreSortedFromLeast, ArePlaced, AreWithin, IsFromLeastAt, polygons_of, has_encloser, has_no_encloser, polygon_at, stands_first, stands_under}
use Rattle.osm_nest.specs.Enclosers.{AreDirectEnclosers, IsDirectEncloser, segments_at}
use Rattle.osm_nest.specs.Nested.{AreFromLeast, AreInOrder, AreNested, ArePolygonsFromLeast, ArePolygonsOf, BeginsBefore, HasKinds}
use Rattle.osm_nest.specs.Outer.{IsInner, IsOuter}
use Rattle.osm_nest.specs.Polygons.{polygon_times, rings_in, rings_of}
use Rattle.osm_nest.specs.RingLists.{AreRings, all_edges, whole_rings}
use Rattle.osm_nest.proofs.Further.{all-edges-in}
use Rattle.osm_nest.proofs.InPlane.{whole-at}
use Rattle.osm_nest.proofs.DirectEnclosers.{inner-at, outer-at}
use Rattle.osm_nest.proofs.TurnedAnchors.{runs-turned}
use Rattle.osm_nest.proofs.BegunPolygons.{cover_begun, rings-total, sided_begun}
use Rattle.osm_nest.proofs.Listing.{turned_all}
use Rattle.osm_nest.proofs.Places.{placed, ring-at, rings-apart, stand, sum-all, sum-one}
use Rattle.osm_geom.specs.InPlane.Multiple.{IsWholeAt, edges_times, product_of_denominators}

-- ---- lists
pairs-map : {X Y : Type 0} (R : Y → Y → Type 0) (f : X → Y) (xs : List X) → AllPairs (λ x y. R (f x) (f y)) xs → AllPairs R (map f xs)
pairs-map R f [] h = λ i j d l m. absurd (omega arith)
pairs-map R f (x ∷ xs) h =
    AllPairs-cons R (f x) (map f xs) (All-map (R (f x)) f xs (λ k d l. h 0 (suc k) d (omega arith) (omega arith)))
    (pairs-map R f xs (λ i j d l m. h (suc i) (suc j) d (omega arith) (omega arith)))

-- ---- enclosers
no-encloser-out : (o : Option ℕ) → has_no_encloser o ≡ true → o ≡ None
no-encloser-out None e = refl
no-encloser-out (Some h) e = absurd (clash false e refl)

encloser-out : (place : ℕ) (o : Option ℕ) → has_encloser place o ≡ true → o ≡ Some place
encloser-out place None e = absurd (clash false e refl)
encloser-out place (Some h) e = ap (λ n. Some n) (eqb-true h place e)

not-encloser : (h p : ℕ) → p ≢ h → (b : Bool) → nat_eq h p ≡ b → b ≡ false
not-encloser h p n true e = absurd (n (sym (eqb-true h p e)))
not-encloser h p n false e = refl

module _ (rs : List (List Edge)) (are : AreRings rs) (enclosers : List (Option ℕ)) (hs : AreDirectEnclosers rs enclosers) where
  abbrev k : ℕ
  k = product_of_denominators (all_edges rs)

  abbrev gs : List (List plane.Edge)
  gs = whole_rings rs

  size : length gs ≡ length rs
  size = length-map rs (edges_times k)

  times-at : (n : ℕ) → n < length rs → get_or gs n [] ≡ edges_times k (get_or rs n [])
  times-at n h = get_or-map (edges_times k) rs n [] [] h

  in-segments : (n : ℕ) → n < length rs → In (segments_at rs n) (map segments_of gs)
  in-segments n h = in-map segments_of gs (get_or gs n []) (ring-at rs n h)

  encloser-at : (place : ℕ) (o : Option ℕ) → place < length rs → get_or enclosers place None ≡ o → IsDirectEncloser rs place o
  encloser-at place o h e = subst (IsDirectEncloser rs place) e (hs.right place h)

  -- enclosers are outer rings
  outer-by : (encloser : ℕ) → encloser < length rs → is_outer_by gs are.ring_list (segments_at rs encloser) ≡ true → (o : Option ℕ) → get_or enclosers encloser None ≡ o → o ≡ None
  outer-by encloser h out None e = refl
  outer-by encloser h out (Some x) e = absurd (clash (is_outer_by gs are.ring_list (segments_at rs encloser)) out (inner-out gs are.ring_list (segments_at rs encloser) (in-segments encloser h) (encloser-at encloser (Some x) h e).1))

  outer-encloser : (place encloser : ℕ) → place < length rs → get_or enclosers place None ≡ Some encloser → (encloser < length rs) × (get_or enclosers encloser None ≡ None)
  outer-encloser place encloser h e =
      let is = encloser-at place (Some encloser) h e in
      (is.0, outer-by encloser is.0 (outer-out gs are.ring_list (segments_at rs encloser) (in-segments encloser is.0) is.2.outer) (get_or enclosers encloser None) refl)

  rings-differ : (m n : ℕ) → m ≢ n → m < length rs → n < length rs → edges_times k (get_or rs m []) ≡ edges_times k (get_or rs n []) → ⊥
  rings-differ m n d h l e =
      let s = size in
      let long = are.ring_list.long (get_or gs m []) (ring-at rs m h) in
      let x = some_member (get_or gs m []) (omega arith) in
      rings-apart gs (sided-once (edges_of gs) are.ring_list.sided) m n x.0 d (omega arith) (omega arith) x.1
      (subst (In x.0) (times-at m h ∙ (e ∙ sym (times-at n l))) x.1)

  module _ (bs : List RingFromLeast) (turn : AreSortedFromLeast rs bs) where
    stands : (b : RingFromLeast) → In b bs → (b.place < length rs) × IsFromLeastAt (get_or rs b.place []) b.place b
    stands b i = in-all (λ (b : RingFromLeast). (b.place < length rs) × IsFromLeastAt (get_or rs b.place []) b.place b) bs b (stand rs turn.listed bs turn.are turn.moved) i

    -- a ring as it was given
    abbrev given : RingFromLeast → List Edge
    given b = get_or rs b.place []

    abbrev given_at : RingFromLeast → Polygon
    given_at b = record { outer = given b; inners = map given (filter (stands_under enclosers b.place) bs) }

    abbrev polygons : List Polygon
    polygons = map given_at (filter (stands_first enclosers) bs)

    -- ---- each is begun at its least node
    begun-rings : (xs : List RingFromLeast) → ((b : RingFromLeast) → In b xs → In b bs) → AreFromLeast (map given xs) (map (λ (b : RingFromLeast). b.ring) xs)
    begun-rings [] sub = refl
    begun-rings (b ∷ xs) sub = (b.ring, map (λ (b : RingFromLeast). b.ring) xs, refl, (stands b (sub b (inl refl))).1.turned, begun-rings xs (λ c i. sub c (inr i)))

    begun-polygons : (xs : List RingFromLeast) → ((b : RingFromLeast) → In b xs → In b bs) → ArePolygonsFromLeast (map given_at xs) (map (polygon_at enclosers bs) xs)
    begun-polygons [] sub = refl
    begun-polygons (b ∷ xs) sub = (
      polygon_at enclosers bs b,
      map (polygon_at enclosers bs) xs,
      refl,
      record {
        outer = (stands b (sub b (inl refl))).1.turned;
        inners = begun-rings (filter (stands_under enclosers b.place) bs) (λ c i. in-filter (stands_under enclosers b.place) bs c i);
      },
      begun-polygons xs (λ c i. sub c (inr i)),
    )

    -- ---- in order
    in-order : AreInOrder (polygons_of enclosers bs)
    in-order = record {
      outers = pairs-map (λ (p q : Polygon). BeginsBefore p.outer q.outer) (polygon_at enclosers bs) (filter (stands_first enclosers) bs) (AllPairs-filter (λ (b c : RingFromLeast). BeginsBefore b.ring c.ring) (stands_first enclosers) bs turn.order);
      inners = All-map (λ (p : Polygon). AllPairs BeginsBefore p.inners) (polygon_at enclosers bs) (filter (stands_first enclosers) bs)
          (all-in (λ (b : RingFromLeast). AllPairs BeginsBefore (polygon_at enclosers bs b).inners) (filter (stands_first enclosers) bs) (λ b i.
          pairs-map BeginsBefore (λ (b : RingFromLeast). b.ring) (filter (stands_under enclosers b.place) bs) (AllPairs-filter (λ (b c : RingFromLeast). BeginsBefore b.ring c.ring) (stands_under enclosers b.place) bs turn.order)));
    }

    -- ---- each is a polygon
    inner-of : (b : RingFromLeast) (r : List plane.Edge) → In r (map (edges_times k) (map given (filter (stands_under enclosers b.place) bs))) →
        (c : RingFromLeast) × (c.place < length rs) × (get_or enclosers c.place None ≡ Some b.place) × (get_or gs c.place [] ≡ r)
    inner-of b r i =
        let a = in-map-out (edges_times k) (map given (filter (stands_under enclosers b.place) bs)) r i in
        let c = in-map-out given (filter (stands_under enclosers b.place) bs) a.0 a.1 in
        let h = (stands c.0 (in-filter (stands_under enclosers b.place) bs c.0 c.1)).0 in
        (c.0, h, encloser-out b.place (get_or enclosers c.0.place None) (in-passes (stands_under enclosers b.place) bs c.0 c.1), times-at c.0.place h ∙ (ap (edges_times k) (sym c.2) ∙ sym a.2))

    polygon-of : (b : RingFromLeast) → In b bs → stands_first enclosers b ≡ true → IsPolygon gs (polygon_times k (given_at b))
    polygon-of b i first =
        let h = (stands b i).0 in
        let here = times-at b.place h in
        record {
          member = subst (λ r. In r gs) here (ring-at rs b.place h);
          is_outer_ring = subst (λ r. IsOuterRing (map segments_of gs) (segments_of r)) here (encloser-at b.place None h (no-encloser-out (get_or enclosers b.place None) first));
          inner_members = λ r j. let c = inner-of b r j in subst (λ s. In s gs) c.3 (ring-at rs c.0.place c.1);
          are_inner_rings = λ r j. let c = inner-of b r j in subst (λ s. IsInnerRing (map segments_of gs) (segments_of s)) c.3 (encloser-at c.0.place (Some b.place) c.1 c.2).1;
          enclosed = λ r j.
              let c = inner-of b r j in
              subst (λ s. EnclosesDirectly (map segments_of gs) (segments_of s) (segments_of r)) here
              (subst (λ s. EnclosesDirectly (map segments_of gs) (segments_at rs b.place) (segments_of s)) c.3 (encloser-at c.0.place (Some b.place) c.1 c.2).2);
          once = once-in (filter (stands_under enclosers b.place) bs) (λ c j. in-filter (stands_under enclosers b.place) bs c j) (AllPairs-filter (λ (b c : RingFromLeast). b.place ≢ c.place) (stands_under enclosers b.place) bs (placed rs turn.listed bs turn.are turn.moved).once);
        }
      where
        once-in : (xs : List RingFromLeast) → ((c : RingFromLeast) → In c xs → In c bs) → AllPairs (λ (b c : RingFromLeast). b.place ≢ c.place) xs → EachPair (λ (h k : List plane.Edge). h ≡ k → ⊥) (map (edges_times k) (map given xs))
        once-in xs sub apart =
            pairs-into-map (λ (h k : List plane.Edge). h ≡ k → ⊥) (edges_times k) (map given xs)
            (pairs-into-map (λ (r s : List Edge). edges_times k r ≡ edges_times k s → ⊥) given xs
            (pairs-weaker (λ (b c : RingFromLeast). b.place ≢ c.place) (λ (b c : RingFromLeast). edges_times k (given b) ≡ edges_times k (given c) → ⊥) xs
            (λ b c i j n. rings-differ b.place c.place n (stands b (sub b i)).0 (stands c (sub c j)).0)
            (pairs-each (λ (b c : RingFromLeast). b.place ≢ c.place) xs apart)))

    -- ---- each ring stands in one of them, once
    module _ (f : List Edge → ℕ) where
      abbrev F : RingFromLeast → ℕ
      F b = f (given b)

      abbrev under_sum : RingFromLeast → ℕ
      under_sum b = total (λ (c : RingFromLeast). cond (stands_under enclosers b.place c) (F c) 0) bs

      -- the sum under enclosers is that of the ring itself, unless it is outer
      encloser-sum : (c : RingFromLeast) → In c bs → (o : Option ℕ) → get_or enclosers c.place None ≡ o → total (λ (b : RingFromLeast). cond (stands_first enclosers b) (cond (has_encloser b.place o) (F c) 0) 0) bs ≡ cond (has_no_encloser o) 0 (F c)
      encloser-sum c i None e = total-same (λ (b : RingFromLeast). cond (stands_first enclosers b) 0 0) (λ (b : RingFromLeast). 0) bs (λ b j. cond_none (stands_first enclosers b)) ∙ none-sum bs
      encloser-sum c i (Some h) e =
          let o = outer-encloser c.place h (stands c i).0 e in
          let G = λ (p : ℕ). cond (has_no_encloser (get_or enclosers p None)) (cond (nat_eq h p) (F c) 0) 0 in
          sum-one rs turn.listed bs turn.are turn.moved G h
          (λ p n. ap (λ b. cond (has_no_encloser (get_or enclosers p None)) (cond b (F c) 0) 0) (not-encloser h p n (nat_eq h p) refl) ∙ cond_none (has_no_encloser (get_or enclosers p None))) o.0
          ∙ (ap (λ q. cond (has_no_encloser q) (cond (nat_eq h h) (F c) 0) 0) o.1 ∙ ap (λ b. cond b (F c) 0) (eq-eqb h h refl))

      all-under : total (λ (b : RingFromLeast). cond (stands_first enclosers b) (under_sum b) 0) bs ≡ total (λ (c : RingFromLeast). cond (stands_first enclosers c) 0 (F c)) bs
      all-under =
          total-same (λ (b : RingFromLeast). cond (stands_first enclosers b) (under_sum b) 0) (λ (b : RingFromLeast). total (λ (c : RingFromLeast). cond (stands_first enclosers b) (cond (stands_under enclosers b.place c) (F c) 0) 0) bs) bs
          (λ b i. cond-total (stands_first enclosers b) (λ (c : RingFromLeast). cond (stands_under enclosers b.place c) (F c) 0) bs)
          ∙ (swap-sums (λ (b c : RingFromLeast). cond (stands_first enclosers b) (cond (stands_under enclosers b.place c) (F c) 0) 0) bs bs
          ∙ total-same (λ (c : RingFromLeast). total (λ (b : RingFromLeast). cond (stands_first enclosers b) (cond (stands_under enclosers b.place c) (F c) 0) 0) bs) (λ (c : RingFromLeast). cond (stands_first enclosers c) 0 (F c)) bs
          (λ c i. encloser-sum c i (get_or enclosers c.place None) refl))

      one-polygon : (b : RingFromLeast) → total f (rings_in (given_at b)) ≡ F b + under_sum b
      one-polygon b =
          let a = total-map f given (filter (stands_under enclosers b.place) bs) in
          let c = total-filter (stands_under enclosers b.place) F bs in omega arith

      each-once : sum_by f (rings_of polygons) ≡ sum_by f rs
      each-once =
          let first = stands_first enclosers in
          let a : total f (rings_of polygons) ≡ total (λ (b : RingFromLeast). total f (rings_in (given_at b))) (filter first bs) = rings-total f polygons ∙ total-map (λ (g : Polygon). total f (rings_in g)) given_at (filter first bs) in
          let b = total-same (λ (b : RingFromLeast). total f (rings_in (given_at b))) (λ (b : RingFromLeast). F b + under_sum b) (filter first bs) (λ b i. one-polygon b) in
          let c = total-filter first (λ (b : RingFromLeast). F b + under_sum b) bs in
          let d = total-same (λ (b : RingFromLeast). cond (first b) (F b + under_sum b) 0) (λ (b : RingFromLeast). cond (first b) (F b) 0 + cond (first b) (under_sum b) 0) bs (λ b i. cond-+ (first b) (F b) (under_sum b)) in
          let e = total-+ (λ (b : RingFromLeast). cond (first b) (F b) 0) (λ (b : RingFromLeast). cond (first b) (under_sum b) 0) bs in
          let g = all-under in
          let h = total-+ (λ (b : RingFromLeast). cond (first b) (F b) 0) (λ (b : RingFromLeast). cond (first b) 0 (F b)) bs in
          let j = total-same (λ (b : RingFromLeast). cond (first b) (F b) 0 + cond (first b) 0 (F b)) F bs (λ b i. both_conds (first b) (F b)) in
          let m = sum-all rs turn.listed bs turn.are turn.moved f in
          let n : total f (rings_of polygons) ≡ total f rs = omega arith in
          sym (total-is f (rings_of polygons)) ∙ (n ∙ total-is f rs)

    of-rings : ArePolygonsOf rs polygons
    of-rings = record {
      each = All-map (λ (g : Polygon). IsPolygon gs (polygon_times k g)) given_at (filter (stands_first enclosers) bs)
          (all-in (λ (b : RingFromLeast). IsPolygon gs (polygon_times k (given_at b))) (filter (stands_first enclosers) bs) (λ b i.
          polygon-of b (in-filter (stands_first enclosers) bs b i) (in-passes (stands_first enclosers) bs b i)));
      once = each-once;
    }

    pub nested : AreNested rs (polygons_of enclosers bs)
    nested = record {
      polygons = polygons;
      of_rings = of-rings;
      begun = begun-polygons (filter (stands_first enclosers) bs) (λ b i. in-filter (stands_first enclosers) bs b i);
      in_order = in-order;
    }

    -- ---- outer and inner rings
    outer-begun : (b : RingFromLeast) → In b bs → stands_first enclosers b ≡ true → IsOuter b.ring
    outer-begun b i first =
        let s = stands b i in
        runs-turned (given b) b.ring s.1.turned.turned false (outer-at rs are b.place s.0 (encloser-at b.place None s.0 (no-encloser-out (get_or enclosers b.place None) first)))

    inner-begun : (b c : RingFromLeast) → In c bs → stands_under enclosers b.place c ≡ true → IsInner c.ring
    inner-begun b c i under =
        let s = stands c i in
        runs-turned (given c) c.ring s.1.turned.turned true (inner-at rs are c.place s.0 (encloser-at c.place (Some b.place) s.0 (encloser-out b.place (get_or enclosers c.place None) under)).1)

    kinds-of : (b : RingFromLeast) → In b bs → stands_first enclosers b ≡ true → HasKinds (polygon_at enclosers bs b)
    kinds-of b i first =
        let under = stands_under enclosers b.place in
        record {
          outer = outer-begun b i first;
          inners = All-map IsInner (λ (c : RingFromLeast). c.ring) (filter under bs)
              (all-in (λ (c : RingFromLeast). IsInner c.ring) (filter under bs) (λ c j. inner-begun b c (in-filter under bs c j) (in-passes under bs c j)));
        }

    pub kinds_grouped : All HasKinds (polygons_of enclosers bs)
    kinds_grouped =
        let first = stands_first enclosers in
        All-map HasKinds (polygon_at enclosers bs) (filter first bs)
        (all-in (λ (b : RingFromLeast). HasKinds (polygon_at enclosers bs b)) (filter first bs) (λ b i. kinds-of b (in-filter first bs b i) (in-passes first bs b i)))

    -- ---- what holds of all edges that were given holds of those of the polygons
    module _ (P : Edge → Type 0) (all : All (All P) rs) where
      begun-all : (b : RingFromLeast) → In b bs → All P b.ring
      begun-all b i = let s = stands b i in turned_all P (given b) b.ring s.1.turned.turned (in-all (All P) rs (given b) all (at-in rs b.place [] s.0))

      all-by : (b : RingFromLeast) → In b bs → (rest : List (List Edge)) → ((r : List Edge) → In r rest → All P r) → (r : List Edge) → (In r (rings_in (polygon_at enclosers bs b))) ⊎ (In r rest) → All P r
      all-by b i rest h r (inl (inl e)) = subst (All P) (sym e) (begun-all b i)
      all-by b i rest h r (inl (inr j)) =
          let c = in-map-out (λ (b : RingFromLeast). b.ring) (filter (stands_under enclosers b.place) bs) r j in
          subst (All P) (sym c.2) (begun-all c.0 (in-filter (stands_under enclosers b.place) bs c.0 c.1))
      all-by b i rest h r (inr j) = h r j

      rings-all : (xs : List RingFromLeast) → ((b : RingFromLeast) → In b xs → In b bs) → (r : List Edge) → In r (rings_of (map (polygon_at enclosers bs) xs)) → All P r
      rings-all [] sub r i = absurd i
      rings-all (b ∷ xs) sub r i =
          all-by b (sub b (inl refl)) (rings_of (map (polygon_at enclosers bs) xs)) (rings-all xs (λ c j. sub c (inr j))) r
          (in-either (rings_in (polygon_at enclosers bs b)) (rings_of (map (polygon_at enclosers bs) xs)) r i)

      pub all_rings_of : All (All P) (rings_of (polygons_of enclosers bs))
      all_rings_of = all-in (All P) (rings_of (polygons_of enclosers bs)) (rings-all (filter (stands_first enclosers) bs) (λ b i. in-filter (stands_first enclosers) bs b i))

    whole-given : All (All (IsWholeAt k)) rs
    whole-given = all-in (All (IsWholeAt k)) rs (λ r i. all-in (IsWholeAt k) r (λ e j. whole-at (all_edges rs) e (all-edges-in rs r e i j)))

    whole-polygons_of : All (All (IsWholeAt k)) (rings_of (polygons_of enclosers bs))
    whole-polygons_of = all_rings_of (IsWholeAt k) whole-given

    -- ---- so they are sided, and cover what the rings cover
    pub sided_grouped : AreSided (polygons_of enclosers bs)
    sided_grouped = sided_begun rs are nested.polygons (polygons_of enclosers bs) nested.of_rings nested.begun whole-polygons_of

    pub cover_grouped : CoverAsRings rs (polygons_of enclosers bs)
    cover_grouped = λ q plus p. cover_begun rs are nested.polygons (polygons_of enclosers bs) nested.of_rings nested.begun whole-polygons_of q plus p

    -- ---- places and enclosers fit
    pub placed_in : ArePlaced (length enclosers) bs
    placed_in = subst (λ n. ArePlaced n bs) (sym hs.sized) (placed rs turn.listed bs turn.are turn.moved)

  within-by : (place encloser : ℕ) → get_or enclosers place None ≡ Some encloser → (place < length rs) ⊎ (length rs ≤ place) → encloser < length enclosers
  within-by place encloser e (inl h) = let o = (outer-encloser place encloser h e).0 in let s = hs.sized in omega arith
  within-by place encloser e (inr h) =
      let s = hs.sized in
      let none : get_or enclosers place None ≡ None = get_or_past enclosers place None (omega arith) in
      let q : None ≡ Some encloser = sym none ∙ e in
      absurd (cc q)

  pub within_homes : AreWithin enclosers
  within_homes place encloser e = within-by place encloser e (cases_lt place (length rs))
