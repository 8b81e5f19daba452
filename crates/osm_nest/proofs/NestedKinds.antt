-- Every polygon of nested rings has an outer ring first and inner ones under it, and lies round their anchors.
use Rattle.std.proofs.Common.{All, ◌≡◌, Bool, false, refl, true, not, nat_eq, ℕ, ◌%◌, ◌*◌, ◌+◌, ◌/◌, List, [], ◌∷◌, inl, inr, ◌⊎◌, sym, ap, subst, ◌∙◌, arith}
use Rattle.std.specs.List.{count_by}
use Rattle.std.proofs.Math.Nat.{div-add-mod, mul-mod_right}
use Rattle.std.proofs.lemmas.Bool.{eq-eqb, eqb-true}
use Rattle.plane_lists.specs.Rings.Polygon.{IsPolygon}
use Rattle.plane_lists.specs.Rings.Nesting.{EnclosesDirectly, IsInnerRing, IsOuterRing, encloses}
use Rattle.plane_lists.proofs.NestingKit.{encloses_law, encloses-not, ring_list_nest}
use Rattle.plane.specs.Bit.{bit}
use Rattle.lists.specs.Member.{In}
use Rattle.plane_lists.specs.Lists.Parity.{is_even}
use Rattle.plane_lists.specs.Lists.Ring.{segments_of}
use Rattle.plane_lists.proofs.WindingKit.{anchor_one}
use Rattle.lists.proofs.ListsKit.{all-in, in-all, in-map, rotated-back, total, total-++, total-is, total_none}
use Rattle.osm_geom.specs.declared.edge.Edge.{Edge}
use Rattle.lists.specs.Rotated.{IsRotated}
use Rattle.osm_geom.specs.InPlane.Multiple.{edges_times, product_of_denominators}
use Rattle.osm_geom.proofs.EdgesKit.{common_is_common}
use Rattle.osm_nest.specs.declared.polygon.Polygon.{Polygon}
use Rattle.osm_nest.specs.Beside.{is_around, is_right_of_lower_end}
use Rattle.osm_nest.specs.Laws.{IsAroundInners}
use Rattle.osm_nest.specs.Nested.{AreFromLeast, AreNested, ArePolygonsOf, HasKinds, IsFromLeast, IsPolygonFromLeast}
use Rattle.osm_nest.specs.Outer.{IsAnchorOf, IsInner, IsOuter}
use Rattle.osm_nest.specs.Polygons.{polygon_times, rings_of}
use Rattle.osm_nest.specs.RingLists.{AreRings, all_edges, whole_rings}
use Rattle.osm_nest.proofs.BegunPolygons.{in-rings, was}
use Rattle.osm_nest.proofs.Further.{factor-some, part}
use Rattle.osm_nest.proofs.InPlane.{segment_at, segments_times}
use Rattle.osm_nest.proofs.MultipliedRings as rings
use Rattle.osm_nest.proofs.NestedRings.{none-out}
use Rattle.osm_nest.proofs.TurnedAnchors.{anchor-turned, runs-turned}
use Rattle.plane.proofs.SignKit.{bit-yes}

-- ---- the ring that was begun elsewhere
begun-by : (r : List Edge) (rs : List (List Edge)) (f : List Edge) (others : List (List Edge)) → IsFromLeast r f → (b : List Edge) → (b ≡ f) ⊎ In b others → (In b others → (g : List Edge) × In g rs × IsFromLeast g b) → (g : List Edge) × In g (r ∷ rs) × IsFromLeast g b
begun-by r rs f others t b (inl e) h = (r, inl refl, subst (IsFromLeast r) (sym e) t)
begun-by r rs f others t b (inr i) h = let a = h i in (a.0, inr a.1, a.2)

pub begun-from : (rs bs : List (List Edge)) → AreFromLeast rs bs → (b : List Edge) → In b bs → (g : List Edge) × In g rs × IsFromLeast g b
begun-from [] bs h b i = absurd (subst (In b) h i)
begun-from (r ∷ rs) bs h b i = begun-by r rs h.0 h.1 h.3 b (subst (In b) h.2 i) (begun-from rs h.1 h.4 b)

turned-around : (a : Edge) (p q : List Edge) → IsRotated p q → is_around a q ≡ is_around a p
turned-around a p q t =
    let f = λ (e : Edge). bit (is_right_of_lower_end a e) in
    let x = ap (total f) t.old in let y = ap (total f) t.new in
    let m = total-++ f t.front t.back in let n = total-++ f t.back t.front in
    let s = total-is f p in let u = total-is f q in
    let same : count_by (is_right_of_lower_end a) q ≡ count_by (is_right_of_lower_end a) p = omega arith in
    ap (λ k. not (is_even k)) same

module _ (rs : List (List Edge)) (are : AreRings rs) where
  abbrev K : ℕ
  K = product_of_denominators (all_edges rs)

  -- the common denominator of r divides that of all rings, as a test
  abbrev fits : List Edge → Bool
  fits r = nat_eq (K % product_of_denominators r) 0

  fits-in : (r : List Edge) → In r rs → fits r ≡ true
  fits-in r i = let q = part rs r i in eq-eqb (K % product_of_denominators r) 0 (ap (λ n. n % product_of_denominators r) q.2 ∙ mul-mod_right (product_of_denominators r) q.0)

  fits-out : (r : List Edge) → fits r ≡ true → rings.Divides rs r
  fits-out r h =
      let d = product_of_denominators r in let m = K / d in
      let z : K % d ≡ 0 = eqb-true (K % d) 0 h in
      let w : d * m + K % d ≡ K = div-add-mod K d in
      let e : K ≡ d * m = omega (arith, z, w) in
      (m, factor-some K d m (common_is_common (all_edges rs)).some e, e)

  -- so it does for the rings of the polygons
  pub divides : (ps : List Polygon) → ArePolygonsOf rs ps → (r : List Edge) → In r (rings_of ps) → rings.Divides rs r
  divides ps of r i =
      let f = λ (r : List Edge). bit (not (fits r)) in
      let none : total f rs ≡ 0 = total_none f rs (λ x j. ap (λ b. bit (not b)) (fits-in x j)) in
      let all : total f (rings_of ps) ≡ 0 = total-is f (rings_of ps) ∙ of.once f ∙ sym (total-is f rs) ∙ none in
      fits-out r (bit-yes (fits r) (none-out f (rings_of ps) r all i))

  module _ (ps : List Polygon) (of : ArePolygonsOf rs ps) (g b : Polygon) (ig : In g ps) (is : IsPolygonFromLeast g b) where
    polygon : IsPolygon (whole_rings rs) (polygon_times K g)
    polygon = in-all (λ (g : Polygon). IsPolygon (whole_rings rs) (polygon_times K g)) ps g of.each ig

    outer-divides : rings.Divides rs g.outer
    outer-divides = divides ps of g.outer (in-rings ps g g.outer ig (inl refl))

    module _ (r : List Edge) (ir : In r g.inners) where
      inner-divides : rings.Divides rs r
      inner-divides = divides ps of r (in-rings ps g r ig (inr ir))

      inner-there : In (edges_times K r) (whole_rings rs)
      inner-there = polygon.inner_members (edges_times K r) (in-map (edges_times K) g.inners r ir)

      -- an odd number of the outer ring's edges are right of its anchor
      around : (a : Edge) → IsAnchorOf a r → is_around a g.outer ≡ true
      around a an =
          let up = rings.anchor-up rs are r inner-there inner-divides a an in
          let nest = rings.nest rs are r inner-there inner-divides in
          let out = segments_times K g.outer in
          let direct : EnclosesDirectly nest out (segments_times K r) =
          (subst (λ s. EnclosesDirectly nest s (segments_times K r)) (rings.along-is rs are g.outer polygon.member outer-divides)
          (subst (λ s. EnclosesDirectly nest (segments_of (edges_times K g.outer)) s) (rings.along-is rs are r inner-there inner-divides) (polygon.enclosed (edges_times K r) (in-map (edges_times K) g.inners r ir)))) in
          let same : direct.anchor ≡ segment_at K a = anchor_one direct.anchor (segment_at K a) (segments_times K r) (rings.plain rs are r inner-there inner-divides) direct.anchors up in
          let round : encloses out (segment_at K a) ≡ true = subst (λ s. encloses out s ≡ true) same direct.around in
          let n = ring_list_nest (whole_rings rs) are.ring_list in
          let odd = encloses_law nest n out (segments_times K r) (rings.in-nest rs are g.outer polygon.member outer-divides) (rings.in-nest rs are r inner-there inner-divides) (segment_at K a) up (encloses-not nest n out (segment_at K a) round) in
          sym (ap (λ k. not (is_even k)) (rings.right-count rs are g.outer polygon.member outer-divides a (rings.whole rs are r inner-there inner-divides a an.member)))
          ∙ (sym odd ∙ round)

      is-inner : IsInner r
      is-inner =
          rings.inner-down rs are r inner-there inner-divides
          (subst (IsInnerRing (rings.nest rs are r inner-there inner-divides)) (rings.along-is rs are r inner-there inner-divides) (polygon.are_inner_rings (edges_times K r) (in-map (edges_times K) g.inners r ir)))

    is-outer : IsOuter g.outer
    is-outer =
        rings.outer-down rs are g.outer polygon.member outer-divides
        (subst (IsOuterRing (rings.nest rs are g.outer polygon.member outer-divides)) (rings.along-is rs are g.outer polygon.member outer-divides) polygon.is_outer_ring)

    has-kinds : HasKinds b
    has-kinds = record {
      outer = runs-turned g.outer b.outer is.outer.turned false is-outer;
      inners = all-in IsInner b.inners (λ r i.
          let w = begun-from g.inners b.inners is.inners r i in
          runs-turned w.0 r w.2.turned true (is-inner w.0 w.1));
    }

    is-around : IsAroundInners b
    is-around = all-in (λ (inner : List Edge). (anchor : Edge) → IsAnchorOf anchor inner → is_around anchor b.outer ≡ true) b.inners (λ r i a an.
        let w = begun-from g.inners b.inners is.inners r i in
        turned-around a g.outer b.outer is.outer.turned ∙ around w.0 w.1 a (anchor-turned r w.0 (rotated-back w.0 r w.2.turned) a an))

pub nested-kinds : (rs : List (List Edge)) (nested : List Polygon) → AreRings rs → AreNested rs nested → All HasKinds nested
nested-kinds rs nested are is = all-in HasKinds nested (λ b i.
    let w = was is.polygons nested is.begun b i in
    has-kinds rs are is.polygons is.of_rings w.0 b w.1 w.2)

pub nested-around : (rs : List (List Edge)) (nested : List Polygon) → AreRings rs → AreNested rs nested → All IsAroundInners nested
nested-around rs nested are is = all-in IsAroundInners nested (λ b i.
    let w = was is.polygons nested is.begun b i in
    is-around rs are is.polygons is.of_rings w.0 b w.1 w.2)
