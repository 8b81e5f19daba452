-- The polygons of nested rings run along whole segments where the list does, and then all coordinates are whole.
use Rattle.std.proofs.Common.{All, List, [], ap, inl, inr, refl, subst, sym, ◌∙◌, ◌∷◌, ◌≡◌, ◌⊎◌}
use Rattle.std.specs.List.{sum_by}
use Rattle.lists.specs.Member.{In}
use Rattle.lists.specs.Rotated.{IsRotated}
use Rattle.lists.proofs.ListsKit.{all-in, in-all, rotated-in}
use Rattle.osm_geom.specs.declared.edge.Edge.{Edge}
use Rattle.osm_geom.specs.Point.{den_of}
use Rattle.osm_geom.specs.WholeSegment.{IsWholeSegment}
use Rattle.osm_nest.specs.declared.polygon.Polygon.{Polygon}
use Rattle.osm_nest.specs.Nested.{AreFromLeast, AreNested, IsPolygonFromLeast}
use Rattle.osm_nest.specs.Polygons.{rings_in, rings_of}
use Rattle.osm_nest.proofs.BegunPolygons.{in-rings, was}
use Rattle.osm_nest.proofs.NestedRings.{ring-edge}
use Rattle.osm_rings.specs.RingList.{AreRingsOf}
use Rattle.osm_rings.proofs.Whole.{from-lattice, to-lattice}
use Rattle.osm_geom.specs.InPlane.Multiple.{product_of_denominators}
use Rattle.osm_geom.proofs.EdgesKit.{common-lattice}
use Rattle.osm_nest.proofs.ValidPolygons.Flattened.{out-flat}

-- the common denominator is 1
pub common-whole : (es : List Edge) → All IsWholeSegment es → product_of_denominators es ≡ 1
common-whole es whole =
    common-lattice es (λ e i. let w = in-all IsWholeSegment es e whole i in (ap den_of (from-lattice e w).1, ap den_of (to-lattice e w).1))

-- ---- what holds of each edge of rings
abbrev Each : List Edge → Type 0
Each r = (e : Edge) → In e r → IsWholeSegment e

turned : (r b : List Edge) → IsRotated r b → Each r → Each b
turned r b t h e i = h e (rotated-in r b t e i)

begun-by : (r f : List Edge) (others : List (List Edge)) → IsRotated r f → Each r → (b : List Edge) → (b ≡ f) ⊎ In b others → (In b others → Each b) → Each b
begun-by r f others t h b (inl e) k = subst Each (sym e) (turned r f t h)
begun-by r f others t h b (inr i) k = k i

begun-each : (rs bs : List (List Edge)) → AreFromLeast rs bs → ((r : List Edge) → In r rs → Each r) → (b : List Edge) → In b bs → Each b
begun-each [] bs k h b i = absurd (subst (In b) k i)
begun-each (r ∷ rs) bs k h b i = begun-by r k.0 k.1 k.3.turned (h r (inl refl)) b (subst (In b) k.2 i) (begun-each rs k.1 k.4 (λ s j. h s (inr j)) b)

polygon-each : (g b : Polygon) → IsPolygonFromLeast g b → ((r : List Edge) → In r (rings_in g) → Each r) → (r : List Edge) → In r (rings_in b) → Each r
polygon-each g b is h r (inl e) = subst Each (sym e) (turned g.outer b.outer is.outer.turned (h g.outer (inl refl)))
polygon-each g b is h r (inr i) = begun-each g.inners b.inners is.inners (λ s j. h s (inr j)) r i

pub nested-whole : (es : List Edge) → All IsWholeSegment es → (rs : List (List Edge)) → AreRingsOf es rs → (nested : List Polygon) → AreNested rs nested → All (All IsWholeSegment) (rings_of nested)
nested-whole es w rs a nested n =
    all-in (All IsWholeSegment) (rings_of nested) (λ r i.
    let o = out-flat rings_in nested r i in let g = was n.polygons nested n.begun o.0 o.1 in
    all-in IsWholeSegment r (polygon-each g.0 o.0 g.2 (λ s j e k. ring-edge es (rings_of n.polygons) w (λ f. n.of_rings.once (λ t. sum_by f t) ∙ a.edges f) s (in-rings n.polygons g.0 s g.1 j) e k) r o.2))
