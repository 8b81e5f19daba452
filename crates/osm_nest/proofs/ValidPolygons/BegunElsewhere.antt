-- The polygons of a ring list whose rings are begun elsewhere are those of the ring list that is begun so.
use Rattle.std.specs.List.{flat_map}
use Rattle.std.proofs.Common.{List, [], ap, arith, inl, inr, length, map, refl, subst, sym, ℕ, ◌++◌, ◌+◌, ◌<◌, ◌∙◌, ◌∷◌, ◌≡◌, ◌≤◌, ◌⊎◌}
use Rattle.lists.specs.Member.{EachPair, In}
use Rattle.lists.specs.Rotated.{IsRotated}
use Rattle.plane_lists.specs.Rings.Nesting.{edges_of}
use Rattle.plane_lists.specs.Rings.Polygon.{ArePolygonsOfRings, IsPolygon, Polygon, polygon_edges}
use Rattle.plane_lists.specs.Rings.RingList.{IsRingList}
use Rattle.plane_lists.specs.Rings.Rotated.{AreRotated}
use Rattle.plane_lists.specs.Rings.Walk.{HasSameEdges}
use Rattle.plane_lists.specs.OneRingList.RingListOf.{IsRingListOf}
use Rattle.plane.specs.Edge.{Edge}
use Rattle.plane_lists.specs.Lists.Sided.{IsSided}
use Rattle.lists.proofs.ListsKit.{all-in, pairs-across, pairs-right, pairs-weaker, rotated-in, some_member, total, total-++, total-is}
use Rattle.plane_lists.proofs.NestingKit.{Once, in-edges, polygon_sided, ring_rotated, rotated-length, rotated-total, rotated-was, same-once, sided-once}
use Rattle.plane_lists.proofs.OneRingListKit.{encloses-same, found, inner-same, outer-same, rings-uncrossed}
use Rattle.osm_nest.proofs.ValidPolygons.Flattened.{in-flat, out-flat}

-- all rings of polygons, one polygon after the other
abbrev pub rings_of : List Polygon → List (List Edge)
rings_of gs = flat_map (λ (g : Polygon). g.outer ∷ g.inner) gs

-- the same polygons, with rings begun elsewhere
pub record IsBegun (g h : Polygon) : Type 0 where
  pub outer : IsRotated g.outer h.outer
  pub inner : AreRotated g.inner h.inner

abbrev pub AreBegun : List Polygon → List Polygon → Type 0
AreBegun [] hs = hs ≡ []
AreBegun (g ∷ gs) hs = (first : Polygon) × (others : List Polygon) × (hs ≡ first ∷ others) × IsBegun g first × AreBegun gs others

-- ---- what a polygon was
was-by : (g : Polygon) (gs : List Polygon) (f : Polygon) (others : List Polygon) → IsBegun g f → (h : Polygon) → (h ≡ f) ⊎ In h others → (In h others → (x : Polygon) × In x gs × IsBegun x h) → (x : Polygon) × In x (g ∷ gs) × IsBegun x h
was-by g gs f others t h (inl e) k = (g, inl refl, subst (IsBegun g) (sym e) t)
was-by g gs f others t h (inr i) k = let a = k i in (a.0, inr a.1, a.2)

was : (gs hs : List Polygon) → AreBegun gs hs → (h : Polygon) → In h hs → (g : Polygon) × In g gs × IsBegun g h
was [] hs k h i = absurd (subst (In h) k i)
was (g ∷ gs) hs k h i = was-by g gs k.0 k.1 k.3 h (subst (In h) k.2 i) (was gs k.1 k.4 h)

-- ---- sums
module _ (f : Edge → ℕ) where
  rings-total : (rs qs : List (List Edge)) → AreRotated rs qs → total f (edges_of qs) ≡ total f (edges_of rs)
  rings-total [] qs k = ap (λ l. total f (edges_of l)) k
  rings-total (r ∷ rs) qs k =
      let a = ap (λ l. total f (edges_of l)) k.2 in let b = total-++ f k.0 (edges_of k.1) in let c = total-++ f r (edges_of rs) in
      let d = rotated-total f r k.0 k.3 in let e = rings-total rs k.1 k.4 in omega arith

  polygon-total : (g h : Polygon) → IsBegun g h → total f (polygon_edges h) ≡ total f (polygon_edges g)
  polygon-total g h t =
      let a = total-++ f g.outer (edges_of g.inner) in let b = total-++ f h.outer (edges_of h.inner) in
      let c = rotated-total f g.outer h.outer t.outer in let d = rings-total g.inner h.inner t.inner in omega arith

  polygons-total : (gs hs : List Polygon) → AreBegun gs hs → total f (edges_of (map polygon_edges hs)) ≡ total f (edges_of (map polygon_edges gs))
  polygons-total [] hs k = ap (λ l. total f (edges_of (map polygon_edges l))) k
  polygons-total (g ∷ gs) hs k =
      let a = ap (λ l. total f (edges_of (map polygon_edges l))) k.2 in let b = total-++ f (polygon_edges k.0) (edges_of (map polygon_edges k.1)) in
      let c = total-++ f (polygon_edges g) (edges_of (map polygon_edges gs)) in let d = polygon-total g k.0 k.3 in let e = polygons-total gs k.1 k.4 in omega arith

  lists-total : (rs qs : List (List Edge)) → total f (edges_of (rs ++ qs)) ≡ total f (edges_of rs) + total f (edges_of qs)
  lists-total [] qs = omega arith
  lists-total (r ∷ rs) qs =
      let a = total-++ f r (edges_of (rs ++ qs)) in let b = total-++ f r (edges_of rs) in let c = lists-total rs qs in omega arith

  own-total : (hs : List Polygon) → total f (edges_of (rings_of hs)) ≡ total f (edges_of (map polygon_edges hs))
  own-total [] = refl
  own-total (h ∷ hs) =
      let a = lists-total (h.outer ∷ h.inner) (rings_of hs) in let b = total-++ f (polygon_edges h) (edges_of (map polygon_edges hs)) in let c = own-total hs in omega arith

-- ---- rings of different edges differ
apart-lists : (rs : List (List Edge)) → Once (edges_of rs) → EachPair (λ (r s : List Edge). (x : Edge) → In x r → In x s → ⊥) rs
apart-lists [] o = tt
apart-lists (r ∷ rs) o = (
  all-in (λ (s : List Edge). (x : Edge) → In x r → In x s → ⊥) rs (λ s i x j k. pairs-across (λ (x y : Edge). x ≡ y → ⊥) r (edges_of rs) x x o j (in-edges rs s x i k) refl),
  apart-lists rs (pairs-right (λ (x y : Edge). x ≡ y → ⊥) r (edges_of rs) o),
)

less-than : (n : ℕ) → 3 ≤ n → 0 < n
less-than n h = omega arith

-- ---- the ring list and the polygons
module _ (es : List Edge) (sd : IsSided es) (rs : List (List Edge)) (l : IsRingListOf es rs) (gs : List Polygon) (a : ArePolygonsOfRings rs gs) (hs : List Polygon) (begun : AreBegun gs hs) where
  abbrev pub begun_rings : List (List Edge)
  begun_rings = rings_of hs

  uncrossed : IsRingList rs
  uncrossed = rings-uncrossed es sd rs l

  ring-of-by : (g h : Polygon) → In g gs → IsBegun g h → (q : List Edge) → In q (h.outer ∷ h.inner) → (r : List Edge) × In r rs × IsRotated r q
  ring-of-by g h i t q (inl e) = (g.outer, (a.each g i).member, subst (λ l. IsRotated g.outer l) (sym e) t.outer)
  ring-of-by g h i t q (inr j) = let w = rotated-was g.inner h.inner t.inner q j in (w.0, (a.each g i).inner_members w.0 w.1, w.2)

  ring-of : (q : List Edge) → In q begun_rings → (r : List Edge) × In r rs × IsRotated r q
  ring-of q j = let o = out-flat (λ (h : Polygon). h.outer ∷ h.inner) hs q j in let w = was gs hs begun o.0 o.1 in ring-of-by w.0 o.0 w.1 w.2 q o.2

  edges-same : HasSameEdges (edges_of (map polygon_edges hs)) (edges_of rs)
  edges-same f =
      sym (total-is f (edges_of (map polygon_edges hs))) ∙ polygons-total f gs hs begun ∙ total-is f (edges_of (map polygon_edges gs)) ∙ a.whole f

  own-same : HasSameEdges (edges_of begun_rings) (edges_of (map polygon_edges hs))
  own-same f = sym (total-is f (edges_of begun_rings)) ∙ own-total f hs ∙ total-is f (edges_of (map polygon_edges hs))

  pub begun_list : IsRingListOf es begun_rings
  begun_list = record {
    edges = λ f. own-same f ∙ edges-same f ∙ l.edges f;
    walks = λ q j. let r = ring-of q j in let w = l.walks r.0 r.1 in (w.0, w.1, λ x i. w.2 x (rotated-in r.0 q r.2 x i));
    ring = λ q j. let r = ring-of q j in ring_rotated r.0 q r.2 (l.ring r.0 r.1);
    some = λ q j. let r = ring-of q j in less-than (length q) (rotated-length r.0 q r.2 (uncrossed.long r.0 r.1));
  }

  begun_uncrossed : IsRingList begun_rings
  begun_uncrossed = rings-uncrossed es sd begun_rings begun_list

  module _ (h : Polygon) (j : In h hs) where
    origin : (g : Polygon) × In g gs × IsBegun g h
    origin = was gs hs begun h j

    abbrev g : Polygon
    g = origin.0

    is : IsPolygon rs g
    is = a.each g origin.1

    inner-was : (q : List Edge) → In q h.inner → (r : List Edge) × In r g.inner × IsRotated r q
    inner-was q i = rotated-was g.inner h.inner origin.2.inner q i

    here : (q : List Edge) → In q (h.outer ∷ h.inner) → In q begun_rings
    here q i = in-flat (λ (h : Polygon). h.outer ∷ h.inner) hs h q j i

    once-edges : Once (polygon_edges h)
    once-edges =
        same-once (polygon_edges h) (polygon_edges g)
        (λ f. sym (total-is f (polygon_edges h)) ∙ polygon-total f g h origin.2 ∙ total-is f (polygon_edges g)) (sided-once (polygon_edges g) (polygon_sided rs uncrossed g is))

    is-polygon : IsPolygon begun_rings h
    is-polygon = record {
      member = here h.outer (inl refl);
      is_outer_ring = outer-same rs begun_rings uncrossed begun_uncrossed g.outer h.outer is.member (here h.outer (inl refl)) origin.2.outer is.is_outer_ring;
      inner_members = λ q i. here q (inr i);
      are_inner_rings = λ q i. let r = inner-was q i in inner-same rs begun_rings uncrossed begun_uncrossed r.0 q (is.inner_members r.0 r.1) (here q (inr i)) r.2 (is.are_inner_rings r.0 r.1);
      enclosed = λ q i.
          let r = inner-was q i in
          encloses-same rs begun_rings uncrossed begun_uncrossed (found es sd begun_rings rs begun_list l) g.outer h.outer r.0 q is.member (here h.outer (inl refl)) origin.2.outer r.2 (is.enclosed r.0 r.1);
      once = pairs-weaker (λ (r s : List Edge). (x : Edge) → In x r → In x s → ⊥) (λ (r s : List Edge). r ≡ s → ⊥) h.inner
          (λ r s i k n e. let x = some_member r (less-than (length r) (begun_uncrossed.long r (here r (inr i)))) in n x.0 x.1 (subst (λ l. In x.0 l) e x.1))
          (apart-lists h.inner (pairs-right (λ (x y : Edge). x ≡ y → ⊥) h.outer (edges_of h.inner) once-edges));
    }

  pub begun_polygons : ArePolygonsOfRings begun_rings hs
  begun_polygons = record { each = is-polygon; whole = λ f. sym (own-same f) }
