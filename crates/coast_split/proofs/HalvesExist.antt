-- Each list has a half on each side of each line.
use Rattle.std.proofs.Common.{Bool, List, [], ap, false, inl, inr, refl, subst, sym, true, ◌++◌, ◌∙◌, ◌∷◌, ◌≡◌, ◌||◌}
use Rattle.plane.specs.Sign.{Minus, Null, Plus, Sign, are_opposite, is_plus, negated}
use Rattle.lists.specs.Member.{EachPair, In}
use Rattle.lists.proofs.ListsKit.{in-all}
use Rattle.plane_lists.specs.Lists.Parity.{is_even}
use Rattle.osm_lattice.specs.declared.loc.Loc.{Loc}
use Rattle.osm_geom.specs.declared.cut.Cut.{Cut}
use Rattle.osm_geom.specs.declared.cut.Side.{Side}
use Rattle.osm_geom.specs.declared.cut.Side.TheVariants.{Low, High}
use Rattle.osm_geom.specs.declared.edge.Carrier.{Carrier}
use Rattle.osm_geom.specs.declared.edge.Carrier.TheVariants.{OfSeg, Vertical, Horizontal}
use Rattle.osm_geom.specs.declared.edge.Edge.{Edge}
use Rattle.osm_geom.specs.declared.point.Point.{Point}
use Rattle.osm_geom.specs.declared.point.Point.TheVariants.{Lattice}
use Rattle.osm_geom.specs.Carrier.{is_on}
use Rattle.osm_geom.specs.Cut.{carrier_of_cut, cut_order, side_by, side_of}
use Rattle.osm_geom.specs.Point.{IsInWorld}
use Rattle.osm_geom.proofs.GeometryKit.{cut_point_exists, in-world, in_world}
use Rattle.coast_split.specs.Half.{AreLinks, AreLinksFrom, AreMeetings, ArePortions, IsHalf, IsPortion, IsPortionEnd, NextLink, NextPortion, ends_up_to, has_portion, lower_of}
use Rattle.coast_split.specs.Walk.{IsEndOnLine, ends_on}
use Rattle.coast_split.proofs.Crossings.{horizontal-at-in, horizontal-d-in, horizontal-meets, horizontal-on, segment-crosses, vertical-at-in, vertical-c-in, vertical-meets, vertical-on}
use Rattle.coast_split.proofs.LineOrders.{R}
use Rattle.coast_split.proofs.LinePoints.{InOrder, Rises, in_order}
use Rattle.coast_split.proofs.MadeHalves.{ends-are, from-in, to-in}
use Rattle.coast_split.proofs.Walks.{line-self, on-cut}
use Rattle.coast_split.proofs.InPlane.{side-null-by}

-- ---- the point in which an edge meets the line
record CrossingOf (cut : Cut) (e : Edge) : Type 0 where
  pub point : Point
  pub on_line : cut_order cut point ≡ Null
  pub on_carrier : is_on e.carrier point ≡ true
  pub in_world : IsInWorld point

crossing-by : (cut : Cut) (e : Edge) (k : Carrier) → e.carrier ≡ k → are_opposite (cut_order cut e.from) (cut_order cut e.to) ≡ true → CrossingOf cut e
crossing-by cut e (OfSeg t) h o =
    let p = cut_point_exists t cut (segment-crosses cut e t h o) in
    record { point = p.point; on_line = p.on_line; on_carrier = subst (λ k. is_on k p.point ≡ true) (sym h) p.on_segment; in_world = in-world t p.point p.on_segment }
crossing-by cut e (Vertical c) h o =
    let p : Loc = record { x = c; y = cut.at; x_in = vertical-c-in e c h; y_in = vertical-at-in cut e c h o } in
    record { point = Lattice p; on_line = vertical-meets cut e c p h o refl; on_carrier = vertical-on e.carrier c p h refl; in_world = in_world p }
crossing-by cut e (Horizontal d) h o =
    let p : Loc = record { x = cut.at; y = d; x_in = horizontal-at-in cut e d h o; y_in = horizontal-d-in e d h } in
    record { point = Lattice p; on_line = horizontal-meets cut e d p h o refl; on_carrier = horizontal-on e.carrier d p h refl; in_world = in_world p }

pub minus-of : (a : Sign) → negated a ≡ Plus → a ≡ Minus
minus-of Minus h = refl
minus-of Null h = absurd (cc h)
minus-of Plus h = absurd (cc h)

plus-of : (a : Sign) → negated a ≡ Minus → a ≡ Plus
plus-of Plus h = refl
plus-of Null h = absurd (cc h)
plus-of Minus h = absurd (cc h)

opposite : (s : Side) (a b : Sign) → side_by s a ≡ Plus → side_by s b ≡ Minus → are_opposite a b ≡ true
opposite Low a b h k = ap (λ x. are_opposite x b) h ∙ ap (are_opposite Plus) k
opposite High a b h k = ap (λ x. are_opposite x b) (minus-of a h) ∙ ap (are_opposite Minus) (plus-of b k)

opposite-back : (s : Side) (a b : Sign) → side_by s a ≡ Minus → side_by s b ≡ Plus → are_opposite a b ≡ true
opposite-back Low a b h k = ap (λ x. are_opposite x b) h ∙ ap (are_opposite Minus) k
opposite-back High a b h k = ap (λ x. are_opposite x b) (plus-of a h) ∙ ap (are_opposite Plus) (minus-of b k)

module _ (cut : Cut) (s : Side) where
  -- ---- the portion of an edge
  record PortionOf (e : Edge) : Type 0 where
    pub edge : Edge
    pub is : IsPortion cut s e edge

  -- a point on the line is none on the side
  apart-by : (p q : Point) → side_of cut s p ≡ Plus → cut_order cut q ≡ Null → p ≡ q → ⊥
  apart-by p q h k e = cc (sym h ∙ ap (side_of cut s) e ∙ side-null-by s (cut_order cut q) k)

  end-plus : (c : Carrier) (v : Point) → side_of cut s v ≡ Plus → IsPortionEnd cut c v v (side_of cut s v)
  end-plus c v h = subst (IsPortionEnd cut c v v) (sym h) refl

  end-null : (c : Carrier) (v : Point) → side_of cut s v ≡ Null → IsPortionEnd cut c v v (side_of cut s v)
  end-null c v h = subst (IsPortionEnd cut c v v) (sym h) refl

  end-minus : (c : Carrier) (v w : Point) → side_of cut s v ≡ Minus → cut_order cut w ≡ Null → is_on c w ≡ true → IsPortionEnd cut c v w (side_of cut s v)
  end-minus c v w h o k = subst (IsPortionEnd cut c v w) (sym h) (o, k)

  whole-portion : (e : Edge) → IsPortionEnd cut e.carrier e.from e.from (side_of cut s e.from) → IsPortionEnd cut e.carrier e.to e.to (side_of cut s e.to) → PortionOf e
  whole-portion e a b = record { edge = e; is = record { carrier = refl; from = a; to = b } }

  first-portion : (e : Edge) → side_of cut s e.from ≡ Plus → side_of cut s e.to ≡ Minus → PortionOf e
  first-portion e ha hb =
      let p = crossing-by cut e e.carrier refl (opposite s (cut_order cut e.from) (cut_order cut e.to) ha hb) in
      record {
        edge = record { from = e.from; to = p.point; carrier = e.carrier; from_on = e.from_on; to_on = p.on_carrier; apart = λ k. apart-by e.from p.point ha p.on_line k; from_in = e.from_in; to_in = p.in_world };
        is = record { carrier = refl; from = end-plus e.carrier e.from ha; to = end-minus e.carrier e.to p.point hb p.on_line p.on_carrier };
      }

  last-portion : (e : Edge) → side_of cut s e.from ≡ Minus → side_of cut s e.to ≡ Plus → PortionOf e
  last-portion e ha hb =
      let p = crossing-by cut e e.carrier refl (opposite-back s (cut_order cut e.from) (cut_order cut e.to) ha hb) in
      record {
        edge = record { from = p.point; to = e.to; carrier = e.carrier; from_on = p.on_carrier; to_on = e.to_on; apart = λ k. apart-by e.to p.point hb p.on_line (sym k); from_in = p.in_world; to_in = e.to_in };
        is = record { carrier = refl; from = end-minus e.carrier e.from p.point ha p.on_line p.on_carrier; to = end-plus e.carrier e.to hb };
      }

  portion-by : (e : Edge) (a b : Sign) → side_of cut s e.from ≡ a → side_of cut s e.to ≡ b → (is_plus a || is_plus b) ≡ true → PortionOf e
  portion-by e Plus Plus ha hb h = whole-portion e (end-plus e.carrier e.from ha) (end-plus e.carrier e.to hb)
  portion-by e Plus Null ha hb h = whole-portion e (end-plus e.carrier e.from ha) (end-null e.carrier e.to hb)
  portion-by e Null Plus ha hb h = whole-portion e (end-null e.carrier e.from ha) (end-plus e.carrier e.to hb)
  portion-by e Plus Minus ha hb h = first-portion e ha hb
  portion-by e Minus Plus ha hb h = last-portion e ha hb
  portion-by e Null Null ha hb h = absurd (cc h)
  portion-by e Null Minus ha hb h = absurd (cc h)
  portion-by e Minus Null ha hb h = absurd (cc h)
  portion-by e Minus Minus ha hb h = absurd (cc h)

  record PortionsOf (es : List Edge) : Type 0 where
    pub parts : List Edge
    pub are : ArePortions cut s es parts

  portions-by : (e : Edge) (es : List Edge) → PortionsOf es → (b : Bool) → has_portion cut s e ≡ b → PortionsOf (e ∷ es)
  portions-by e es r false h = record { parts = r.parts; are = subst (λ b. NextPortion cut s e b (ArePortions cut s es) r.parts) (sym h) r.are }
  portions-by e es r true h =
      let t = portion-by e (side_of cut s e.from) (side_of cut s e.to) refl refl h in
      record { parts = t.edge ∷ r.parts; are = subst (λ b. NextPortion cut s e b (ArePortions cut s es) (t.edge ∷ r.parts)) (sym h) (t.is, r.are) }

  portions_exist : (es : List Edge) → PortionsOf es
  portions_exist [] = record { parts = []; are = refl }
  portions_exist (e ∷ es) = portions-by e es (portions_exist es) (has_portion cut s e) refl

  -- ---- the edges on the line
  module _ (ts : List Edge) where
    meetings-are : (o : InOrder cut s (ends_on cut ts)) → AreMeetings cut s ts o.all
    meetings-are o = record {
      on_line = λ v i. (ends-are cut ts v (o.out v i)).end.on_line;
      ends = λ v i. let e = ends-are cut ts v (o.out v i) in (e.edge, e.member, e.which);
      froms = λ t i h. o.into t.from (from-in cut ts t i h);
      tos = λ t i h. o.into t.to (to-in cut ts t i h);
      rising = o.rising;
    }

    record LinksFrom (z : Point) (zs : List Point) : Type 0 where
      pub links : List Edge
      pub are : AreLinksFrom cut s ts z zs links

    rises-apart : (z w : Point) → Rises cut s z w → z ≡ w → ⊥
    rises-apart z w h e = cc (sym h ∙ ap (R cut s z) (sym e) ∙ line-self cut s z)

    links-by : (z w : Point) (zs : List Point) → IsEndOnLine cut z → IsEndOnLine cut w → Rises cut s z w → LinksFrom w zs → (b : Bool) → is_even (ends_up_to cut ts (lower_of cut s z w)) ≡ b → LinksFrom z (w ∷ zs)
    links-by z w zs hz hw h r true e = record { links = r.links; are = subst (λ b. NextLink cut z w b (AreLinksFrom cut s ts w zs) r.links) (sym e) r.are }
    links-by z w zs hz hw h r false e =
        let l : Edge = record {
          from = z;
          to = w;
          carrier = carrier_of_cut cut;
          from_on = on-cut cut z (carrier_of_cut cut) refl hz.on_line;
          to_on = on-cut cut w (carrier_of_cut cut) refl hw.on_line;
          apart = rises-apart z w h;
          from_in = hz.in_world;
          to_in = hw.in_world;
        } in
        record {
          links = l ∷ r.links;
          are = subst (λ b. NextLink cut z w b (AreLinksFrom cut s ts w zs) (l ∷ r.links)) (sym e) (record { carrier = refl; from = refl; to = refl }, r.are);
        }

    links-from : (z : Point) (zs : List Point) → ((v : Point) → In v (z ∷ zs) → IsEndOnLine cut v) → EachPair (Rises cut s) (z ∷ zs) → LinksFrom z zs
    links-from z [] f h = record { links = []; are = refl }
    links-from z (w ∷ zs) f h =
        links-by z w zs (f z (inl refl)) (f w (inr (inl refl))) (in-all (Rises cut s z) (w ∷ zs) w h.0 (inl refl)) (links-from w zs (λ v i. f v (inr i)) h.1) (is_even (ends_up_to cut ts (lower_of cut s z w))) refl

    record LinksOf (zs : List Point) : Type 0 where
      pub links : List Edge
      pub are : AreLinks cut s ts zs links

    links_exist : (zs : List Point) → ((v : Point) → In v zs → IsEndOnLine cut v) → EachPair (Rises cut s) zs → LinksOf zs
    links_exist [] f h = record { links = []; are = refl }
    links_exist (z ∷ zs) f h = let r = links-from z zs f h in record { links = r.links; are = r.are }

  pub half_exists : (es : List Edge) → (hs : List Edge) × IsHalf cut s es hs
  half_exists es =
      let p = portions_exist es in let o = in_order cut s (ends_on cut p.parts) in
      let l = links_exist p.parts o.all (λ v i. (ends-are cut p.parts v (o.out v i)).end) o.rising in
      (p.parts ++ l.links, record { parts = p.parts; meetings = o.all; links = l.links; are_parts = p.are; are_meetings = meetings-are p.parts o; are_links = l.are; whole = refl })
