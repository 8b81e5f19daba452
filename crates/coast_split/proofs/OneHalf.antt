-- A list has one half on a side of a line.
use Rattle.std.proofs.Common.{Bool, List, [], ap, false, inl, inr, refl, subst, sym, true, ℕ, ◌*◌, ◌++◌, ◌||◌, ◌∙◌, ◌∷◌, ◌≡◌, ◌≤◌, ◌⊎◌}
use Prim.Native.Nat.{◌∣◌}
use Rattle.std.proofs.Math.Nat.{dvd-mul_left, dvd-mul_left_of_dvd, dvd-mul_right, dvd-mul_right_of_dvd}
use Rattle.plane.specs.Sign.{Minus, Null, Plus, Sign, is_plus, negated}
use Rattle.lists.specs.Member.{EachPair, In}
use Rattle.plane_lists.specs.Lists.Parity.{is_even}
use Rattle.osm_geom.specs.declared.cut.Cut.{Cut}
use Rattle.osm_geom.specs.declared.cut.Side.{Side}
use Rattle.osm_geom.specs.declared.edge.Edge.{Edge}
use Rattle.osm_geom.specs.declared.point.Point.{Point}
use Rattle.osm_geom.specs.Carrier.{is_on}
use Rattle.osm_geom.specs.Cut.{cut_order, side_of}
use Rattle.osm_geom.specs.Point.{den_of}
use Rattle.osm_geom.specs.InPlane.Multiple.{point_times}
use Rattle.coast_split.specs.Half.{AreLinks, AreLinksFrom, AreMeetings, ArePortions, IsHalf, IsPortion, IsPortionEnd, NextLink, NextPortion, ends_up_to, has_portion, line_order, lower_of}
use Rattle.osm_geom.specs.declared.cut.Side.TheVariants.{Low, High}
use Rattle.coast_split.specs.SplitTree.{IsTree, Tree, high_cut, is_split, low_cut, middle_of}
use Rattle.coast_split.specs.SplitTree.Tree.{Fork, Whole}
use Rattle.lists.proofs.ListsKit.{clash, in-all}
use Rattle.plane_lists.proofs.HalvingKit.{meeting-one, meeting-one-back}
use Rattle.osm_geom.proofs.GeometryKit.{edge-from-fields}
use Rattle.osm_geom.proofs.EdgesKit.{den-some, product-some, same_is_same}
use Rattle.coast_split.proofs.CutLines.{side-times}
use Rattle.coast_split.proofs.InPlane.{cut-side-null, edge-line-null, line_times}
use Rattle.coast_split.proofs.LineOrders.{line-back}
use Rattle.coast_split.proofs.Walks.{line-self}

-- ---- one portion
module _ (cut : Cut) (s : Side) (e : Edge) (z w : Point) (oz : cut_order cut z ≡ Null) (hz : is_on e.carrier z ≡ true) (ow : cut_order cut w ≡ Null) (hw : is_on e.carrier w ≡ true) where
  abbrev k : ℕ
  k = (den_of e.from * den_of e.to) * (den_of z * den_of w)

  some : 1 ≤ k
  some = product-some (den_of e.from * den_of e.to) (den_of z * den_of w) (product-some (den_of e.from) (den_of e.to) (den-some e.from) (den-some e.to)) (product-some (den_of z) (den_of w) (den-some z) (den-some w))

  a-in : den_of e.from ∣ k
  a-in = dvd-mul_right_of_dvd (den_of e.from) (dvd-mul_right (den_of e.from) (den_of e.to)) (den_of z * den_of w)

  b-in : den_of e.to ∣ k
  b-in = dvd-mul_right_of_dvd (den_of e.to) (dvd-mul_left (den_of e.to) (den_of e.from)) (den_of z * den_of w)

  z-in : den_of z ∣ k
  z-in = dvd-mul_left_of_dvd (den_of z) (dvd-mul_right (den_of z) (den_of w)) (den_of e.from * den_of e.to)

  w-in : den_of w ∣ k
  w-in = dvd-mul_left_of_dvd (den_of w) (dvd-mul_left (den_of w) (den_of z)) (den_of e.from * den_of e.to)

  pub one-off : side_of cut s e.from ≡ Plus → side_of cut s e.to ≡ Minus → z ≡ w
  one-off ha hb =
      let l = line_times cut s k in
      same_is_same k z w some z-in w-in (meeting-one l.along (point_times k e.from) (point_times k e.to) (point_times k z) (point_times k w) l.level
      (side-times k some e.from a-in cut s ∙ ha) (side-times k some e.to b-in cut s ∙ hb) (cut-side-null cut s k some z z-in oz) (edge-line-null e k some a-in b-in z z-in hz) (cut-side-null cut s k some w w-in ow) (edge-line-null e k some a-in b-in w w-in hw))

  pub one-onto : side_of cut s e.from ≡ Minus → side_of cut s e.to ≡ Plus → z ≡ w
  one-onto ha hb =
      let l = line_times cut s k in
      same_is_same k z w some z-in w-in (meeting-one-back l.along (point_times k e.from) (point_times k e.to) (point_times k z) (point_times k w) l.level
      (side-times k some e.from a-in cut s ∙ ha) (side-times k some e.to b-in cut s ∙ hb) (cut-side-null cut s k some z z-in oz) (edge-line-null e k some a-in b-in z z-in hz) (cut-side-null cut s k some w w-in ow) (edge-line-null e k some a-in b-in w w-in hw))

module _ (cut : Cut) (s : Side) where
  ends-by : (e : Edge) (z w x y : Point) (a b : Sign) → side_of cut s e.from ≡ a → side_of cut s e.to ≡ b → (is_plus a || is_plus b) ≡ true →
      IsPortionEnd cut e.carrier e.from z a → IsPortionEnd cut e.carrier e.from w a → IsPortionEnd cut e.carrier e.to x b → IsPortionEnd cut e.carrier e.to y b → (z ≡ w) × (x ≡ y)
  ends-by e z w x y Plus Minus ha hb h p q r t = (p ∙ sym q, one-off cut s e x y r.0 r.1 t.0 t.1 ha hb)
  ends-by e z w x y Minus Plus ha hb h p q r t = (one-onto cut s e z w p.0 p.1 q.0 q.1 ha hb, r ∙ sym t)
  ends-by e z w x y Plus Plus ha hb h p q r t = (p ∙ sym q, r ∙ sym t)
  ends-by e z w x y Plus Null ha hb h p q r t = (p ∙ sym q, r ∙ sym t)
  ends-by e z w x y Null Plus ha hb h p q r t = (p ∙ sym q, r ∙ sym t)
  ends-by e z w x y Null Null ha hb h p q r t = absurd (cc h)
  ends-by e z w x y Null Minus ha hb h p q r t = absurd (cc h)
  ends-by e z w x y Minus Null ha hb h p q r t = absurd (cc h)
  ends-by e z w x y Minus Minus ha hb h p q r t = absurd (cc h)

  pub one-portion : (e t u : Edge) → has_portion cut s e ≡ true → IsPortion cut s e t → IsPortion cut s e u → t ≡ u
  one-portion e t u h p q =
      let ends = ends-by e t.from u.from t.to u.to (side_of cut s e.from) (side_of cut s e.to) refl refl h p.from q.from p.to q.to in
      edge-from-fields t u ends.0 ends.1 (p.carrier ∙ sym q.carrier)

  portions-step : (e : Edge) (b : Bool) → has_portion cut s e ≡ b → (P : List Edge → Type 0) → ((ts us : List Edge) → P ts → P us → ts ≡ us) → (ts us : List Edge) → NextPortion cut s e b P ts → NextPortion cut s e b P us → ts ≡ us
  portions-step e false h P f ts us p q = f ts us p q
  portions-step e true h P f [] us p q = absurd p
  portions-step e true h P f (t ∷ ts) [] p q = absurd q
  portions-step e true h P f (t ∷ ts) (u ∷ us) p q = ap (λ l. t ∷ l) (f ts us p.1 q.1) ∙ ap (λ x. x ∷ us) (one-portion e t u h p.0 q.0)

  pub one-parts : (es ts us : List Edge) → ArePortions cut s es ts → ArePortions cut s es us → ts ≡ us
  one-parts [] ts us p q = p ∙ sym q
  one-parts (e ∷ es) ts us p q = portions-step e (has_portion cut s e) refl (ArePortions cut s es) (λ xs ys a b. one-parts es xs ys a b) ts us p q

  -- ---- one list of end points
  abbrev Rises : Point → Point → Type 0
  Rises p q = line_order cut s p q ≡ Plus

  never-itself : (p : Point) → Rises p p → ⊥
  never-itself p h = cc (sym h ∙ line-self cut s p)

  never-back : (p q : Point) → Rises p q → Rises q p → ⊥
  never-back p q h g = cc (sym g ∙ line-back cut s p q ∙ ap negated h)

  heads-by : (x y : Point) (xs ys : List Point) → EachPair Rises (x ∷ xs) → EachPair Rises (y ∷ ys) → In x (y ∷ ys) → In y (x ∷ xs) → x ≡ y
  heads-by x y xs ys h g (inl e) j = e
  heads-by x y xs ys h g (inr i) (inl e) = sym e
  heads-by x y xs ys h g (inr i) (inr j) = absurd (never-back x y (in-all (Rises x) xs y h.0 j) (in-all (Rises y) ys x g.0 i))

  tail-by : (x y : Point) (xs ys : List Point) → x ≡ y → EachPair Rises (x ∷ xs) → (v : Point) → In v xs → In v (y ∷ ys) → In v ys
  tail-by x y xs ys e h v i (inl f) = absurd (never-itself x (in-all (Rises x) xs x h.0 (subst (λ u. In u xs) (f ∙ sym e) i)))
  tail-by x y xs ys e h v i (inr j) = j

  pub one-rising : (xs ys : List Point) → EachPair Rises xs → EachPair Rises ys → ((v : Point) → In v xs → In v ys) → ((v : Point) → In v ys → In v xs) → xs ≡ ys
  one-rising [] [] h g f k = refl
  one-rising [] (y ∷ ys) h g f k = absurd (k y (inl refl))
  one-rising (x ∷ xs) [] h g f k = absurd (f x (inl refl))
  one-rising (x ∷ xs) (y ∷ ys) h g f k =
      let e = heads-by x y xs ys h g (f x (inl refl)) (k y (inl refl)) in
      let rest = one-rising xs ys h.1 g.1 (λ v i. tail-by x y xs ys e h v i (f v (inr i))) (λ v i. tail-by y x ys xs (sym e) g v i (k v (inr i))) in
      ap (λ l. x ∷ l) rest ∙ ap (λ z. z ∷ ys) e

  end-by : (ts : List Edge) (ys : List Point) → AreMeetings cut s ts ys → (v : Point) (t : Edge) → In t ts → cut_order cut v ≡ Null → (v ≡ t.from) ⊎ (v ≡ t.to) → In v ys
  end-by ts ys b v t i o (inl e) = subst (λ u. In u ys) (sym e) (b.froms t i (ap (cut_order cut) (sym e) ∙ o))
  end-by ts ys b v t i o (inr e) = subst (λ u. In u ys) (sym e) (b.tos t i (ap (cut_order cut) (sym e) ∙ o))

  moved-by : (ts : List Edge) (xs ys : List Point) → AreMeetings cut s ts xs → AreMeetings cut s ts ys → (v : Point) → In v xs → In v ys
  moved-by ts xs ys a b v i = let r = a.ends v i in end-by ts ys b v r.0 r.1 (a.on_line v i) r.2

  pub one-meetings : (ts : List Edge) (xs ys : List Point) → AreMeetings cut s ts xs → AreMeetings cut s ts ys → xs ≡ ys
  one-meetings ts xs ys a b = one-rising xs ys a.rising b.rising (moved-by ts xs ys a b) (moved-by ts ys xs b a)

  -- ---- one list of edges on the line
  links-step : (z w : Point) (b : Bool) (P : List Edge → Type 0) → ((ls ms : List Edge) → P ls → P ms → ls ≡ ms) → (ls ms : List Edge) → NextLink cut z w b P ls → NextLink cut z w b P ms → ls ≡ ms
  links-step z w true P f ls ms p q = f ls ms p q
  links-step z w false P f [] ms p q = absurd p
  links-step z w false P f (e ∷ ls) [] p q = absurd q
  links-step z w false P f (e ∷ ls) (g ∷ ms) p q =
      ap (λ l. e ∷ l) (f ls ms p.1 q.1) ∙ ap (λ x. x ∷ ms) (edge-from-fields e g (p.0.from ∙ sym q.0.from) (p.0.to ∙ sym q.0.to) (p.0.carrier ∙ sym q.0.carrier))

  one-links-from : (ts : List Edge) (z : Point) (zs : List Point) (ls ms : List Edge) → AreLinksFrom cut s ts z zs ls → AreLinksFrom cut s ts z zs ms → ls ≡ ms
  one-links-from ts z [] ls ms p q = p ∙ sym q
  one-links-from ts z (w ∷ zs) ls ms p q = links-step z w (is_even (ends_up_to cut ts (lower_of cut s z w))) (AreLinksFrom cut s ts w zs) (λ xs ys a b. one-links-from ts w zs xs ys a b) ls ms p q

  pub one-links : (ts : List Edge) (zs : List Point) (ls ms : List Edge) → AreLinks cut s ts zs ls → AreLinks cut s ts zs ms → ls ≡ ms
  one-links ts [] ls ms p q = p ∙ sym q
  one-links ts (z ∷ zs) ls ms p q = one-links-from ts z zs ls ms p q

  pub one-half : (es hs gs : List Edge) → IsHalf cut s es hs → IsHalf cut s es gs → hs ≡ gs
  one-half es hs gs h g =
      let t = one-parts es h.parts g.parts h.are_parts g.are_parts in
      let gm = subst (λ ts. AreMeetings cut s ts g.meetings) (sym t) g.are_meetings in
      let z = one-meetings h.parts h.meetings g.meetings h.are_meetings gm in
      let gl = subst (λ zs. AreLinks cut s h.parts zs g.links) (sym z) (subst (λ ts. AreLinks cut s ts g.meetings g.links) (sym t) g.are_links) in
      let l = one-links h.parts h.meetings h.links g.links h.are_links gl in
      h.whole ∙ ap (λ x. x ++ h.links) t ∙ ap (λ x. g.parts ++ x) l ∙ sym g.whole

-- ---- one tree
pub one-tree : (m o : ℕ) (es : List Edge) (t u : Tree) → IsTree m o es t → IsTree m o es u → t ≡ u
one-tree m o es Whole Whole h g = refl
one-tree m o es Whole (Fork low high s t) h g = absurd (clash (is_split m o es) g.0 h)
one-tree m o es (Fork low high s t) Whole h g = absurd (clash (is_split m o es) h.0 g)
one-tree m o es (Fork low high s t) (Fork down up v w) h g =
    let x = middle_of es in
    let l = one-half (low_cut x o) Low es low down h.1 g.1 in let r = one-half (high_cut x o) High es high up h.2 g.2 in
    let a = one-tree m o low s v h.3 (subst (λ es. IsTree m o es v) (sym l) g.3) in
    let b = one-tree m o high t w h.4 (subst (λ es. IsTree m o es w) (sym r) g.4) in
    ap (λ z. Fork z high s t) l ∙ ap (λ z. Fork down z s t) r ∙ ap (λ z. Fork down up z t) a ∙ ap (λ z. Fork down up v z) b
