-- A half of exact edges, once it is multiplied, is a half in the plane.
use Rattle.std.proofs.Common.{Bool, List, [], ap, cond, false, inl, inr, map, not, pos, refl, subst, sym, true, ℕ, ◌++◌, ◌&&◌, ◌||◌, ◌∙◌, ◌∷◌, ◌≡◌, ◌≤◌, ◌⊎◌}
use Rattle.std.specs.List.{count_by, filter}
use Prim.Native.Nat.{◌∣◌}
use Rattle.plane.specs.Bit.{bit}
use Rattle.plane.specs.Edge as plane
use Rattle.plane.specs.Edge.{ends_at}
use Rattle.plane.specs.Sign.{Minus, Null, Plus, Sign, is_minus, is_null, is_plus, negated, sign}
use Rattle.plane.specs.Vector.{IsNonZero, Vector, cross, dot, from_to, orient, same_point}
use Rattle.lists.specs.Member.{EachPair, In}
use Rattle.plane_lists.specs.Lists.Parity.{is_even}
use Rattle.plane_lists.specs.Lists.Sided as winding
use Rattle.plane_lists.specs.Halves.Half as plane_half
use Rattle.plane_lists.specs.Halves.Half.{Cutting, IsCut, IsPart, IsPartEnd, closing, closing_from, parts, wholes}
use Rattle.plane_lists.proofs.HalvingKit.{is_from, IsAfter, counted-either-way, IsApart, AllPlaced, all-placed, first-step, next-placed}
use Rattle.plane_lists.specs.Halves.HalfLaws.{IsHalved}
use Rattle.plane_lists.specs.Halves.Line.{Line, has_part, order_along, scaled_line, side}
use Rattle.osm_geom.specs.declared.cut.Cut.{Cut}
use Rattle.osm_geom.specs.declared.cut.Side.{Side}
use Rattle.osm_geom.specs.declared.cut.Side.TheVariants.{Low, High}
use Rattle.osm_geom.specs.declared.edge.Carrier.{Carrier}
use Rattle.osm_geom.specs.declared.edge.Edge.{Edge}
use Rattle.osm_geom.specs.declared.point.Point.{Point}
use Rattle.osm_geom.specs.Carrier.{is_on}
use Rattle.osm_geom.specs.Cut.{cut_order, side_by, side_of}
use Rattle.osm_geom.specs.Point.{den_of, point_order}
use Rattle.osm_geom.specs.InPlane.Multiple.{edge_times, edges_times, point_times}
use Rattle.coast_split.specs.Half.{AreLinks, AreLinksFrom, AreMeetings, ArePortions, IsHalf, IsPortion, IsPortionEnd, NextLink, NextPortion, ends_up_to, has_portion, is_up_to, line_of, line_order, lower_of, runs_forward}
use Rattle.plane.proofs.PlaneKit.{same_edge_by, rising-direction, same_point-refl, same_point-true, cross-chain, frame-agree}
use Rattle.plane.proofs.SignKit.{agree, agree-sum, all, all-out, all2-out, imp, imp-out, same_sign, same_sign-true, times, is_null-true, null-first}
use Rattle.lists.proofs.ListsKit.{in-left, in-map, in-map-out, pairs-into-map, pairs-weaker, total, total-is, total-map, total-same}
use Rattle.osm_geom.proofs.EdgesKit.{on_line, piece_times, piece_times-rises, step_of}
use Rattle.coast_split.proofs.CutLines.{line-direction, order-times, side-times}
use Rattle.std.proofs.lemmas.Bool.{or_right}

-- ---- points of one carrier are on one line
line-sign : (c y x : Sign) → agree (times Plus c) (times y Null) (times x Null) ≡ true → c ≡ Null
line-sign c y x h = same_sign-true c Null (imp-out _ _ (all-out (λ x. imp (agree (times Plus c) (times y Null) (times x Null)) λ _. same_sign c Null) (all2-out (λ c y. all λ x. imp (agree (times Plus c) (times y Null) (times x Null)) λ _. same_sign c Null) refl c y) x) h)

pub collinear : (k : ℕ) (c : Carrier) (a b w : Point) → 1 ≤ k → den_of a ∣ k → den_of b ∣ k → den_of w ∣ k → is_on c a ≡ true → is_on c b ≡ true → is_on c w ≡ true →
    orient (point_times k a) (point_times k b) (point_times k w) ≡ Null
collinear k c a b w some da db dw ha hb hw =
    let t = piece_times k c in let d = step_of t in let A = point_times k a in let B = point_times k b in let W = point_times k w in
    let dir = rising-direction t.from t.to (piece_times-rises k c some) in
    let oa = on_line k c a some da ha in
    let ab = null-first (sign (cross d (from_to t.from A))) (sign (cross d (from_to A B))) (sign (cross d (from_to t.from B))) (agree-sum (cross d (from_to t.from A)) (cross d (from_to A B)) (cross d (from_to t.from B)) (cross-chain d t.from A B)) oa ∙ on_line k c b some db hb in
    let aw = null-first (sign (cross d (from_to t.from A))) (sign (cross d (from_to A W))) (sign (cross d (from_to t.from W))) (agree-sum (cross d (from_to t.from A)) (cross d (from_to A W)) (cross d (from_to t.from W)) (cross-chain d t.from A W)) oa ∙ on_line k c w some dw hw in
    let f = frame-agree d (from_to A B) (from_to A W) dir in
    line-sign (orient A B W) (sign (dot d (from_to A W))) (sign (dot d (from_to A B)))
    (subst (λ z. agree (times Plus (orient A B W)) (times (sign (dot d (from_to A W))) Null) (times (sign (dot d (from_to A B))) z) ≡ true) aw
    (subst (λ z. agree (times Plus (orient A B W)) (times (sign (dot d (from_to A W))) z) (times (sign (dot d (from_to A B))) (sign (cross d (from_to A W)))) ≡ true) ab f))

-- ---- sides
pub side-null-by : (s : Side) (o : Sign) → o ≡ Null → side_by s o ≡ Null
side-null-by Low o h = h
side-null-by High o h = ap negated h

null-negated : (o : Sign) → negated o ≡ Null → o ≡ Null
null-negated Null h = refl
null-negated Plus h = absurd (cc h)
null-negated Minus h = absurd (cc h)

null-side-by : (s : Side) (o : Sign) → side_by s o ≡ Null → o ≡ Null
null-side-by Low o h = h
null-side-by High o h = null-negated o h

is_null-negated : (o : Sign) → is_null (negated o) ≡ is_null o
is_null-negated Null = refl
is_null-negated Plus = refl
is_null-negated Minus = refl

is_null-by : (s : Side) (o : Sign) → is_null (side_by s o) ≡ is_null o
is_null-by Low o = refl
is_null-by High o = is_null-negated o

-- multiplied by k, both ends of e are whole
pub record AreWhole (k : ℕ) (e : Edge) : Type 0 where
  pub first : den_of e.from ∣ k
  pub second : den_of e.to ∣ k

abbrev pub line_times : Cut → Side → ℕ → Line
line_times cut s k = scaled_line (pos k) (line_of cut s)

-- ---- a point on the line, and one on an edge's carrier, multiplied
pub cut-side-null : (cut : Cut) (s : Side) (k : ℕ) → 1 ≤ k → (z : Point) → den_of z ∣ k → cut_order cut z ≡ Null → side (line_times cut s k) (point_times k z) ≡ Null
cut-side-null cut s k some z z-in on = side-times k some z z-in cut s ∙ side-null-by s (cut_order cut z) on

pub edge-line-null : (e : Edge) (k : ℕ) → 1 ≤ k → den_of e.from ∣ k → den_of e.to ∣ k → (z : Point) → den_of z ∣ k → is_on e.carrier z ≡ true → orient (point_times k e.from) (point_times k e.to) (point_times k z) ≡ Null
edge-line-null e k some a-in b-in z z-in on = collinear k e.carrier e.from e.to z some a-in b-in z-in e.from_on e.to_on on

-- a list of cuttings in the plane: the edges, and their parts
pub record Cuttings (cut : Cut) (s : Side) (k : ℕ) (es ts : List Edge) : Type 0 where
  pub cs : List Cutting
  pub wholes_are : wholes cs ≡ edges_times k es
  pub parts_are : parts (line_times cut s k) cs ≡ edges_times k ts
  pub is_cut : IsCut (line_times cut s k) cs

-- a half in the plane: what it is made of
pub record InPlane (cut : Cut) (s : Side) (k : ℕ) (es hs : List Edge) : Type 0 where
  pub cs : List Cutting
  pub zs : List Vector
  pub halved : IsHalved (line_times cut s k) cs zs
  pub wholes_are : wholes cs ≡ edges_times k es
  pub half_is : plane_half.half (line_times cut s k) cs zs ≡ edges_times k hs

and-same : (a b x y : Bool) → a ≡ b → (b ≡ true → x ≡ y) → (a && x) ≡ (b && y)
and-same true true x y h k = k refl
and-same false false x y h k = refl
and-same true false x y h k = absurd (cc h)
and-same false true x y h k = absurd (cc h)

cut-cons : (m : Line) (c : Cutting) (cs : List Cutting) (b : Bool) → has_part m c.whole ≡ b → (b ≡ true → IsPart m c.whole c.part) → IsCut m cs → IsCut m (c ∷ cs)
cut-cons m c cs true h i rest x (inl e) p = subst (λ (y : Cutting). IsPart m y.whole y.part) (sym e) (i refl)
cut-cons m c cs false h i rest x (inl e) p = absurd (cc (sym h ∙ ap (λ (y : Cutting). has_part m y.whole) (sym e) ∙ p))
cut-cons m c cs b h i rest x (inr j) p = rest x j p

parts-cons : (m : Line) (c : Cutting) (cs : List Cutting) (b : Bool) → has_part m c.whole ≡ b → parts m (c ∷ cs) ≡ cond b (c.part ∷ parts m cs) (parts m cs)
parts-cons m c cs true h = ap (λ b. map (λ (c : Cutting). c.part) (cond b (c ∷ filter (λ (c : Cutting). has_part m c.whole) cs) (filter (λ (c : Cutting). has_part m c.whole) cs))) h
parts-cons m c cs false h = ap (λ b. map (λ (c : Cutting). c.part) (cond b (c ∷ filter (λ (c : Cutting). has_part m c.whole) cs) (filter (λ (c : Cutting). has_part m c.whole) cs))) h

module _ (cut : Cut) (s : Side) (k : ℕ) (some : 1 ≤ k) where
  abbrev pub l : Line
  l = line_times cut s k

  pub direction : IsNonZero l.along
  direction = line-direction cut.axis s cut

  side-is : (p : Point) → den_of p ∣ k → side l (point_times k p) ≡ side_of cut s p
  side-is p d = side-times k some p d cut s

  on-is : (p : Point) → den_of p ∣ k → cut_order cut p ≡ Null → side l (point_times k p) ≡ Null
  on-is p d h = side-is p d ∙ side-null-by s (cut_order cut p) h

  is-on : (p : Point) → den_of p ∣ k → side l (point_times k p) ≡ Null → cut_order cut p ≡ Null
  is-on p d h = null-side-by s (cut_order cut p) (sym (side-is p d) ∙ h)

  null-is : (p : Point) → den_of p ∣ k → is_null (side l (point_times k p)) ≡ is_null (cut_order cut p)
  null-is p d = ap is_null (side-is p d) ∙ is_null-by s (cut_order cut p)

  has-is : (e : Edge) → AreWhole k e → has_part l (edge_times k e) ≡ has_portion cut s e
  has-is e w = ap (λ x. is_plus x || is_plus (side l (point_times k e.to))) (side-is e.from w.first) ∙ ap (λ x. is_plus (side_of cut s e.from) || is_plus x) (side-is e.to w.second)

  -- ---- one part
  end-is : (e : Edge) (v w : Point) → AreWhole k e → den_of w ∣ k → (o : Sign) → IsPortionEnd cut e.carrier v w o → IsPartEnd l (edge_times k e) (point_times k v) (point_times k w) o
  end-is e v w h d Minus i = (on-is w d i.0, collinear k e.carrier e.from e.to w some h.first h.second d e.from_on e.to_on i.1)
  end-is e v w h d Null i = ap (point_times k) i
  end-is e v w h d Plus i = ap (point_times k) i

  part-is : (e t : Edge) → AreWhole k e → AreWhole k t → IsPortion cut s e t → IsPart l (edge_times k e) (edge_times k t)
  part-is e t he ht i = record {
    from = subst (IsPartEnd l (edge_times k e) (point_times k e.from) (point_times k t.from)) (sym (side-is e.from he.first)) (end-is e e.from t.from he ht.first (side_of cut s e.from) i.from);
    to = subst (IsPartEnd l (edge_times k e) (point_times k e.to) (point_times k t.to)) (sym (side-is e.to he.second)) (end-is e e.to t.to he ht.second (side_of cut s e.to) i.to);
  }

  -- ---- the parts
  abbrev pub AllWhole : List Edge → Type 0
  AllWhole es = (e : Edge) → In e es → AreWhole k e

  cuttings-step : (e : Edge) (es ts : List Edge) (b : Bool) → has_portion cut s e ≡ b → AllWhole (e ∷ es) → AllWhole ts → ((us : List Edge) → AllWhole us → ArePortions cut s es us → Cuttings cut s k es us) →
      NextPortion cut s e b (ArePortions cut s es) ts → Cuttings cut s k (e ∷ es) ts
  cuttings-step e es ts false h we wt rest p =
      let r = rest ts wt p in let c : Cutting = record { whole = edge_times k e; part = edge_times k e } in
      let hp = has-is e (we e (inl refl)) ∙ h in
      record {
        cs = c ∷ r.cs;
        wholes_are = ap (λ ys. edge_times k e ∷ ys) r.wholes_are;
        parts_are = parts-cons l c r.cs false hp ∙ r.parts_are;
        is_cut = cut-cons l c r.cs false hp (λ x. absurd (cc x)) r.is_cut;
      }
  cuttings-step e es [] true h we wt rest p = absurd p
  cuttings-step e es (t ∷ ts) true h we wt rest p =
      let r = rest ts (λ x i. wt x (inr i)) p.1 in let c : Cutting = record { whole = edge_times k e; part = edge_times k t } in
      let hp = has-is e (we e (inl refl)) ∙ h in
      record {
        cs = c ∷ r.cs;
        wholes_are = ap (λ ys. edge_times k e ∷ ys) r.wholes_are;
        parts_are = parts-cons l c r.cs true hp ∙ ap (λ ys. edge_times k t ∷ ys) r.parts_are;
        is_cut = cut-cons l c r.cs true hp (λ x. part-is e t (we e (inl refl)) (wt t (inl refl)) p.0) r.is_cut;
      }

  pub cuttings : (es ts : List Edge) → AllWhole es → AllWhole ts → ArePortions cut s es ts → Cuttings cut s k es ts
  cuttings [] ts we wt p = record { cs = []; wholes_are = refl; parts_are = ap (edges_times k) (sym p); is_cut = λ c i. absurd i }
  cuttings (e ∷ es) ts we wt p =
      cuttings-step e es ts (has_portion cut s e) refl we wt (λ us wu q. cuttings es us (λ x i. we x (inr i)) wu q) p

  -- ---- the end points on the line
  module _ (ts : List Edge) (wt : AllWhole ts) where
    meet-whole-by : (z : Point) (t : Edge) → In t ts → (z ≡ t.from) ⊎ (z ≡ t.to) → den_of z ∣ k
    meet-whole-by z t i (inl e) = subst (λ p. den_of p ∣ k) (sym e) (wt t i).first
    meet-whole-by z t i (inr e) = subst (λ p. den_of p ∣ k) (sym e) (wt t i).second

    pub meeting-whole : (zs : List Point) → AreMeetings cut s ts zs → (z : Point) → In z zs → den_of z ∣ k
    meeting-whole zs mt z i = let r = mt.ends z i in meet-whole-by z r.0 r.1 r.2

    ends-by : (z : Point) (t : Edge) → (z ≡ t.from) ⊎ (z ≡ t.to) → ends_at (point_times k z) (edge_times k t) ≡ true
    ends-by z t (inl e) = ap (λ p. ends_at (point_times k p) (edge_times k t)) e ∙ ap (λ b. b || same_point (point_times k t.from) (point_times k t.to)) (same_point-refl (point_times k t.from))
    ends-by z t (inr e) = ap (λ p. ends_at (point_times k p) (edge_times k t)) e ∙ or_right (same_point (point_times k t.to) (point_times k t.from)) (same_point (point_times k t.to) (point_times k t.to)) (same_point-refl (point_times k t.to))

    module _ (zs : List Point) (mt : AreMeetings cut s ts zs) where
      into-by : (t : Edge) → In t ts → (v : Vector) → (b c : Bool) → same_point v (point_times k t.from) ≡ b → same_point v (point_times k t.to) ≡ c → (b || c) ≡ true → side l v ≡ Null → In v (map (point_times k) zs)
      into-by t i v true c hb hc h on =
          let e = same_point-true v (point_times k t.from) hb in
          subst (λ x. In x (map (point_times k) zs)) (sym e) (in-map (point_times k) zs t.from (mt.froms t i (is-on t.from (wt t i).first (ap (side l) (sym e) ∙ on))))
      into-by t i v false true hb hc h on =
          let e = same_point-true v (point_times k t.to) hc in
          subst (λ x. In x (map (point_times k) zs)) (sym e) (in-map (point_times k) zs t.to (mt.tos t i (is-on t.to (wt t i).second (ap (side l) (sym e) ∙ on))))
      into-by t i v false false hb hc h on = absurd (cc h)

      pub meetings-are : plane_half.AreMeetings l (edges_times k ts) (map (point_times k) zs)
      meetings-are = record {
        on_line = λ v i. let r = in-map-out (point_times k) zs v i in subst (λ x. side l x ≡ Null) (sym r.2) (on-is r.0 (meeting-whole zs mt r.0 r.1) (mt.on_line r.0 r.1));
        ends = λ v i.
            let r = in-map-out (point_times k) zs v i in let q = mt.ends r.0 r.1 in
            (edge_times k q.0, in-map (edge_times k) ts q.0 q.1, ap (λ x. ends_at x (edge_times k q.0)) r.2 ∙ ends-by r.0 q.0 q.2);
        whole = λ t i v e on.
            let r = in-map-out (edge_times k) ts t i in
            into-by r.0 r.1 v (same_point v (point_times k r.0.from)) (same_point v (point_times k r.0.to)) refl refl (subst (λ x. ends_at v x ≡ true) r.2 e) on;
        rising = pairs-into-map (λ z w. order_along l z w ≡ Plus) (point_times k) zs
            (pairs-weaker (λ z w. line_order cut s z w ≡ Plus) (λ z w. order_along l (point_times k z) (point_times k w) ≡ Plus) zs
            (λ z w i j h. order-times k some z w (meeting-whole zs mt z i) (meeting-whole zs mt w j) cut s (mt.on_line z i) (mt.on_line w j) ∙ h) mt.rising);
      }

  -- ---- the edges on the line
  module _ (es ts : List Edge) (wt : AllWhole ts) (c : Cuttings cut s k es ts) (sd : winding.IsSided (wholes c.cs)) where
    abbrev T : List plane.Edge
    T = parts l c.cs

    count-is : (f : plane.Edge → Bool) (g : Edge → Bool) → ((t : Edge) → In t ts → f (edge_times k t) ≡ g t) → count_by f T ≡ count_by g ts
    count-is f g h =
        sym (total-is (λ (t : plane.Edge). bit (f t)) T) ∙ ap (total (λ (t : plane.Edge). bit (f t))) c.parts_are ∙ total-map (λ (t : plane.Edge). bit (f t)) (edge_times k) ts
        ∙ total-same (λ t. bit (f (edge_times k t))) (λ t. bit (g t)) ts (λ t i. ap bit (h t i)) ∙ total-is (λ t. bit (g t)) ts

    module _ (z : Point) (dz : den_of z ∣ k) (hz : cut_order cut z ≡ Null) where
      up-to-is : (p : Point) → den_of p ∣ k → runs_forward cut.axis s ≡ true → plane_half.is_up_to l (point_times k z) (point_times k p) ≡ is_up_to cut z p
      up-to-is p dp h =
          and-same (is_null (side l (point_times k p))) (is_null (cut_order cut p)) _ _ (null-is p dp)
          (λ n. ap (λ o. not (is_minus o)) (order-times k some p z dp dz cut s (is_null-true (cut_order cut p) n) hz ∙ ap (λ b. cond b (point_order p z) (point_order z p)) h))

      from-is : (p : Point) → den_of p ∣ k → runs_forward cut.axis s ≡ false → is_from l (point_times k z) (point_times k p) ≡ is_up_to cut z p
      from-is p dp h =
          and-same (is_null (side l (point_times k p))) (is_null (cut_order cut p)) _ _ (null-is p dp)
          (λ n. ap (λ o. not (is_minus o)) (order-times k some z p dz dp cut s hz (is_null-true (cut_order cut p) n) ∙ ap (λ b. cond b (point_order z p) (point_order p z)) h))

    abbrev AllApart : Vector → Vector → Type 0
    AllApart Z W = (t : plane.Edge) → In t T → (side l t.from ≡ Null → IsApart l Z W t.from) × (side l t.to ≡ Null → IsApart l Z W t.to)

    test-by : (b : Bool) → runs_forward cut.axis s ≡ b → (z w : Point) → den_of z ∣ k → den_of w ∣ k → cut_order cut z ≡ Null → cut_order cut w ≡ Null → AllApart (point_times k z) (point_times k w) →
        is_even (plane_half.ends_up_to l T (point_times k z)) ≡ is_even (ends_up_to cut ts (cond b z w))
    test-by true h z w dz dw hz hw apart =
        ap is_even (count-is _ _ (λ t i. ap (λ x. x || plane_half.is_up_to l (point_times k z) (point_times k t.to)) (up-to-is z dz hz t.from (wt t i).first h) ∙ ap (λ x. is_up_to cut z t.from || x) (up-to-is z dz hz t.to (wt t i).second h)))
    test-by false h z w dz dw hz hw apart =
        sym (counted-either-way l direction c.cs c.is_cut sd (point_times k z) (point_times k w) apart)
        ∙ ap is_even (count-is _ _ (λ t i. ap (λ x. x || is_from l (point_times k w) (point_times k t.to)) (from-is w dw hw t.from (wt t i).first h) ∙ ap (λ x. is_up_to cut w t.from || x) (from-is w dw hw t.to (wt t i).second h)))

    test-is : (z w : Point) → den_of z ∣ k → den_of w ∣ k → cut_order cut z ≡ Null → cut_order cut w ≡ Null → AllApart (point_times k z) (point_times k w) →
        is_even (plane_half.ends_up_to l T (point_times k z)) ≡ is_even (ends_up_to cut ts (lower_of cut s z w))
    test-is z w dz dw hz hw apart = test-by (runs_forward cut.axis s) refl z w dz dw hz hw apart

    link-step : (z w : Point) (xs : List plane.Edge) (rest : List Edge → Type 0) → ((us : List Edge) → rest us → edges_times k us ≡ xs) → (b : Bool) (ls : List Edge) → NextLink cut z w b rest ls →
        edges_times k ls ≡ cond b xs (record { from = point_times k z; to = point_times k w } ∷ xs)
    link-step z w xs rest h true ls n = h ls n
    link-step z w xs rest h false [] n = absurd n
    link-step z w xs rest h false (e ∷ ls) n =
        ap (λ x. x ∷ edges_times k ls) (same_edge_by (point_times k e.from) (point_times k e.to) (point_times k z) (point_times k w) (ap (point_times k) n.0.from) (ap (point_times k) n.0.to))
        ∙ ap (λ xs. record { from = point_times k z; to = point_times k w } ∷ xs) (h ls n.1)

    links-are : (z : Point) (rest : List Point) (ls : List Edge) → ((p : Point) → In p (z ∷ rest) → (den_of p ∣ k) × (cut_order cut p ≡ Null)) →
        EachPair (IsAfter l) (point_times k z ∷ map (point_times k) rest) → AllPlaced l T (point_times k z) (map (point_times k) rest) → AreLinksFrom cut s ts z rest ls →
        edges_times k ls ≡ closing_from l T (point_times k z) (map (point_times k) rest)
    links-are z [] ls on rising placed h = ap (edges_times k) h
    links-are z (w ∷ r) ls on rising placed h =
        let oz = on z (inl refl) in let ow = on w (inr (inl refl)) in
        let Z = point_times k z in let W = point_times k w in let R = map (point_times k) r in
        let step = first-step l direction T Z W R (on-is z oz.0 oz.1) (on-is w ow.0 ow.1) rising placed in
        let next = next-placed l direction T Z W R rising placed in
        link-step z w (closing_from l T W R) (AreLinksFrom cut s ts w r) (λ us u. links-are w r us (λ p i. on p (inr i)) rising.1 next u) (is_even (ends_up_to cut ts (lower_of cut s z w))) ls h
        ∙ ap (λ b. cond b (closing_from l T W R) (record { from = Z; to = W } ∷ closing_from l T W R)) (sym (test-is z w oz.0 ow.0 oz.1 ow.1 step.apart))

    all-links : (zs : List Point) (ls : List Edge) → (mt : AreMeetings cut s ts zs) → plane_half.AreMeetings l T (map (point_times k) zs) → AreLinks cut s ts zs ls → edges_times k ls ≡ closing l T (map (point_times k) zs)
    all-links [] ls mt pm h = ap (edges_times k) h
    all-links (z ∷ rest) ls mt pm h =
        links-are z rest ls (λ p i. (meeting-whole ts wt (z ∷ rest) mt p i, mt.on_line p i)) pm.rising (all-placed l direction c.cs c.is_cut sd (point_times k z) (map (point_times k) rest) pm) h

  -- ---- the half
  map-append : (xs ys : List Edge) → edges_times k (xs ++ ys) ≡ edges_times k xs ++ edges_times k ys
  map-append [] ys = refl
  map-append (x ∷ xs) ys = ap (λ l. edge_times k x ∷ l) (map-append xs ys)

  pub in-plane : (es hs : List Edge) → AllWhole es → AllWhole hs → winding.IsSided (edges_times k es) → (h : IsHalf cut s es hs) → InPlane cut s k es hs
  in-plane es hs we wh sd h =
      let wt : AllWhole h.parts = λ t i. wh t (subst (In t) (sym h.whole) (in-left h.parts h.links t i)) in
      let c = cuttings es h.parts we wt h.are_parts in
      let sc = subst winding.IsSided (sym c.wholes_are) sd in
      let pm = subst (λ ts. plane_half.AreMeetings l ts (map (point_times k) h.meetings)) (sym c.parts_are) (meetings-are h.parts wt h.meetings h.are_meetings) in
      let ls = all-links es h.parts wt c sc h.meetings h.links h.are_meetings pm h.are_links in
      record {
        cs = c.cs;
        zs = map (point_times k) h.meetings;
        halved = record { direction = direction; sided = sc; cut = c.is_cut; meetings = pm };
        wholes_are = c.wholes_are;
        half_is = ap (λ x. x ++ closing l (parts l c.cs) (map (point_times k) h.meetings)) c.parts_are ∙ ap (λ x. edges_times k h.parts ++ x) (sym ls) ∙ sym (map-append h.parts h.links) ∙ ap (edges_times k) (sym h.whole);
      }
