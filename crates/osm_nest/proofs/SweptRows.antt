-- Rows of edges that begin at one height, put into the status.
use Rattle.std.proofs.Common.{List, [], ap, arith, cond, drop, false, filter, get_or, inl, inr, length, refl, subst, suc, sym, take, true, zero, ℕ, ◌&&◌, ◌++◌, ◌+◌, ◌-◌, ◌<◌, ◌∙◌, ◌∷◌, ◌≡◌, ◌≢◌, ◌≤◌, ⊎_elim}
use Rattle.std.specs.List.{sum_by}
use Rattle.std.specs.Ordering.{is_lt}
use Rattle.std.proofs.lemmas.Bool.{cases_eq, cases_lt, and_from}
use Rattle.std.proofs.lemmas.List.{append-nil, take-append-drop, take_more}
use Rattle.std.proofs.lemmas.List.Elements.{filter-append}
use Rattle.plane.specs.Height.{is_in_span}
use Rattle.plane.specs.Vector.{Vector}
use Rattle.lists.proofs.ListsKit.{and-right, at-in, clash, in-all, in-filter, in-left, in-passes, same_get}
use Rattle.plane.proofs.PlaneKit.{right_chain, right_itself, right_of}
use Rattle.lists.specs.Member.{In}
use Rattle.plane_lists.specs.Statuses.Status.{IsRightJustAbove, IsStatus, spanning}
use Rattle.plane_lists.proofs.StatusKit.{fits, present, to_end}
use Rattle.osm_geom.specs.declared.edge.Edge.{Edge}
use Rattle.osm_geom.specs.JustAbove.{just_above_cmp}
use Rattle.osm_geom.specs.Span.{lower_end, spans}
use Rattle.osm_geom.specs.InPlane.Multiple.{IsWholeAt, product_of_denominators}
use Rattle.osm_nest.specs.declared.sweep.ring_edge.RingEdge.{RingEdge}
use Rattle.osm_nest.specs.RingLists.{AreRings, all_edges}
use Rattle.osm_nest.specs.SweptEdges.{AreSlopingEdges, HasNeighbour, IsSlopingEdge, PutRow, is_within, left_at}
use Rattle.osm_nest.specs.Beside.{IsSloping}
use Rattle.osm_nest.proofs.DirectEnclosers.{whole-in}
use Rattle.osm_nest.proofs.InPlane.{above-at, segment_at, spans-at}
use Rattle.osm_nest.proofs.LeftEnclosers.{seg}

-- ---- a row
module _ (rs : List (List Edge)) (are : AreRings rs) (items : List RingEdge) (of : AreSlopingEdges rs items) where
  abbrev K : ℕ
  K = product_of_denominators (all_edges rs)

  pub whole-of : (i : RingEdge) → In i items → IsWholeAt K i.edge.now
  whole-of i j = let is = in-all (IsSlopingEdge rs) items i of.each j in whole-in rs are i.ring is.inside i.edge.now is.member

  module _ (a : RingEdge) (ai : In a items) where
    abbrev p : Vector
    p = (segment_at K a.edge.now).from

    pub within-is : (i : RingEdge) → In i items → is_within (lower_end a.edge.now) i ≡ is_in_span p (segment_at K i.edge.now)
    within-is i j = spans-at K a.edge.now i.edge.now (whole-of a ai) (whole-of i j)

    pub right-of-left : (i t : RingEdge) → In i items → In t items → left_at (lower_end a.edge.now) i.edge.now t.edge.now ≡ true → IsRightJustAbove (seg rs are items of) p i t
    right-of-left i t ii it h =
        sym (above-at K a.edge.now i.edge.now t.edge.now (whole-of a ai) (whole-of i ii) (whole-of t it))
        ∙ and-right (spans i.edge.now (lower_end a.edge.now) && spans t.edge.now (lower_end a.edge.now)) (is_lt (just_above_cmp i.edge.now t.edge.now (lower_end a.edge.now))) h

    pub put-row : (from n : ℕ) (old new : List RingEdge) → from + n ≤ length items → PutRow (lower_end a.edge.now) items from n old new → IsStatus (seg rs are items of) p (take from items) old → IsStatus (seg rs are items of) p (take (from + n) items) new
    put-row from zero old new h put is = subst (λ k. IsStatus (seg rs are items of) p (take k items) new) (let e : from ≡ from + zero = omega arith in e) (subst (IsStatus (seg rs are items of) p (take from items)) (sym put) is)
    put-row from (suc n) old new h (between, i, at, within, before, one) is =
        let m = from + n in
        let inside : m < length items = omega arith in
        let so_far = put-row from n old between (omega arith) before is in
        let ii : In i items = subst (λ t. In t items) (sym at) (at-in items m i inside) in
        let member = λ (k : ℕ) (d : RingEdge) (l : k < length between). in-take m items (get_or between k d) (in-filter (λ (t : RingEdge). is_in_span p (segment_at K t.edge.now)) (take m items) (get_or between k d) (so_far.members k d l)) in
        let put = fits (seg rs are items of) p (take m items) between i one.place so_far (sym (within-is i ii) ∙ within) one.within
        (λ d some. let low : one.place - 1 < length between = (let w = one.within in omega (arith, w)) in
        subst (λ t. IsRightJustAbove (seg rs are items of) p t i) (same_get between (one.place - 1) i d low) (right-of-left (get_or between (one.place - 1) i) i (member (one.place - 1) i low) ii (one.before some)))
        (λ d some. subst (λ t. IsRightJustAbove (seg rs are items of) p i t) (same_get between one.place i d some) (right-of-left i (get_or between one.place i) ii (member one.place i some) (one.after some))) in
        let ended = to_end (seg rs are items of) p (take m items) new i (subst (IsStatus (seg rs are items of) p (i ∷ take m items)) (sym one.is) put) in
        subst (λ xs. IsStatus (seg rs are items of) p xs new) (ap (λ t. take m items ++ t ∷ []) at ∙ sym (take_more items m i inside) ∙ ap (λ k. take k items) (let e : m + 1 ≡ from + suc n = omega arith in e)) ended
      where
        in-take : (k : ℕ) (xs : List RingEdge) (x : RingEdge) → In x (take k xs) → In x xs
        in-take k xs x i = subst (In x) (take-append-drop k xs) (in-left (take k xs) (drop k xs) x i)

  -- ---- no later item spans the height: the status is that of all items
  none-of : (p : Vector) (xs : List RingEdge) → ((i : RingEdge) → In i xs → is_in_span p (segment_at K i.edge.now) ≡ false) → spanning (seg rs are items of) p xs ≡ []
  none-of p [] none = refl
  none-of p (x ∷ xs) none = ap (λ b. cond b (x ∷ spanning (seg rs are items of) p xs) (spanning (seg rs are items of) p xs)) (none x (inl refl)) ∙ none-of p xs (λ i j. none i (inr j))

  pub whole-status : (p : Vector) (to : ℕ) (status : List RingEdge) → ((i : RingEdge) → In i (drop to items) → is_in_span p (segment_at K i.edge.now) ≡ false) → IsStatus (seg rs are items of) p (take to items) status → IsStatus (seg rs are items of) p items status
  whole-status p to status none is =
      let sp = λ (t : RingEdge). is_in_span p (segment_at K t.edge.now) in
      let same : spanning (seg rs are items of) p (take to items) ≡ spanning (seg rs are items of) p items =
      sym (append-nil (filter sp (take to items))) ∙ ap (λ xs. filter sp (take to items) ++ xs) (sym (none-of p (drop to items) none)) ∙ sym (filter-append sp (take to items) (drop to items)) ∙ ap (filter sp) (take-append-drop to items) in
      record { order = is.order; whole = λ f. is.whole f ∙ ap (sum_by f) same; members = λ k d h. subst (In (get_or status k d)) same (is.members k d h) }

  -- ---- the anchor stands next to its neighbour
  module _ (h : ℕ) (hh : h < length rs) (a : Edge) (ia : In a (get_or rs h [])) (slopes : IsSloping a) (status : List RingEdge) (is : IsStatus (seg rs are items of) (segment_at K a).from items status) (e : RingEdge) (has : HasNeighbour a status e) where
    abbrev o : Vector
    o = (segment_at K a).from

    wa : IsWholeAt K a
    wa = whole-in rs are h hh a ia

    item-at : (k : ℕ) (d : RingEdge) → k < length status → In (get_or status k d) items
    item-at k d l = in-filter (λ (t : RingEdge). is_in_span o (segment_at K t.edge.now)) items (get_or status k d) (is.members k d l)

    span-at : (k : ℕ) (d : RingEdge) → k < length status → is_in_span o (segment_at K (get_or status k d).edge.now) ≡ true
    span-at k d l = in-passes (λ (t : RingEdge). is_in_span o (segment_at K t.edge.now)) items (get_or status k d) (is.members k d l)

    own-span : is_in_span o (segment_at K a) ≡ true
    own-span = sym (spans-at K a a wa wa) ∙ slopes

    e-low : has.place < length status
    e-low = let i = has.inside in omega (arith, i)

    e-item : In e items
    e-item = subst (λ t. In t items) has.is (item-at has.place e e-low)

    e-left : right_of o (segment_at K e.edge.now) (segment_at K a) ≡ true
    e-left = sym (above-at K a e.edge.now a wa (whole-of e e-item) wa) ∙ and-right (spans e.edge.now (lower_end a) && spans a (lower_end a)) (is_lt (just_above_cmp e.edge.now a (lower_end a))) has.left

    not-right : (t : RingEdge) → In t items → is_in_span o (segment_at K t.edge.now) ≡ true → right_of o (segment_at K t.edge.now) (segment_at K a) ≡ true → left_at (lower_end a) t.edge.now a ≡ true
    not-right t it st r =
        and_from (spans t.edge.now (lower_end a) && spans a (lower_end a)) (is_lt (just_above_cmp t.edge.now a (lower_end a)))
        (and_from (spans t.edge.now (lower_end a)) (spans a (lower_end a)) (spans-at K a t.edge.now wa (whole-of t it) ∙ st) slopes) (above-at K a t.edge.now a wa (whole-of t it) wa ∙ r)

    pub stands-next : seg rs are items of (get_or status (has.place + 1) e) ≡ segment_at K a
    stands-next =
        let y = of.whole h hh a ia slopes in
        let same-a : segment_at K y.0.edge.now ≡ segment_at K a = ap (segment_at K) y.2 in
        let at = present (seg rs are items of) o items status is y.0 e y.1 (subst (λ t. is_in_span o t ≡ true) (sym same-a) own-span) in
        let m = at.0 in
        let is-a : segment_at K (get_or status m e).edge.now ≡ segment_at K a = sym at.2 ∙ same-a in
        let self = right_itself o (segment_at K a) in
        ⊎_elim
        (λ (low : m < has.place + 1). ⊎_elim
        (λ (one : m ≡ has.place).
        let q : segment_at K e.edge.now ≡ segment_at K a = ap (λ (t : RingEdge). segment_at K t.edge.now) (sym has.is) ∙ ap (λ k. segment_at K (get_or status k e).edge.now) (sym one) ∙ is-a in
        let r = subst (λ t. right_of o t (segment_at K a) ≡ true) q e-left in absurd (clash (right_of o (segment_at K a) (segment_at K a)) r self))
        (λ (apart : m ≢ has.place).
        let back = is.order m has.place e (omega (arith, low, apart)) e-low in
        let back' = subst (λ t. right_of o t (segment_at K (get_or status has.place e).edge.now) ≡ true) is-a back in
        let back'' = subst (λ (t : RingEdge). right_of o (segment_at K a) (segment_at K t.edge.now) ≡ true) has.is back' in
        let round = right_chain o (segment_at K a) (segment_at K e.edge.now) (segment_at K a) own-span (subst (λ (t : RingEdge). is_in_span o (segment_at K t.edge.now) ≡ true) has.is (span-at has.place e e-low)) own-span back'' e-left in
        absurd (clash (right_of o (segment_at K a) (segment_at K a)) round self))
        (cases_eq m has.place))
        (λ (high : has.place + 1 ≤ m). ⊎_elim
        (λ (one : m ≡ has.place + 1). ap (λ k. segment_at K (get_or status k e).edge.now) (sym one) ∙ is-a)
        (λ (apart : m ≢ has.place + 1).
        let n = get_or status (has.place + 1) e in
        let r = subst (λ t. right_of o (segment_at K n.edge.now) t ≡ true) is-a (is.order (has.place + 1) m e (omega (arith, high, apart)) at.1) in
        absurd (clash (left_at (lower_end a) n.edge.now a) (not-right n (item-at (has.place + 1) e has.inside) (span-at (has.place + 1) e has.inside) r) has.next))
        (cases_eq m (has.place + 1)))
        (cases_lt m (has.place + 1))
