-- Each ring list has its polygons in order: enclosers, rings begun at their least nodes, and a sorted order of them exist.
use Rattle.std.proofs.Common.{All, Bool, List, None, Option, Some, [], ap, arith, drop, false, get_or, inl, inr, length, map, refl, subst, suc, sym, take, true, zero, ℕ, ◌+◌, ◌++◌, ◌<◌, ◌∙◌, ◌∷◌, ◌≡◌, ◌≢◌, ◌≤◌}
use Rattle.std.specs.Cmp.{IsStrictWeakOrder}
use Rattle.std.specs.List.Sorted.{IsPermutation, IsSortedBy}
use Rattle.std.specs.Ordering.{is_lt}
use Rattle.std.specs.declared.cmp.Ordering.{Ordering}
use Rattle.std.specs.declared.cmp.Ordering.TheVariants.{Equal, Greater, Less}
use Rattle.std.proofs.lemmas.List.{get_or-map, get_or_default, length-map, take-append-drop}
use Rattle.std.proofs.lemmas.List.Sorted.{IsPermutation-append_comm, IsPermutation-append_left, IsPermutation-cons, IsPermutation-refl, IsPermutation-trans}
use Rattle.plane_lists.specs.Rings.Nesting.{EnclosesDirectly, IsInnerRing}
use Rattle.plane_lists.proofs.NestingKit.{encloser_exists, is_outer_by, outer-in, rings-anchors, rings-tell}
use Rattle.plane.specs.Edge as plane
use Rattle.plane_lists.specs.Lists.Ring.{segments_of}
use Rattle.lists.proofs.ListsKit.{in-at, in-map}
use Rattle.osm_geom.specs.declared.edge.Edge.{Edge}
use Rattle.osm_geom.specs.Point.{point_cmp}
use Rattle.osm_geom.specs.InPlane.Multiple.{edge_times, edges_times, product_of_denominators}
use Rattle.osm_nest.specs.declared.rings_from_least.RingFromLeast.{RingFromLeast}
use Rattle.osm_nest.specs.declared.polygon.Polygon.{Polygon}
use Rattle.osm_nest.specs.Grouped.{AreSortedFromLeast, AreListed, IsFromLeastAt, polygons_of}
use Rattle.osm_nest.specs.Enclosers.{AreDirectEnclosers, IsDirectEncloser, segments_at}
use Rattle.osm_nest.specs.Nested.{AreNested, IsFromLeast, edge_cmp}
use Rattle.osm_nest.specs.RingLists.{AreRings, all_edges, whole_rings}
use Rattle.osm_nest.proofs.GroupedRings.{nested}
use Rattle.osm_nest.proofs.Places.{ring-at, stand}
use Rattle.osm_nest.proofs.Turns.{begun-some, first-ranks, turns}
use Rattle.osm_rings.specs.LeastStart.{IsLesserStart}
use Rattle.osm_rings.proofs.LeastStarts.{IsLeastUpTo, least-more, least-start}
use Rattle.osm_rings.proofs.TurnedRings.{turned-least}

-- ---- lists chosen place by place
chosen : {X : Type 0} (P : ℕ → X → Type 0) (n : ℕ) → ((k : ℕ) → k < n → (x : X) × P k x) → (xs : List X) × (length xs ≡ n) × ((k : ℕ) (d : X) → k < n → P k (get_or xs k d))
chosen P zero h = ([], refl, λ k d l. absurd (omega arith))
chosen {X} P (suc n) h =
    let first = h 0 (omega arith) in
    let rest = chosen (λ k x. P (suc k) x) n (λ k l. h (suc k) (omega arith)) in
    (first.0 ∷ rest.0, ap (λ m. suc m) rest.1, each first.0 rest.0 first.1 rest.2)
  where
    each : (x : X) (xs : List X) → P 0 x → ((k : ℕ) (d : X) → k < n → P (suc k) (get_or xs k d)) → (k : ℕ) (d : X) → k < suc n → P k (get_or (x ∷ xs) k d)
    each x xs p ps zero d l = p
    each x xs p ps (suc k) d l = ps k d (omega arith)

-- ---- a sorted order
module _ (lt : RingFromLeast → RingFromLeast → Bool) (order : IsStrictWeakOrder lt) where
  abbrev put_by : Bool → RingFromLeast → RingFromLeast → List RingFromLeast → List RingFromLeast → List RingFromLeast
  put_by true b c cs more = c ∷ more
  put_by false b c cs more = b ∷ c ∷ cs

  -- b put before the first that isn't less
  abbrev put_in : RingFromLeast → List RingFromLeast → List RingFromLeast
  put_in b [] = b ∷ []
  put_in b (c ∷ cs) = put_by (lt c b) b c cs (put_in b cs)

  abbrev sorted : List RingFromLeast → List RingFromLeast
  sorted [] = []
  sorted (b ∷ bs) = put_in b (sorted bs)

  put-moves : (t : Bool) (b c : RingFromLeast) (cs more : List RingFromLeast) → IsPermutation (b ∷ cs) more → IsPermutation (b ∷ c ∷ cs) (put_by t b c cs more)
  put-moves true b c cs more h =
      IsPermutation-trans (b ∷ c ∷ cs) (c ∷ b ∷ cs) (c ∷ more) (IsPermutation-append_left cs (b ∷ c ∷ []) (c ∷ b ∷ []) (IsPermutation-append_comm (b ∷ []) (c ∷ []))) (IsPermutation-cons c (b ∷ cs) more h)
  put-moves false b c cs more h = IsPermutation-refl (b ∷ c ∷ cs)

  put-in-moves : (b : RingFromLeast) (cs : List RingFromLeast) → IsPermutation (b ∷ cs) (put_in b cs)
  put-in-moves b [] = IsPermutation-refl (b ∷ [])
  put-in-moves b (c ∷ cs) = put-moves (lt c b) b c cs (put_in b cs) (put-in-moves b cs)

  sorted-moves : (bs : List RingFromLeast) → IsPermutation bs (sorted bs)
  sorted-moves [] = IsPermutation-refl []
  sorted-moves (b ∷ bs) = IsPermutation-trans (b ∷ bs) (b ∷ sorted bs) (put_in b (sorted bs)) (IsPermutation-cons b bs (sorted bs) (sorted-moves bs)) (put-in-moves b (sorted bs))

  -- the first of a list isn't less than b
  abbrev Heads : RingFromLeast → List RingFromLeast → Type 0
  Heads b [] = Unit {0}
  Heads b (c ∷ cs) = lt c b ≡ false

  abbrev Rises : List RingFromLeast → Type 0
  Rises [] = Unit {0}
  Rises (b ∷ bs) = Heads b bs × Rises bs

  put-heads : (a b : RingFromLeast) (cs : List RingFromLeast) → lt b a ≡ false → Heads a cs → Heads a (put_in b cs)
  put-heads a b [] h k = h
  put-heads a b (c ∷ cs) h k = by (lt c b)
    where
      by : (t : Bool) → Heads a (put_by t b c cs (put_in b cs))
      by true = k
      by false = h

  put-up : (b c : RingFromLeast) (cs : List RingFromLeast) (t : Bool) → lt c b ≡ t → Rises (c ∷ cs) → Rises (put_in b cs) → Rises (put_by t b c cs (put_in b cs))
  put-up b c cs true e h more = (put-heads c b cs (order.one_way c b e) h.0, more)
  put-up b c cs false e h more = (e, h)

  put-rises : (b : RingFromLeast) (cs : List RingFromLeast) → Rises cs → Rises (put_in b cs)
  put-rises b [] h = (tt, tt)
  put-rises b (c ∷ cs) h = put-up b c cs (lt c b) refl h (put-rises b cs h.1)

  sorted-rises : (bs : List RingFromLeast) → Rises (sorted bs)
  sorted-rises [] = tt
  sorted-rises (b ∷ bs) = put-rises b (sorted bs) (sorted-rises bs)

  rises-sorted : (bs : List RingFromLeast) → Rises bs → IsSortedBy lt bs
  rises-sorted [] h = λ k d l m. absurd (omega arith)
  rises-sorted (b ∷ bs) h = by bs h.0 (rises-sorted bs h.1)
    where
      by : (bs : List RingFromLeast) → Heads b bs → IsSortedBy lt bs → IsSortedBy lt (b ∷ bs)
      by [] h up k d l m = absurd (omega arith)
      by (c ∷ cs) h up zero d l m = h
      by (c ∷ cs) h up (suc k) d l m =
          let one : suc k + 1 ≡ suc (k + 1) = omega arith in
          subst (λ n. lt (get_or (b ∷ c ∷ cs) n d) (get_or (c ∷ cs) k d) ≡ false) (sym one) (up k d (omega arith) (omega arith))

  sorted-order : (bs : List RingFromLeast) → IsSortedBy lt (sorted bs)
  sorted-order bs = rises-sorted (sorted bs) (sorted-rises bs)

-- ---- a ring begun at its least node
first-of : (es : List Edge) → 0 < length es → (e : Edge) × ((d : Edge) → get_or es 0 d ≡ e)
first-of [] h = absurd (omega arith)
first-of (e ∷ es) h = (e, λ d. refl)

lesser-by : (es : List Edge) (i n : ℕ) (e f : Edge) → ((d : Edge) → get_or es i d ≡ e) → ((d : Edge) → get_or es n d ≡ f) → (o : Ordering) → point_cmp f.from e.from ≡ o → (j : ℕ) × IsLesserStart es i n j
lesser-by es i n e f at_i at_n o is = by o is
  where
    same : (d : Edge) → point_cmp (get_or es n d).from (get_or es i d).from ≡ point_cmp f.from e.from
    same d = ap (λ (x : Edge). point_cmp x.from (get_or es i d).from) (at_n d) ∙ ap (λ (x : Edge). point_cmp f.from x.from) (at_i d)

    by : (o : Ordering) → point_cmp f.from e.from ≡ o → (j : ℕ) × IsLesserStart es i n j
    by Less is = (n, inl (refl, λ d. same d ∙ is))
    by Equal is = (i, inr (refl, λ d less. absurd (cc (sym less ∙ (same d ∙ is)))))
    by Greater is = (i, inr (refl, λ d less. absurd (cc (sym less ∙ (same d ∙ is)))))

least-up-to : (es : List Edge) → 0 < length es → (n : ℕ) → n ≤ length es → (i : ℕ) × IsLeastUpTo es n i
least-up-to es some zero h = (0, least-start es some)
least-up-to es some (suc n) h =
    let before = least-up-to es some n (omega arith) in
    let d = (first-of es some).0 in
    let e = get_or es before.0 d in let f = get_or es n d in
    let next = lesser-by es before.0 n e f (λ x. get_or_default es before.0 x d before.1.inside) (λ x. get_or_default es n x d (omega arith)) (point_cmp f.from e.from) refl in
    let one : n + 1 ≡ suc n = omega arith in
    (next.0, subst (λ m. IsLeastUpTo es m next.0) one (least-more es n before.0 next.0 (omega arith) before.1 next.1))

begun-of : (es : List Edge) → 0 < length es → (r : List Edge) × IsFromLeast es r
begun-of es some =
    let n = least-up-to es some (length es) (omega arith) in
    let least : All (λ e. point_cmp e.from (get_or es n.0 e).from ≢ Less) es = λ k d l.
    let x = get_or es k d in
    subst (λ (e : Edge). point_cmp e.from (get_or es n.0 x).from ≢ Less) (get_or_default es k x d l) (n.1.least_of k x l) in (
      drop n.0 es ++ take n.0 es,
      record {
        turned = record { front = take n.0 es; back = drop n.0 es; old = sym (take-append-drop n.0 es); new = refl };
        least = turned-least es n.0 n.1.inside least;
      },
    )

begun-at : (es : List Edge) (place : ℕ) → 0 < length es → (b : RingFromLeast) × IsFromLeastAt es place b
begun-at es place some = let r = begun-of es some in (record { place = place; ring = r.0 }, record { here = refl; turned = r.1 })

-- ---- enclosers
module _ (rs : List (List Edge)) (are : AreRings rs) where
  abbrev k : ℕ
  k = product_of_denominators (all_edges rs)

  abbrev gs : List (List plane.Edge)
  gs = whole_rings rs

  inner-in : (n : ℕ) → n < length rs → is_outer_by gs are.ring_list (segments_at rs n) ≡ false → IsInnerRing (map segments_of gs) (segments_at rs n)
  inner-in n h e =
      let i = in-map segments_of gs (get_or gs n []) (ring-at rs n h) in
      let a = rings-anchors gs are.ring_list (segments_at rs n) i in
      record { anchor = a.0; anchors = a.1; up = sym (rings-tell gs are.ring_list (segments_at rs n) i a.0 a.1) ∙ e }

  encloser-by : (n : ℕ) → n < length rs → (b : Bool) → is_outer_by gs are.ring_list (segments_at rs n) ≡ b → (o : Option ℕ) × IsDirectEncloser rs n o
  encloser-by n h true e = (None, outer-in gs are.ring_list (segments_at rs n) (in-map segments_of gs (get_or gs n []) (ring-at rs n h)) e)
  encloser-by n h false e =
      let o = inner-in n h e in
      let r = encloser_exists gs are.ring_list (get_or gs n []) (ring-at rs n h) o in
      let p = in-at r.0 gs r.1 in
      let s = length-map rs (edges_times k) in
      (Some p.0, (omega arith, o, subst (λ g. EnclosesDirectly (map segments_of gs) (segments_of g) (segments_at rs n)) (sym (p.2 [])) r.2))

  enclosers-exist : (enclosers : List (Option ℕ)) × AreDirectEnclosers rs enclosers
  enclosers-exist =
      let c = chosen (λ n o. IsDirectEncloser rs n o) (length rs) (λ n h. encloser-by n h (is_outer_by gs are.ring_list (segments_at rs n)) refl) in
      (c.0, record { sized = c.1; right = λ n h. c.2 n None h })

  -- ---- begun rings, in order
  some-edge : (n : ℕ) → n < length rs → 0 < length (get_or rs n [])
  some-edge n h =
      let a = are.ring_list.long (get_or gs n []) (ring-at rs n h) in
      let b = ap length (get_or-map (edges_times k) rs n [] [] h) in
      let c = length-map (get_or rs n []) (edge_times k) in omega arith

  listed-exists : (listed : List RingFromLeast) × AreListed rs (length rs) listed
  listed-exists =
      let c = chosen (λ n b. IsFromLeastAt (get_or rs n []) n b) (length rs) (λ n h. begun-at (get_or rs n []) n (some-edge n h)) in
      (c.0, record { sized = c.1; each = c.2 })

  abbrev before : Edge → RingFromLeast → RingFromLeast → Bool
  before d b c = is_lt (edge_cmp (get_or b.ring 0 d) (get_or c.ring 0 d))

  turn-by : (listed : List RingFromLeast) → AreListed rs (length rs) listed → (bs : List RingFromLeast) × AreSortedFromLeast rs bs
  turn-by [] all = ([], turns rs are [] [] all (IsPermutation-refl []) (λ d k x l m. absurd (omega arith)))
  turn-by (b ∷ bs) all =
      let size = all.sized in
      let e = (first-of b.ring (begun-some rs are 0 b (omega arith) (all.each 0 b (omega arith)))).0 in
      let order = first-ranks e in
      let moved = sorted-moves (before e) order (b ∷ bs) in
      let made = sorted (before e) order (b ∷ bs) in
      let same = λ (k : ℕ) (d : Edge) (z : RingFromLeast) (l : k < length made).
      let at = stand rs (b ∷ bs) made all moved k z l in
      get_or_default (get_or made k z).ring 0 e d (begun-some rs are (get_or made k z).place (get_or made k z) at.0 at.1) in (
        made,
        turns rs are (b ∷ bs) made all moved (λ d k z l m.
            subst (λ (x : Edge). is_lt (edge_cmp x (get_or (get_or made k z).ring 0 d)) ≡ false) (same (k + 1) d z (omega arith))
            (subst (λ (x : Edge). is_lt (edge_cmp (get_or (get_or made (k + 1) z).ring 0 e) x) ≡ false) (same k d z (omega arith))
            (sorted-order (before e) order (b ∷ bs) k z l m))),
      )

  turn-exists : (bs : List RingFromLeast) × AreSortedFromLeast rs bs
  turn-exists = let l = listed-exists in turn-by l.0 l.1

  pub nesting_exists : (ps : List Polygon) × AreNested rs ps
  nesting_exists = let h = enclosers-exist in let t = turn-exists in (polygons_of h.0 t.0, nested rs are h.0 h.1 t.0 t.1)
