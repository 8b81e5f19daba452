-- The order of departures, and the first departure round a point from any direction.
use Rattle.std.proofs.Common.{◌≡◌, ℕ, ◌<◌, ◌≤◌, List, [], ◌∷◌, length, get_or, All, Bool, true, false, not, ◌&&◌, ◌||◌, Bor, IfNone, IfSome, None, Option, Some, pos, refl, sym, ap, subst, ◌∙◌, arith, ◌⊎◌, inl, inr, ⊎_elim}
use Rattle.std.specs.List.{Contains, IsAllAdjacentAnswer}
use Rattle.std.specs.Option.{option_or}
use Rattle.std.specs.Slice.{IsItemAt}
use Rattle.std.specs.Cmp.{IsStrictWeakOrder}
use Rattle.std.specs.List.Sorted.{IsPartitionPoint, IsPartitionedBy, IsSortedBy}
use Rattle.std.specs.declared.cmp.Ordering.{Ordering}
use Rattle.std.specs.declared.cmp.Ordering.TheVariants.{Less, Equal, Greater}
use Rattle.std.specs.Ordering.{is_eq, is_lt, ordering_reverse, ordering_then}
use Rattle.std.proofs.lemmas.Bool.{cases_lt, not-false, not-true, or_parts}
use Rattle.std.proofs.lemmas.Cmp.{on_total, then_total, tied_itself}
use Rattle.std.proofs.lemmas.List.Elements.{All-from_get_or}
use Rattle.std.proofs.lemmas.List.MinMax.{ranks_by}
use Rattle.std.proofs.lemmas.List.Sorted.{sorted_far}
use Rattle.plane.specs.Vector.{IsNonZero, Vector, east}
use Rattle.osm_geom.specs.declared.dir.Dir.{Dir}
use Rattle.osm_geom.specs.Dir.{clockwise_cmp, vector_along}
use Rattle.osm_geom.specs.Edge.{direction_of}
use Rattle.osm_geom.specs.Point.{point_cmp}
use Rattle.osm_geom.proofs.GeometryKit.{point_total, clockwise_total, along-direction}
use Rattle.osm_rings.specs.declared.departure.Departure.{Departure}
use Rattle.osm_rings.specs.Clockwise.{is_met_before}
use Rattle.osm_rings.specs.Departures.{AreClockwise, AreClockwiseRound, AreRising, points_before, stands_before}
use Rattle.osm_rings.proofs.Clockwise.{met-before-is}
use Rattle.osm_rings.proofs.EdgeDirs.{edge-dir}
use Rattle.osm_rings.proofs.TurnedFrom.{met-turned, turned}

east-nonzero : (pos 1 ≡ pos 0) × (pos 0 ≡ pos 0) → ⊥
east-nonzero h = cc

abbrev east_dir : Dir
east_dir = record { dx = pos 1; dy = pos 0; dx_in = omega arith; dy_in = omega arith; nonzero = east-nonzero }

-- ---- the order of departures
order-of : {X : Type 0} (lt test : X → X → Bool) → ((x y : X) → lt x y ≡ test x y) → IsStrictWeakOrder lt → IsStrictWeakOrder test
order-of lt test same o = record {
  one_way = λ x y h. sym (same y x) ∙ o.one_way x y (same x y ∙ h);
  chain = λ x y z h g. sym (same x z) ∙ o.chain x y z (same x y ∙ h) (same y z ∙ g);
}

abbrev pub met_from_east : Dir → Dir → Bool
met_from_east a b = is_met_before east (vector_along a) (vector_along b)

-- two directions compared, from the east
pub turns : (d a b : Dir) (o : Ordering) → o ≡ clockwise_cmp d a b → vector_along d ≡ east → is_lt o ≡ met_from_east a b
turns d a b o h e = ap is_lt h ∙ (met-before-is d a b ∙ ap (λ u. is_met_before u (vector_along a) (vector_along b)) e)

east-order : IsStrictWeakOrder met_from_east
east-order = order-of (λ a b. is_lt (clockwise_cmp east_dir a b)) met_from_east (λ a b. turns east_dir a b (clockwise_cmp east_dir a b) refl refl) (ranks_by (clockwise_total east_dir) (λ (a : Dir). a))

then-lt : (o p : Ordering) (b : Bool) → is_lt p ≡ b → is_lt (ordering_then o p) ≡ (is_lt o || (is_eq o && b))
then-lt Less p b h = refl
then-lt Equal p b h = h
then-lt Greater p b h = refl

-- two points compared, and then two directions
pub compared : (v w : Departure) (o p : Ordering) (d a b : Dir) → o ≡ point_cmp v.edge.now.from w.edge.now.from → p ≡ clockwise_cmp d a b → vector_along d ≡ east → vector_along a ≡ direction_of v.edge.now → vector_along b ≡ direction_of w.edge.now → is_lt (ordering_then o p) ≡ stands_before v w
compared v w o p d a b h k e along_v along_w =
    then-lt o p (points_before v w) (turns d a b p k e ∙ (ap (λ u. is_met_before east u (vector_along b)) along_v ∙ ap (is_met_before east (direction_of v.edge.now)) along_w))
    ∙ ap (λ q. is_lt q || (is_eq q && points_before v w)) h

-- the direction of a departure's edge
abbrev pub dir_of : Departure → Dir
dir_of w = (edge-dir w.edge.now).0

along : (w : Departure) → vector_along (dir_of w) ≡ direction_of w.edge.now
along w = (edge-dir w.edge.now).1

points-before : (v w : Departure) → points_before v w ≡ met_from_east (dir_of v) (dir_of w)
points-before v w = sym (ap (λ u. is_met_before east u (vector_along (dir_of w))) (along v) ∙ ap (is_met_before east (direction_of v.edge.now)) (along w))

pub departures-order : IsStrictWeakOrder stands_before
departures-order = order-of (λ v w. is_lt (ordering_then (point_cmp v.edge.now.from w.edge.now.from) (clockwise_cmp east_dir (dir_of v) (dir_of w)))) stands_before
    (λ v w. compared v w (point_cmp v.edge.now.from w.edge.now.from) (clockwise_cmp east_dir (dir_of v) (dir_of w)) east_dir (dir_of v) (dir_of w) refl refl refl (along v) (along w))
    (ranks_by (then_total (on_total (λ (w : Departure). w.edge.now.from) point_total) (on_total dir_of (clockwise_total east_dir))) (λ (w : Departure). w))

second-no : (p q : Bool) → (p && q) ≡ false → p ≡ true → q ≡ false
second-no true q h e = h
second-no false q h e = absurd (cc)

module _ (ws : List Departure) (sorted : IsSortedBy stands_before ws) where
  parted : (i j : ℕ) (d : Departure) → i ≤ j → j < length ws → let v = get_or ws j d in let w = get_or ws i d in (is_lt (point_cmp v.edge.now.from w.edge.now.from) ≡ false) × ((is_eq (point_cmp v.edge.now.from w.edge.now.from) && points_before v w) ≡ false)
  parted i j d h l = or_parts _ _ (sorted_far stands_before departures-order ws sorted i j d h l)

  pub sorted-rising : AreRising ws
  sorted-rising i j d h l = (parted i j d h l).0

  pub sorted-round : AreClockwiseRound ws
  sorted-round i j d h l same =
      let v = get_or ws j d in let w = get_or ws i d in
      second-no (is_eq (point_cmp v.edge.now.from w.edge.now.from)) (points_before v w) (parted i j d h l).1
      (ap is_eq (ap (point_cmp v.edge.now.from) (sym same) ∙ tied_itself point_total v.edge.now.from))

-- ---- the first departure from a direction: the first that lies after it, or where none does, the first
pub record IsPicked (ws : List Departure) (from : Vector) (r : Option (Bor Departure)) : Type 0 where
  pub none : IfNone r (ws ≡ [])
  pub member : IfSome r (λ w. Contains ws w.now)
  pub first : IfSome r (λ w. All (λ v. is_met_before from (direction_of v.edge.now) (direction_of w.now.edge.now) ≡ false) ws)

empty : (ws : List Departure) → length ws ≤ 0 → ws ≡ []
empty [] h = refl
empty (w ∷ ws) h = absurd (omega arith)

turned-after : (p q before : Bool) → p ≡ false → q ≡ true → turned p q before ≡ false
turned-after p q before h k = ap (λ b. turned b q before) h ∙ ap (λ b. turned false b before) k

turned-same : (p q before : Bool) → p ≡ q → before ≡ false → turned p q before ≡ false
turned-same true true before e h = h
turned-same false false before e h = h
turned-same true false before e h = absurd (cc)
turned-same false true before e h = absurd (cc)

module _ (ws : List Departure) (clockwise : AreClockwise ws) (from : Dir) where
  -- not after the direction
  abbrev pub is_passed : Departure → Bool
  is_passed w = not (is_met_before east (vector_along from) (direction_of w.edge.now))

  pub passed-parts : IsPartitionedBy is_passed ws
  passed-parts i j d h l passed =
      let v = get_or ws j d in let w = get_or ws i d in
      let here : met_from_east from (dir_of v) ≡ false = ap (is_met_before east (vector_along from)) (along v) ∙ not-true _ passed in
      ap not (sym (ap (is_met_before east (vector_along from)) (along w)) ∙ east-order.chain from (dir_of v) (dir_of w) here (sym (points-before v w) ∙ clockwise i j d h l))

  module _ (after : ℕ) (point : IsPartitionPoint (λ w. is_passed w ≡ true) (λ w. is_passed w ≡ false) ws after) where
    passed : (k : ℕ) (d : Departure) → k < length ws → k < after → is_met_before east (vector_along from) (direction_of (get_or ws k d).edge.now) ≡ false
    passed k d h l = not-true _ (point.0 k d (omega arith) l)

    beyond : (k : ℕ) (d : Departure) → k < length ws → after ≤ k → is_met_before east (vector_along from) (direction_of (get_or ws k d).edge.now) ≡ true
    beyond k d h l = not-false _ (point.1 k d l h)

    -- by the order from the east
    from-there : (v w : Departure) → is_met_before (vector_along from) (direction_of v.edge.now) (direction_of w.edge.now) ≡ turned (is_met_before east (vector_along from) (direction_of v.edge.now)) (is_met_before east (vector_along from) (direction_of w.edge.now)) (points_before v w)
    from-there v w = met-turned east (vector_along from) (direction_of v.edge.now) (direction_of w.edge.now) refl (along-direction from) (subst IsNonZero (along v) (along-direction (dir_of v))) (subst IsNonZero (along w) (along-direction (dir_of w)))

    first-after : (j : ℕ) (w : Departure) → j < length ws → w ≡ get_or ws j w → (j ≡ after) ⊎ ((j ≡ 0) × (length ws ≤ after)) → All (λ v. is_met_before (vector_along from) (direction_of v.edge.now) (direction_of w.edge.now) ≡ false) ws
    first-after j w inside is place = All-from_get_or (λ v. is_met_before (vector_along from) (direction_of v.edge.now) (direction_of w.edge.now) ≡ false) ws w (λ k h. from-there (get_or ws k w) w ∙ at k h)
      where
        later : (k : ℕ) → k < length ws → j ≤ k → points_before (get_or ws k w) w ≡ false
        later k h l = subst (λ v. points_before (get_or ws k w) v ≡ false) (sym is) (clockwise j k w l h)

        here : {b : Bool} → is_met_before east (vector_along from) (direction_of (get_or ws j w).edge.now) ≡ b → is_met_before east (vector_along from) (direction_of w.edge.now) ≡ b
        here e = ap (λ (v : Departure). is_met_before east (vector_along from) (direction_of v.edge.now)) is ∙ e

        at : (k : ℕ) → k < length ws → turned (is_met_before east (vector_along from) (direction_of (get_or ws k w).edge.now)) (is_met_before east (vector_along from) (direction_of w.edge.now)) (points_before (get_or ws k w) w) ≡ false
        at k h = ⊎_elim
            (λ own. ⊎_elim
            (λ l. turned-after _ _ _ (passed k w h l) (here (beyond j w inside (omega arith))))
            (λ l. turned-same _ _ _ (beyond k w h l ∙ sym (here (beyond j w inside (omega arith)))) (later k h (omega arith)))
            (cases_lt k after))
            (λ all_passed. turned-same _ _ _ (passed k w h (omega arith) ∙ sym (here (passed j w inside (omega arith)))) (later k h (omega arith)))
            place

    pub picked : (r s : Option (Bor Departure)) → IsItemAt ws after r → IsItemAt ws 0 s → IsPicked ws (vector_along from) (option_or r s)
    picked (Some w) s h k = record { none = tt; member = (after, h.3.0, sym h.1); first = first-after after w.now h.3.0 h.1 (inl refl) }
    picked None (Some w) h k = record { none = tt; member = (0, k.3.0, sym k.1); first = first-after 0 w.now k.3.0 k.1 (inr (refl, h.3)) }
    picked None None h k = record { none = empty ws k.3; member = tt; first = tt }

-- each is in order with the next
pub adjacent-sorted : (ws : List Departure) (r : Bool) → r ≡ true → IsAllAdjacentAnswer (λ v w b. b ≡ not (stands_before w v)) ws r → IsSortedBy stands_before ws
adjacent-sorted ws true h told = λ k d from inside. not-true _ (sym (told k d inside))
adjacent-sorted ws false h told = absurd (cc)

-- a departure from an earlier point belongs before one from a later point
pub told-before : (v w : Departure) → is_lt (point_cmp v.edge.now.from w.edge.now.from) ≡ true → true ≡ not (stands_before w v)
told-before v w = by (point_cmp v.edge.now.from w.edge.now.from) refl
  where
    by : (o : Ordering) → point_cmp v.edge.now.from w.edge.now.from ≡ o → is_lt o ≡ true → true ≡ not (stands_before w v)
    by Less is h = sym (ap (λ o. not (is_lt o || (is_eq o && points_before w v))) (point_total.antisymm w.edge.now.from v.edge.now.from ∙ ap ordering_reverse is))
    by Equal is h = cc
    by Greater is h = cc
