-- The sweep comes to the height of a location: from below, or from that height itself, where nothing changes.
use Rattle.std.proofs.Common.{All, Bool, not, List, [], ap, arith, cond, eq-or-lt_of_le, false, get_or, length, map, refl, subst, sym, take, true, unsigned_abs, ℕ, ℤ, ⊎_elim, ◌+◌, ◌++◌, ◌<◌, ◌∙◌, ◌∷◌, ◌≡◌, ◌≤◌}
use lib.Signed.{lt_z}
use Rattle.std.specs.List.{AllWithin, filter}
use Rattle.std.specs.Prelude.{negsuc}
use Rattle.std.proofs.lemmas.Int.{ints}
use Rattle.std.proofs.lemmas.List.{get_or_default, map_push, take_more}
use Rattle.std.proofs.lemmas.List.Elements.{All-head, All-tail}
use Rattle.plane.specs.Height.{is_in_span}
use Rattle.lists.specs.Rising.{IsRising}
use Rattle.plane_lists.specs.Statuses.Status.{IsStatus}
use Rattle.lists.proofs.ListsKit.{in-passes, not-true-out}
use Rattle.osm_lattice.specs.declared.loc.Loc.{Loc}
use Rattle.osm_lattice.specs.declared.seg.Seg.{Seg}
use Rattle.osm_lattice.specs.Loc.{vector_of}
use Rattle.osm_lattice.specs.Seg.{edge_of, seg_cmp}
use Rattle.osm_segments.specs.Pairs.{conflicts_of}
use Rattle.osm_sides.specs.PointPlaces.{HeightsNeverFall, place_among}
use Rattle.osm_sides.specs.declared.places.Place.{Place}
use Rattle.osm_sides.specs.Sweep.{AreEnds, IsSweptFrom, IsSweptTo, begins_by, ends_above}
use Rattle.osm_sides.proofs.Statuses.{none-swept, risen, whole_row}
use Rattle.osm_sides.proofs.SweptHeights.{begins-later, later-from, span-ends}

all_stay : {X : Type 0} (f : X → Bool) (xs : List X) → All (λ x. f x ≡ true) xs → filter f xs ≡ xs
all_stay f [] all = refl
all_stay f (x ∷ xs) all =
    ap (λ b. cond b (x ∷ filter f xs) (filter f xs)) (All-head (λ x. f x ≡ true) x xs all) ∙ ap (λ ys. x ∷ ys) (all_stay f xs (All-tail (λ x. f x ≡ true) x xs all))

level_height : (y z : ℤ) → lt_z y z ≡ false → lt_z z y ≡ false → z ≡ y
level_height y z h k = grind (arith, ints)

module _ (segs ends status : List Seg) (rising : IsRising seg_cmp segs) (clear : conflicts_of segs ≡ []) (are : AreEnds segs ends) (k next : ℕ) (swept : IsSweptFrom segs ends k next status)
    (at : Loc) (low : lt_z at.y swept.height.y ≡ false) (later : (d : Seg) → k < length segs → begins_by at.y (get_or segs k d) ≡ false)
    (left : ℕ) (new : List Seg) (stay : new ≡ filter (ends_above at.y) status) (ended : AllWithin (λ t. ends_above at.y t ≡ false) ends 0 left) where
  later_all : AllWithin (λ t. begins_by at.y t ≡ false) segs k (length segs)
  later_all j d h l = later-from segs rising at.y k (omega arith) (λ e. later e (omega arith)) j d h l

  higher : lt_z swept.height.y at.y ≡ true → (now : IsSweptFrom segs ends k left new) × (now.height.y ≡ at.y)
  higher up = (
    record {
      height = vector_of at;
      swept = whole_row segs rising clear (vector_of at) k new (λ j d h l. begins-later swept.height.y at.y (get_or segs j d).a.y up (swept.swept.begun j d h l)) later_all
          (subst (λ (xs : List Seg). IsStatus edge_of (vector_of at) (take k segs) xs) (sym stay) (risen segs rising clear ends are k next status swept (vector_of at) up));
      ended = ended;
    },
    refl,
  )

  level : lt_z swept.height.y at.y ≡ false → (now : IsSweptFrom segs ends k left new) × (now.height.y ≡ at.y)
  level flat =
      let same : swept.height.y ≡ at.y = level_height at.y swept.height.y low flat in
      let here : new ≡ status = stay ∙ all_stay (ends_above at.y) status (λ j d h. subst (λ (y : ℤ). ends_above y (get_or status j d) ≡ true) same
      (span-ends swept.height (get_or status j d) (in-passes (λ (t : Seg). is_in_span swept.height (edge_of t)) segs (get_or status j d) (swept.swept.is.members j d h)))) in
      (record { height = swept.height; swept = subst (λ (xs : List Seg). IsSweptTo swept.height segs k xs) (sym here) swept.swept; ended = subst (λ (y : ℤ). AllWithin (λ t. ends_above y t ≡ false) ends 0 left) (sym same) ended }, same)

  pub arrived : (now : IsSweptFrom segs ends k left new) × (now.height.y ≡ at.y)
  arrived = by (lt_z swept.height.y at.y) refl
    where
      by : (b : Bool) → lt_z swept.height.y at.y ≡ b → (now : IsSweptFrom segs ends k left new) × (now.height.y ≡ at.y)
      by true h = higher h
      by false h = level h

-- ---- what the loop's tests say
pub not_lower : (z y : ℤ) → not (lt_z y z) ≡ true → lt_z y z ≡ false
not_lower z y h = not-true-out (lt_z y z) h

-- ---- before the first location, and from one to the next
pub all_above : (segs ends : List Seg) (p : Loc) → lt_z p.y (none-swept segs ends).height.y ≡ false
unfolding none-swept
all_above segs ends p = above p.y p.y_in
  where
    above : (z : ℤ) → unsigned_abs z ≤ 900_000_000 → lt_z z (negsuc 1_000_000_000) ≡ false
    above z h = grind (arith, ints)

pub next_above : (points : List Loc) (j : ℕ) (p d : Loc) (y : ℤ) → HeightsNeverFall points → p ≡ get_or points j p → y ≡ p.y → j + 1 < length points → lt_z (get_or points (j + 1) d).y y ≡ false
next_above points j p d y rise at here inside =
    subst (λ (z : ℤ). lt_z (get_or points (j + 1) d).y z ≡ false) (ap (λ (q : Loc). q.y) (get_or_default points j d p (omega arith) ∙ sym at) ∙ sym here)
    (rise j (j + 1) d (omega arith) inside)

pub one_more_place : (segs : List Seg) (points : List Loc) (j : ℕ) (p : Loc) (old new : List Place) (place : Place) → old ≡ map (λ q. place_among q segs) (take j points) → place ≡ place_among p segs → new ≡ old ++ place ∷ [] →
    p ≡ get_or points j p → j < length points → new ≡ map (λ q. place_among q segs) (take (j + 1) points)
one_more_place segs points j p old new place was is grown at inside =
    let f : Loc → Place = λ q. place_among q segs in
    grown ∙ ap (λ xs. xs ++ place ∷ []) was ∙ ap (λ x. map f (take j points) ++ x ∷ []) (is ∙ ap f at) ∙ sym (ap (map f) (take_more points j p inside) ∙ map_push f (take j points) (get_or points j p))
