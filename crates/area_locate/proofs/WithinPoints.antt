-- Which points lie in a rectangle, of points in order.
use Rattle.std.proofs.Common.{All, Bool, List, [], ap, arith, eq-or-lt_of_le, eqb, false, get_or, length, map, not, refl, subst, sym, take, true, ℕ, ℤ, ⊎_elim, ◌++◌, ◌+◌, ◌<◌, ◌||◌, ◌∙◌, ◌∷◌, ◌≡◌, ◌≤◌}
use lib.Signed.{lt_z}
use Rattle.std.specs.List.{AllWithin, dedup}
use Rattle.std.specs.List.Sorted.{IsPartitionedBy, IsPermutation, IsSorted, IsStrictlyIncreasing}
use Rattle.std.specs.declared.cmp.Ordering.{Ordering}
use Rattle.std.specs.Ordering.{int_cmp, is_lt, nat_cmp, ordering_then}
use Rattle.std.proofs.lemmas.Bool.{cases_lt}
use Rattle.std.proofs.lemmas.Int.{ints}
use Rattle.std.proofs.lemmas.List.{get_or-map, get_or_default, length-map, map_more}
use Rattle.std.proofs.lemmas.List.Elements.{All-nil, All-weaker}
use Rattle.std.proofs.lemmas.List.Filters.{All-dedup}
use Rattle.std.proofs.lemmas.List.Kept.{AllPairs-from_increasing, Contains-dedup_nat}
use Rattle.std.proofs.lemmas.List.Sorted.{All-permutation, Contains-permutation, ranks_by, sorted_far}
use Rattle.std.proofs.lemmas.Map.Keys.{IsStrictlyIncreasing-dedup}
use Rattle.lists.proofs.ListsKit.{some_member}
use Rattle.osm_lattice.specs.declared.loc.Loc.{Loc}
use Rattle.osm_lattice.specs.Loc.{loc_cmp}
use Rattle.osm_lattice.proofs.LatticeKit.{loc_total}
use Rattle.osm_sides.specs.PointPlaces.{HeightsNeverFall}
use Rattle.area_locate.specs.declared.envelope.Envelope.{Envelope}
use Rattle.area_locate.specs.Envelopes.{lacks}
use Rattle.area_locate.specs.Index.{IsFromTo}
use Rattle.area_locate.specs.Within.{AddsWithin, AreAllWithin, IsPlaceWithin}

-- ---- heights
not_lower : (y z : ℤ) (o : Ordering) → is_lt (ordering_then (int_cmp y z) o) ≡ false → lt_z y z ≡ false
not_lower y z o h = grind (arith, ints)

pub below_too : (y z low : ℤ) → lt_z z y ≡ false → lt_z z low ≡ true → lt_z y low ≡ true
below_too y z low h k = grind (arith, ints)

pub at_most_too : (y z high : ℤ) → lt_z z y ≡ false → not (lt_z high z) ≡ true → not (lt_z high y) ≡ true
at_most_too y z high h k = grind (arith, ints)

pub heights_rise : (points : List Loc) → IsSorted loc_cmp points → HeightsNeverFall points
heights_rise points sorted i j d h l =
    not_lower (get_or points j d).y (get_or points i d).y (int_cmp (get_or points j d).x (get_or points i d).x)
    (sorted_far (λ (p q : Loc). is_lt (loc_cmp p q)) (ranks_by loc_total (λ (p : Loc). p)) points sorted i j d h l)

pub low_parts : (points : List Loc) (low : ℤ) → HeightsNeverFall points → IsPartitionedBy (λ (p : Loc). lt_z p.y low) points
low_parts points low rise i j d h l k = below_too (get_or points i d).y (get_or points j d).y low (rise i j d h l) k

pub high_parts : (points : List Loc) (high : ℤ) → HeightsNeverFall points → IsPartitionedBy (λ (p : Loc). not (lt_z high p.y)) points
high_parts points high rise i j d h l k = at_most_too (get_or points i d).y (get_or points j d).y high (rise i j d h l) k

-- ---- points in the rectangle
none_of_four : (a b c d : Bool) → (a || (b || (c || d))) ≡ false → (a ≡ false) × (b ≡ false) × (c ≡ false) × (d ≡ false)
none_of_four true b c d h = absurd (cc h)
none_of_four false true c d h = absurd (cc h)
none_of_four false false true d h = absurd (cc h)
none_of_four false false false true h = absurd (cc h)
none_of_four false false false false h = (refl, refl, refl, refl)

module _ (envelope : Envelope) (points : List Loc) where
  -- it lies beyond none of the four sides
  pub within_sides : (i : ℕ) → IsPlaceWithin envelope points i → (d : Loc) × (lt_z (get_or points i d).x envelope.left ≡ false) × (lt_z envelope.right (get_or points i d).x ≡ false) × (lt_z (get_or points i d).y envelope.low ≡ false) × (lt_z envelope.high (get_or points i d).y ≡ false)
  within_sides i at =
      let inside = at.inside in
      let d = (some_member points (omega (arith, inside))).0 in let p = get_or points i d in
      let sides = none_of_four (lt_z p.x envelope.left) (lt_z envelope.right p.x) (lt_z p.y envelope.low) (lt_z envelope.high p.y) (at.within d) in
      (d, sides.0, sides.1, sides.2, sides.3)

  pub place_within : (i : ℕ) (d : Loc) → i < length points → lacks envelope (get_or points i d) ≡ false → IsPlaceWithin envelope points i
  place_within i d l in_it = record {
    inside = l;
    within = λ e. subst (λ (p : Loc). lacks envelope p ≡ false) (get_or_default points i d e l) in_it;
  }

  pub places_inside : (places : List ℕ) → AreAllWithin envelope points places → All (λ i. i < length points) places
  places_inside places are = All-weaker (IsPlaceWithin envelope points) (λ i. i < length points) (λ i at. at.inside) places are.right

  -- ---- all of them, found among those at the heights of the rectangle
  module _ (from to : ℕ) (low : AllWithin (λ (p : Loc). lt_z p.y envelope.low ≡ true) points 0 from) (high : AllWithin (λ (p : Loc). not (lt_z envelope.high p.y) ≡ false) points to (length points)) where
    at_heights : (i : ℕ) → IsPlaceWithin envelope points i → IsFromTo from to i
    at_heights i at =
        let sides = within_sides i at in let d = sides.0 in (
          ⊎_elim (λ (before : i < from). absurd (cc (sym (low i d (omega arith) before) ∙ sides.3))) (λ (after : from ≤ i). after) (cases_lt i from),
          ⊎_elim (λ (before : i < to). before) (λ (after : to ≤ i). absurd (cc (sym (ap not sides.4) ∙ high i d after at.inside))) (cases_lt i to),
        )

    pub all_within : (found sorted : List ℕ) → AddsWithin envelope points (IsFromTo from to) [] found → IsPermutation found sorted → IsSorted nat_cmp sorted → AreAllWithin envelope points (dedup eqb sorted)
    all_within found sorted adds moved up = record {
      rising = IsStrictlyIncreasing-dedup sorted up;
      right = All-dedup eqb (IsPlaceWithin envelope points) sorted (All-permutation (IsPlaceWithin envelope points) found sorted moved (adds.within (All-nil (IsPlaceWithin envelope points))));
      whole = λ i at. Contains-dedup_nat sorted i (Contains-permutation found sorted i moved (adds.whole i (at_heights i at) at));
    }

-- ---- the points at rising places
pub heights_at : (points : List Loc) (places : List ℕ) (e : Loc) → HeightsNeverFall points → IsStrictlyIncreasing places → All (λ i. i < length points) places → HeightsNeverFall (map (λ i. get_or points i e) places)
heights_at points places e rise up inside i j d h l =
    let f : ℕ → Loc = λ n. get_or points n e in
    let long = length-map places f in
    let p : get_or (map f places) i d ≡ get_or points (get_or places i 0) e = get_or-map f places i 0 d (omega (arith, long, h, l)) in
    let q : get_or (map f places) j d ≡ get_or points (get_or places j 0) e = get_or-map f places j 0 d (omega (arith, long, l)) in
    subst (λ (a : Loc). lt_z (get_or (map f places) j d).y a.y ≡ false) (sym p)
    (subst (λ (b : Loc). lt_z b.y (get_or points (get_or places i 0) e).y ≡ false) (sym q)
    (rise (get_or places i 0) (get_or places j 0) e (in_order i j h (omega (arith, long, l))) (inside j 0 (omega (arith, long, l)))))
  where
    in_order : (i j : ℕ) → i ≤ j → j < length places → get_or places i 0 ≤ get_or places j 0
    in_order i j h l = ⊎_elim
        (λ (same : i ≡ j). let at = ap (λ n. get_or places n 0) same in omega (arith, at))
        (λ (before : i < j). let less = AllPairs-from_increasing places up i j 0 before l in omega (arith, less))
        (eq-or-lt_of_le h)

pub one_point_more : (points : List Loc) (places : List ℕ) (k : ℕ) (d : Loc) (old new : List Loc) (p : Loc) → k < length places → get_or places k 0 < length points → old ≡ map (λ i. get_or points i d) (take k places) → new ≡ old ++ p ∷ [] →
    p ≡ get_or points (get_or places k 0) p → new ≡ map (λ i. get_or points i d) (take (k + 1) places)
one_point_more points places k d old new p l inside was grown at =
    let f : ℕ → Loc = λ i. get_or points i d in
    grown ∙ ap (λ ps. ps ++ p ∷ []) was ∙ ap (λ q. map f (take k places) ++ q ∷ []) (at ∙ get_or_default points (get_or places k 0) p d inside) ∙ sym (map_more f places k 0 l)
