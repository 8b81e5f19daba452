-- One outer ring and all others, in order, are the polygons of a list of which one ring alone is outer.
use Rattle.std.proofs.Common.{Bool, List, None, Option, [], ap, arith, cond, false, get_or, length, map, nat_eq, not, refl, remove, subst, suc, sym, true, zero, ℕ, ◌+◌, ◌<◌, ◌∙◌, ◌∷◌, ◌≡◌, ◌≢◌}
use Rattle.std.specs.Bool.{then_some}
use Rattle.std.specs.List.{filter}
use Rattle.std.specs.Ordering.{is_lt}
use Rattle.std.proofs.lemmas.Bool.{eq-eqb, eqb-true}
use Rattle.std.proofs.lemmas.List.Sorted.{IsPermutation-refl}
use Rattle.osm_geom.specs.declared.edge.Edge.{Edge}
use Rattle.osm_nest.specs.declared.rings_from_least.RingFromLeast.{RingFromLeast}
use Rattle.osm_nest.specs.declared.polygon.Polygon.{Polygon}
use Rattle.osm_nest.specs.Grouped.{ArePlacesSorted, AreStartsSorted, AreTurned, IsGrouping, has_encloser, has_no_encloser, placed_from, polygon_at, polygons_of, polygons_of_all, stands_first, stands_under}
use Rattle.osm_nest.specs.Nested.{edge_cmp}
use Rattle.osm_nest.specs.OneOuter.{IsOnlyOuter, encloser_under, enclosers_under}
use Rattle.osm_nest.specs.RingLists.{AreRings}
use Rattle.osm_nest.proofs.Listing.{placed-at, placed-size, turned-listed}
use Rattle.osm_nest.proofs.OneOuter.{all-direct, at-under}
use Rattle.osm_nest.proofs.Turns.{turns}

not-same : (n only : ℕ) → n ≢ only → (b : Bool) → nat_eq n only ≡ b → b ≡ false
not-same n only apart true e = absurd (apart (eqb-true n only e))
not-same n only apart false e = refl

module _ (only : ℕ) (hs : List (Option ℕ)) where
  -- for so many places from one on the list has what encloses the ring there
  abbrev pub Tells : ℕ → ℕ → Type 0
  Tells n m = (k : ℕ) → k < m → get_or hs (n + k) None ≡ encloser_under only (n + k)

  tells-here : (n m : ℕ) → Tells n (suc m) → get_or hs n None ≡ encloser_under only n
  tells-here n m t = let e : n + 0 ≡ n = omega arith in subst (λ k. get_or hs k None ≡ encloser_under only k) e (t 0 (omega arith))

  tells-rest : (n m : ℕ) → Tells n (suc m) → Tells (suc n) m
  tells-rest n m t k h = let e : n + suc k ≡ suc n + k = omega arith in subst (λ j. get_or hs j None ≡ encloser_under only j) e (t (suc k) (omega arith))

  first-by : (b : Bool) → has_no_encloser (then_some (not b) only) ≡ b
  first-by true = refl
  first-by false = refl

  under-by : (b : Bool) → has_encloser only (then_some (not b) only) ≡ not b
  under-by true = refl
  under-by false = eq-eqb only only refl

  first-told : (n : ℕ) (r : List Edge) (b : Bool) → get_or hs n None ≡ encloser_under only n → nat_eq n only ≡ b → stands_first hs (record { place = n; ring = r }) ≡ b
  first-told n r b t e = ap has_no_encloser t ∙ ap (λ x. has_no_encloser (then_some (not x) only)) e ∙ first-by b

  under-told : (n : ℕ) (r : List Edge) (b : Bool) → get_or hs n None ≡ encloser_under only n → nat_eq n only ≡ b → stands_under hs only (record { place = n; ring = r }) ≡ not b
  under-told n r b t e = ap (has_encloser only) t ∙ ap (λ x. has_encloser only (then_some (not x) only)) e ∙ under-by b

  abbrev ring_of : RingFromLeast → List Edge
  ring_of b = b.ring

  abbrev firsts : ℕ → List (List Edge) → List RingFromLeast
  firsts n xs = filter (stands_first hs) (placed_from n xs)

  abbrev unders : ℕ → List (List Edge) → List (List Edge)
  unders n xs = map ring_of (filter (stands_under hs only) (placed_from n xs))

  first-step : (n : ℕ) (x : List Edge) (xs : List (List Edge)) (b : Bool) → get_or hs n None ≡ encloser_under only n → nat_eq n only ≡ b → firsts n (x ∷ xs) ≡ cond b ((record { place = n; ring = x }) ∷ firsts (suc n) xs) (firsts (suc n) xs)
  first-step n x xs b t e = ap (λ c. cond c ((record { place = n; ring = x }) ∷ firsts (suc n) xs) (firsts (suc n) xs)) (first-told n x b t e)

  under-step : (n : ℕ) (x : List Edge) (xs : List (List Edge)) (b : Bool) → get_or hs n None ≡ encloser_under only n → nat_eq n only ≡ b → unders n (x ∷ xs) ≡ cond b (unders (suc n) xs) (x ∷ unders (suc n) xs)
  under-step n x xs b t e = ap (λ c. map ring_of (cond c ((record { place = n; ring = x }) ∷ filter (stands_under hs only) (placed_from (suc n) xs)) (filter (stands_under hs only) (placed_from (suc n) xs)))) (under-told n x b t e) ∙ by b
    where
      by : (b : Bool) → map ring_of (cond (not b) ((record { place = n; ring = x }) ∷ filter (stands_under hs only) (placed_from (suc n) xs)) (filter (stands_under hs only) (placed_from (suc n) xs))) ≡ cond b (unders (suc n) xs) (x ∷ unders (suc n) xs)
      by true = refl
      by false = refl

  none-first : (xs : List (List Edge)) (n : ℕ) → only < n → Tells n (length xs) → firsts n xs ≡ []
  none-first [] n h t = refl
  none-first (x ∷ xs) n h t =
      first-step n x xs false (tells-here n (length xs) t) (let a : n ≢ only = λ e. absurd (omega arith) in let f = not-same n only a (nat_eq n only) refl in f)
      ∙ none-first xs (suc n) (omega arith) (tells-rest n (length xs) t)

  all-under : (xs : List (List Edge)) (n : ℕ) → only < n → Tells n (length xs) → unders n xs ≡ xs
  all-under [] n h t = refl
  all-under (x ∷ xs) n h t =
      under-step n x xs false (tells-here n (length xs) t) (let a : n ≢ only = λ e. absurd (omega arith) in let f = not-same n only a (nat_eq n only) refl in f)
      ∙ ap (λ ys. x ∷ ys) (all-under xs (suc n) (omega arith) (tells-rest n (length xs) t))

  pub one-first : (xs : List (List Edge)) (n k : ℕ) → n + k ≡ only → k < length xs → Tells n (length xs) → firsts n xs ≡ (record { place = only; ring = get_or xs k [] }) ∷ []
  one-first [] n k e h t = absurd (omega arith)
  one-first (x ∷ xs) n zero e h t =
      let here : n ≡ only = omega arith in
      first-step n x xs true (tells-here n (length xs) t) (eq-eqb n only here)
      ∙ ap (λ bs. (record { place = n; ring = x }) ∷ bs) (none-first xs (suc n) (omega arith) (tells-rest n (length xs) t))
      ∙ ap (λ m. (record { place = m; ring = x }) ∷ []) here
  one-first (x ∷ xs) n (suc k) e h t =
      first-step n x xs false (tells-here n (length xs) t) (let a : n ≢ only = λ q. absurd (omega arith) in let f = not-same n only a (nat_eq n only) refl in f)
      ∙ one-first xs (suc n) k (omega arith) (omega arith) (tells-rest n (length xs) t)

  pub others-under : (xs : List (List Edge)) (n k : ℕ) → n + k ≡ only → k < length xs → Tells n (length xs) → unders n xs ≡ remove xs k
  others-under [] n k e h t = absurd (omega arith)
  others-under (x ∷ xs) n zero e h t =
      let here : n ≡ only = omega arith in
      under-step n x xs true (tells-here n (length xs) t) (eq-eqb n only here)
      ∙ all-under xs (suc n) (omega arith) (tells-rest n (length xs) t)
  others-under (x ∷ xs) n (suc k) e h t =
      under-step n x xs false (tells-here n (length xs) t) (let a : n ≢ only = λ q. absurd (omega arith) in let f = not-same n only a (nat_eq n only) refl in f)
      ∙ ap (λ ys. x ∷ ys) (others-under xs (suc n) k (omega arith) (omega arith) (tells-rest n (length xs) t))

-- those of the one outer ring and all others
pub one-polygon : (only : ℕ) (xs : List (List Edge)) → only < length xs → polygons_of (enclosers_under only 0 (length xs)) (placed_from 0 xs) ≡ polygons_of_all only xs
one-polygon only xs h =
    let hs = enclosers_under only 0 (length xs) in
    let t : Tells only hs 0 (length xs) = λ k l.
    let e : 0 + k ≡ k = omega arith in
    at-under only 0 (length xs) (0 + k) None (omega arith) ∙ ap (encloser_under only) (let f : 0 + (0 + k) ≡ 0 + k = omega arith in f) in
    let zero-on : 0 + only ≡ only = omega arith in
    ap (map (polygon_at hs (placed_from 0 xs))) (one-first only hs xs 0 only zero-on h t)
    ∙ ap (λ (rs : List (List Edge)). (record { outer = get_or xs only []; inners = rs }) ∷ []) (others-under only hs xs 0 only zero-on h t)

-- rings in order are in order with their places
pub places-sorted : (xs : List (List Edge)) → AreStartsSorted xs → ArePlacesSorted (placed_from 0 xs)
places-sorted xs sorted d k z l m =
    let s = placed-size 0 xs in
    let here = ap (λ (b : RingFromLeast). get_or b.ring 0 d) (placed-at 0 xs k z (omega arith)) in
    let next = ap (λ (b : RingFromLeast). get_or b.ring 0 d) (placed-at 0 xs (k + 1) z (omega arith)) in
    subst (λ (e : Edge). is_lt (edge_cmp e (get_or (get_or (placed_from 0 xs) k z).ring 0 d)) ≡ false) (sym next)
    (subst (λ (e : Edge). is_lt (edge_cmp (get_or (get_or xs (k + 1) []) 0 d) e) ≡ false) (sym here) (sorted d k [] l (omega arith)))

pub all-grouping : (rs xs : List (List Edge)) (only : ℕ) → AreRings rs → IsOnlyOuter rs only → AreTurned rs xs → AreStartsSorted xs → (v : List Polygon) → v ≡ polygons_of_all only xs → IsGrouping rs v
all-grouping rs xs only are one turned sorted v made =
    let inside = one.inside in let size = turned.sized in
    record {
      enclosers = enclosers_under only 0 (length xs);
      begun = placed_from 0 xs;
      right = all-direct rs are only one (length xs) size;
      in_turn = turns rs are (placed_from 0 xs) (placed_from 0 xs) (turned-listed rs xs turned) (IsPermutation-refl (placed_from 0 xs)) (places-sorted xs sorted);
      is = made ∙ sym (one-polygon only xs (omega arith));
    }
