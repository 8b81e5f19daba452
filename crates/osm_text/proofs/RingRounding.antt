-- What is left of a rounded ring are the starts of its edges that don't end where they start.
use Rattle.std.proofs.Common.{◌≡◌, ◌∙◌, ◌<◌, ◌+◌, ◌-◌, ℕ, suc, Bool, true, false, cond, List, [], ◌∷◌, ◌++◌, Some, None, map, take, drop, length, get_or, refl, sym, ap, subst, arith}
use Rattle.std.specs.List.{cons_option, filter_map}
use Rattle.osm_lattice.specs.declared.loc.Loc.{Loc}
use Rattle.osm_lattice.specs.Frac.{rounded}
use Rattle.osm_lattice.proofs.LatticeKit.{loc_from_fields}
use Rattle.osm_geom.specs.declared.edge.Edge.{Edge}
use Rattle.osm_geom.specs.declared.point.Point.{Point}
use Rattle.osm_geom.specs.Point.{IsInWorld, x_of, y_of}
use Rattle.osm_rings.specs.Ring.{IsRing}
use Rattle.osm_text.specs.Rounded.{is_same, location_near, rounded_ring, start_near, unlike}
use Rattle.osm_text.specs.RoundedSteps.{end_near, location_left}

-- one point is next to one location
pub near_same : (p q : Point) (a : IsInWorld p) (b : IsInWorld q) → p ≡ q → location_near p a ≡ location_near q b
near_same p q a b same =
    loc_from_fields (location_near p a) (location_near q b)
    (ap (λ (r : Point). rounded (x_of r).num (x_of r).den) same) (ap (λ (r : Point). rounded (y_of r).num (y_of r).den) same)

-- by the two ends of each edge
by_ends : (es : List Edge) → unlike (map start_near es) (map end_near es) ≡ filter_map location_left es
by_ends [] = refl
by_ends (e ∷ es) = by (is_same (start_near e) (end_near e)) (start_near e) _ _ (by_ends es)
  where
    by : (b : Bool) (p : Loc) (xs ys : List Loc) → xs ≡ ys → cond b xs (p ∷ xs) ≡ cons_option (cond b None (Some p)) ys
    by true p xs ys same = same
    by false p xs ys same = ap (λ (zs : List Loc). p ∷ zs) same

-- each edge ends where the next one starts
abbrev AreChained : List Edge → Type 0
AreChained es = (k : ℕ) (d : Edge) → k + 1 < length es → (get_or es k d).to ≡ (get_or es (k + 1) d).from

later_chained : (e : Edge) (es : List Edge) → AreChained (e ∷ es) → AreChained es
later_chained e es chained k d inside =
    let next : suc k + 1 ≡ suc (k + 1) = omega arith in
    subst (λ (m : ℕ). (get_or es k d).to ≡ (get_or (e ∷ es) m d).from) next (chained (suc k) d (omega arith))

-- so the ends are the starts behind the first one, and the end of the last
ends_are : (e : Edge) (es : List Edge) (last : Loc) → AreChained (e ∷ es) → ((d : Edge) → end_near (get_or (e ∷ es) (length es) d) ≡ last)
    → map end_near (e ∷ es) ≡ map start_near es ++ last ∷ []
ends_are e [] last chained ends = ap (λ (p : Loc). p ∷ []) (ends e)
ends_are e (f ∷ es) last chained ends =
    let first : end_near e ≡ start_near f = near_same e.to f.from e.to_in f.from_in (chained 0 e (omega arith)) in
    let later = ends_are f es last (later_chained e (f ∷ es) chained) (λ d. ends d) in
    (λ i. first i ∷ later i)

next_are : (es : List Edge) → IsRing es → drop 1 (map start_near es) ++ take 1 (map start_near es) ≡ map end_near es
next_are [] ring = refl
next_are (e ∷ es) ring =
    sym (ends_are e es (start_near e) ring.chained
    (λ d. let n : length (e ∷ es) - 1 ≡ length es = omega arith in
    near_same (get_or (e ∷ es) (length es) d).to e.from _ _ (subst (λ (m : ℕ). (get_or (e ∷ es) m d).to ≡ e.from) n (ring.closed d))))

pub rounded_ring_is : (es : List Edge) → IsRing es → filter_map location_left es ≡ rounded_ring es
rounded_ring_is es ring = sym (by_ends es) ∙ ap (unlike (map start_near es)) (sym (next_are es ring))
