-- What is printed of a polygon covers a point whose unit square the polygon doesn't meet exactly where the polygon does.
use Rattle.std.proofs.Common.{Bool, List, [], ap, arith, cond, false, filter, inl, inr, length, map, nat_lt, not, pos, refl, sym, true, ℕ, ℤ, ◌%◌, ◌+◌, ◌<◌, ◌==◌, ◌∙◌, ◌∷◌, ◌≡◌, ◌≤◌}
use borrow.Author.Differences.{ints}
use Rattle.std.specs.List.{count_by}
use Rattle.std.proofs.lemmas.Bool.Decides.{nat_tests}
use Rattle.lists.specs.Member.{In}
use Rattle.lists.proofs.ListsKit.{count_by-cons, total-is}
use Rattle.plane_lists.specs.Rings.Polygon.{Polygon, polygon_edges}
use Rattle.osm_geom.specs.declared.edge.Edge.{Edge}
use Rattle.osm_lattice.specs.declared.loc.Loc.{Loc}
use Rattle.osm_text.specs.Rounded.{has_vanished, rounded_ring}
use Rattle.plane.specs.Bit.{bit}
use Rattle.plane.specs.Edge as plane
use Rattle.plane.specs.Scale.{scaled_point}
use Rattle.plane.specs.Sign.{Plus, sign}
use Rattle.plane.specs.Vector.{Vector, east, from_to}
use Rattle.plane.proofs.PlaneKit.{down_seen, up_seen}
use Rattle.osm_geom.specs.InPlane.Multiple.{IsWholeAt, edges_times}
use Rattle.plane_lists.specs.Valid.Valid as valid
use Rattle.plane_lists.specs.Valid.Valid.{IsOffRings, LiesByRings, holes_round}
use Rattle.plane_lists.specs.Lists.EdgeList.{crossing_count, down_count, up_count, winding_number}
use Rattle.plane_lists.specs.Lists.Parity.{is_even}
use Rattle.plane_lists.specs.Lists.Ring as winding
use Rattle.plane_lists.specs.Lists.ScaledEdges.{scaled_edges}
use Rattle.plane_lists.proofs.WindingKit.{count-is, even-is}
use Rattle.one_output.specs.RoundedPieces.Near.{AreBeyondHalf}
use Rattle.one_output.specs.RoundedPieces.Printed.{edges_round, printed_has_inside, rings_cover}
use Rattle.one_output.proofs.RoundedPieces.FewLocations.{few-even}
use Rattle.one_output.proofs.RoundedPieces.RoundedRings.{ring-odd}

-- ---- parity and winding number
counts-as : (p : Vector) (es : List plane.Edge) (n : ℕ) → winding_number east p es ≡ pos n → crossing_count east p es % 2 ≡ n % 2
counts-as p es n h =
    let c = count-is east (from_to p) es in let a = total-is (up_seen east (from_to p)) es in let b = total-is (down_seen east (from_to p)) es in
    let u : up_count east p es ≡ down_count east p es + n = omega (arith, ints) in omega (arith, c, a, b, u)

-- ---- rings
pub less-out : (n m : ℕ) → nat_lt n m ≡ true → n < m
less-out n m h = grind (arith, nat_tests, h)

module _ (k : ℕ) (some : 1 ≤ k) (q : ℤ) (plus : sign q ≡ Plus) (p : Vector) where
  abbrev P : Vector
  P = scaled_point (pos k) p

  -- a ring of the plane that is multiplied by k, and doesn't meet the unit square round p
  pub record IsFarRing (ring : List Edge) : Type 0 where
    pub whole : (e : Edge) → In e ring → IsWholeAt k e
    pub closed : winding.IsRing (edges_times k ring)
    pub far : AreBeyondHalf k q p ring

  abbrev pub AreFar : List (List Edge) → Type 0
  AreFar rings = (ring : List Edge) → In ring rings → IsFarRing ring

  abbrev exact_inside : List Edge → Bool
  exact_inside ring = valid.has_inside q P (edges_times k ring)

  inside-alike : (ring : List Edge) → IsFarRing ring → printed_has_inside q p (rounded_ring ring) ≡ exact_inside ring
  inside-alike ring is = ap (λ r. not (r == 0)) (ring-odd k some ring is.whole is.closed q plus p is.far)

  vanished-out : (ring : List Edge) → has_vanished ring ≡ true → printed_has_inside q p (rounded_ring ring) ≡ false
  vanished-out ring v =
      ap not (even-is (crossing_count east p (scaled_edges q (edges_round (rounded_ring ring)))) (few-even q p (rounded_ring ring) (less-out (length (rounded_ring ring)) 3 v)))

  -- ---- the holes that are left
  abbrev left : List (List Edge) → List (List Loc)
  left rings = map rounded_ring (filter (λ (ring : List Edge). not (has_vanished ring)) rings)

  abbrev exact_count : List (List Edge) → ℕ
  exact_count rings = count_by (valid.has_inside q P) (map (edges_times k) rings)

  left-by : (v : Bool) (ring : List Edge) (more : List (List Edge)) → (v ≡ true → printed_has_inside q p (rounded_ring ring) ≡ false) →
      count_by (printed_has_inside q p) (map rounded_ring (cond (not v) (ring ∷ more) more)) ≡ bit (printed_has_inside q p (rounded_ring ring)) + count_by (printed_has_inside q p) (map rounded_ring more)
  left-by true ring more out = let none = ap bit (out refl) in omega arith
  left-by false ring more out = count_by-cons (printed_has_inside q p) (rounded_ring ring) (map rounded_ring more)

  left-count : (rings : List (List Edge)) → AreFar rings → count_by (printed_has_inside q p) (left rings) ≡ exact_count rings
  left-count [] far = refl
  left-count (ring ∷ rings) far =
      let a = left-by (has_vanished ring) ring (filter (λ (r : List Edge). not (has_vanished r)) rings) (vanished-out ring) in
      let b = left-count rings (λ r i. far r (inr i)) in
      let c = count_by-cons (valid.has_inside q P) (edges_times k ring) (map (edges_times k) rings) in
      let d = ap bit (inside-alike ring (far ring (inl refl))) in omega (arith, a, b, c, d)

  -- ---- the polygon
  module _ (outer : List Edge) (inners : List (List Edge)) (far : AreFar (outer ∷ inners)) where
    abbrev G : Polygon
    G = record { outer = edges_times k outer; inner = map (edges_times k) inners }

    abbrev exact : ℕ
    exact = crossing_count east P (scaled_edges q (polygon_edges G))

    abbrev count : List (List Loc) → ℕ
    count rings = count_by (printed_has_inside q p) rings

    outer-alike : printed_has_inside q p (rounded_ring outer) ≡ exact_inside outer
    outer-alike = inside-alike outer (far outer (inl refl))

    whole-count : count (rounded_ring outer ∷ left inners) ≡ bit (exact_inside outer) + exact_count inners
    whole-count =
        let a = count_by-cons (printed_has_inside q p) (rounded_ring outer) (left inners) in let b = ap bit outer-alike in
        let c = left-count inners (λ r i. far r (inr i)) in omega (arith, a, b, c)

    count-by : LiesByRings q P G → (v : Bool) → has_vanished outer ≡ v → count (cond v [] (rounded_ring outer ∷ left inners)) % 2 ≡ exact % 2
    count-by (inl h) false e =
        let a = whole-count in let b = ap bit h.1 in let c = h.2 in let d = counts-as P (scaled_edges q (polygon_edges G)) 1 h.0.once in omega (arith, a, b, c, d)
    count-by (inl h) true e = let a = vanished-out outer e in let b = outer-alike in absurd (cc (sym a ∙ b ∙ h.1))
    count-by (inr h) false e =
        let a = whole-count in let c = h.1 in let d = counts-as P (scaled_edges q (polygon_edges G)) 0 h.0.none in omega (arith, a, c, d)
    count-by (inr h) true e = let d = counts-as P (scaled_edges q (polygon_edges G)) 0 h.0.none in omega (arith, d)

    pub polygon-alike : LiesByRings q P G → rings_cover q p (cond (has_vanished outer) [] (rounded_ring outer ∷ left inners)) ≡ not (is_even exact)
    polygon-alike h = ap (λ r. not (r == 0)) (count-by h (has_vanished outer) refl)
