-- The edge that is met first of those that leave a point.
use Rattle.std.proofs.Common.{◌≡◌, ℕ, ◌+◌, ◌<◌, List, [], ◌∷◌, ◌++◌, length, get_or, All, false, Option, Some, None, sym, ap, subst, ◌∙◌, arith, ⊎_elim}
use Rattle.std.specs.List.{Contains}
use Rattle.std.proofs.lemmas.Bool.{cases_lt}
use Rattle.std.proofs.lemmas.List.{get_or_append_left}
use Rattle.std.proofs.Math.Seq.{get_or-append_seam}
use Rattle.std.proofs.lemmas.List.Elements.{All-contains}
use Rattle.plane.specs.Edge.{Edge}
use Rattle.plane.specs.Vector.{Vector, from_to}
use Rattle.orbits.specs.Orbits.{after}
use Rattle.osm_geom.specs.declared.edge.Edge as geom
use Rattle.osm_geom.specs.Edge.{direction_of, opposite}
use Rattle.osm_geom.specs.InPlane.Multiple.{IsWholeAt, edge_times, point_times, product_of_denominators, whole_edges}
use Rattle.osm_geom.specs.InPlane.OneDirection.{HaveOneDirection}
use Rattle.osm_geom.proofs.EdgesKit.{back_along, same_is_same}
use Rattle.lists.specs.Member.{In}
use Rattle.osm_rings.specs.declared.departure.Departure.{Departure}
use Rattle.osm_rings.specs.Clockwise.{is_met_before}
use Rattle.osm_rings.specs.Numbered.{edge_at}
use Rattle.osm_rings.specs.Departures.{AreFrom, AreDepartures, IsFirstFrom, IsFirstMet, IsDepartureOf, direction_at, start_at, step_at}
use Rattle.osm_rings.proofs.Clockwise.{met-along}
use Rattle.osm_rings.proofs.Multiplied.{pick, read-edge, size, departure-along, whole-at, whole-in}
use Rattle.osm_rings.proofs.Starts.{same-some, start-at}

-- ---- the first of those that leave the end of an edge
module _ (es : List geom.Edge) (ws : List Departure) (are : AreDepartures es ws) (e : geom.Edge) (in_e : In e es) (back : Vector) (turned : back ≡ opposite (direction_of e)) (vs : List Departure) (from : AreFrom ws e.to vs) where
  abbrev m : ℕ
  m = product_of_denominators es

  abbrev xs : List Edge
  xs = whole_edges es

  we : IsWholeAt m e
  we = whole-in es e in_e

  back-departure : HaveOneDirection (from_to (point_times m e.to) (point_times m e.from)) back
  back-departure = subst (HaveOneDirection (from_to (point_times m e.to) (point_times m e.from))) (sym turned) (back_along m e we)

  -- the departure of an edge that leaves the end is among these
  listed : (k : ℕ) → k < length es → (edge_at xs k).from ≡ point_times m e.to → (w : Departure) × Contains vs w × (w.place ≡ k) × (direction_of w.edge.now ≡ direction_at es k)
  listed k h leaves =
      let d = pick es (omega arith) in
      let f = get_or es k d in
      let wf = whole-at es k d h in
      let same : f.from ≡ e.to = same_is_same m f.from e.to we.some wf.first we.second (sym (ap (λ x. x.from) (read-edge m es k d h)) ∙ leaves) in
      let found = are.whole k h in
      let w = found.0 in
      let right : IsDepartureOf es w = All-contains (IsDepartureOf es) ws w are.right found.1 in
      let here : w.edge.now.from ≡ e.to = same-some w.edge.now.from e.to (sym right.from ∙ (ap (start_at es) found.2 ∙ (start-at es k d h ∙ ap Some same))) in
      (w, from.whole w found.1 here, found.2, right.along ∙ ap (direction_at es) found.2)

  pub met-none : vs ≡ [] → IsFirstMet xs (edge_times m e) None
  met-none none = record {
    some = λ j is. absurd (cc);
    none = λ is k h leaves.
        let long = size es in
        let at = subst (λ us. Contains us (listed k (omega arith) leaves).0) none (listed k (omega arith) leaves).1 in
        let l = at.1 in absurd (omega arith);
  }

  pub met-some : (w : Departure) → Contains vs w → All (λ v. is_met_before back (direction_of v.edge.now) (direction_of w.edge.now) ≡ false) vs → IsFirstMet xs (edge_times m e) (Some w.place)
  met-some w member first = record {
    some = λ i is. subst (IsFirstFrom xs (edge_times m e)) (unwrap w.place i is) (record {
      inside = let long = size es in let l = right.inside in omega arith;
      leaves = leaves;
      first = λ k h out.
          let long = size es in
          let fits : k < length es = omega arith in
          let v = listed k fits out in
          let before : is_met_before back (direction_of v.0.edge.now) (direction_of w.edge.now) ≡ false = All-contains (λ u. is_met_before back (direction_of u.edge.now) (direction_of w.edge.now) ≡ false) vs v.0 first v.1 in
          met-along (from_to (point_times m e.to) (point_times m e.from)) (step_at xs k) (step_at xs w.place) back (direction_at es k) (direction_at es w.place) back-departure (departure-along es k fits) (departure-along es w.place right.inside)
          ∙ (ap (λ u. is_met_before back u (direction_at es w.place)) (sym v.3) ∙ (ap (is_met_before back (direction_of v.0.edge.now)) (sym right.along) ∙ before));
    });
    none = λ is. absurd (cc);
  }
    where
      unwrap : (x y : ℕ) → Some x ≡ Some y → x ≡ y
      unwrap x y q = cc

      found : Contains ws w × (w.edge.now.from ≡ e.to)
      found = All-contains (λ v. Contains ws v × (v.edge.now.from ≡ e.to)) vs w from.right member

      right : IsDepartureOf es w
      right = All-contains (IsDepartureOf es) ws w are.right found.0

      leaves : (edge_at xs w.place).from ≡ point_times m e.to
      leaves =
          let l = right.inside in
          let d = pick es (omega arith) in
          let same : (get_or es w.place d).from ≡ e.to = same-some (get_or es w.place d).from e.to (sym (start-at es w.place d right.inside) ∙ (right.from ∙ ap Some found.1)) in
          ap (λ x. x.from) (read-edge m es w.place d right.inside) ∙ ap (point_times m) same

-- the successor of one more edge
pub met-more : (es : List Edge) (n : ℕ) (next : List (Option ℕ)) (r : Option ℕ) → length next ≡ n → ((i : ℕ) → i < n → IsFirstMet es (edge_at es i) (after next i)) → IsFirstMet es (edge_at es n) r → (i : ℕ) → i < n + 1 → IsFirstMet es (edge_at es i) (after (next ++ r ∷ []) i)
met-more es n next r sized before new i h = ⊎_elim
    (λ m. subst (IsFirstMet es (edge_at es i)) (sym (get_or_append_left next (r ∷ []) None i (omega arith))) (before i m))
    (λ m. let e : i ≡ n = omega arith in
    let last : after (next ++ r ∷ []) i ≡ r = ap (λ j. get_or (next ++ r ∷ []) j None) (e ∙ sym sized) ∙ get_or-append_seam next r [] None in
    subst (IsFirstMet es (edge_at es i)) (sym last) (subst (λ j. IsFirstMet es (edge_at es j) r) (sym e) new))
    (cases_lt i n)
