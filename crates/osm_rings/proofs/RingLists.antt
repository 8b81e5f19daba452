-- What is cut off the walks of successors is a ring list.
use Rattle.std.proofs.Common.{◌≡◌, ◌≢◌, None, inl, inr, ℕ, suc, zero, ◌-◌, ◌<◌, ◌≤◌, List, [], ◌∷◌, length, get_or, map, All, Option, Some, Result, Ok, Err, IfOk, refl, sym, ap, subst, ◌∙◌, arith}
use Rattle.std.proofs.lemmas.List.{get_or-map, length-map, map-append}
use Rattle.std.proofs.lemmas.List.Elements.{All-cons, All-nil}
use Rattle.plane_lists.specs.Rings.RingList.{IsRingList}
use Rattle.plane_lists.specs.Rings.Walk.{AreCuts, AreWalks}
use Rattle.plane_lists.proofs.NestingKit.{piece_walk, ring_list, next_leaves}
use Rattle.plane.specs.Edge as plane
use Rattle.lists.specs.Member.{In}
use Rattle.plane_lists.specs.Lists.Ring.{IsPath}
use Rattle.plane_lists.specs.Lists.Ring as winding
use Rattle.lists.proofs.ListsKit.{in-all, in-map, in-map-out}
use Rattle.orbits.specs.Orbits.{AreOrbits, IsOrbit, after}
use Rattle.orbits.specs.Once.{HoldEachOnce}
use Rattle.orbits.specs.OnceLaws.{StandBelow, SumsAgree}
use Rattle.osm_geom.specs.declared.edge.Edge.{Edge}
use Rattle.osm_geom.specs.InPlane.Multiple.{IsWholeAt, edge_times, edges_times, product_of_denominators, whole_edges}
use Rattle.osm_geom.specs.InPlane.Sided.{IsSided}
use Rattle.osm_rings.specs.Numbered.{edge_at}
use Rattle.osm_rings.specs.Pieces.{AreAllCut, edges_at}
use Rattle.osm_rings.specs.Ring.{IsRing}
use Rattle.osm_rings.specs.RingList.{AreRingsOf}
use Rattle.osm_rings.proofs.OrbitWalks.{edge-in, orbits-walks, round, end-is}
use Rattle.osm_rings.proofs.Placed.{all-below, placed-map, placed-whole, sums-whole}
use Rattle.osm_rings.specs.Departures.{IsFirstMet}
use Rattle.osm_rings.proofs.Succeed.{are-successors, some-leaves}
use Rattle.osm_rings.proofs.PlaneRings.{ring-of-plane}
use Rattle.osm_rings.proofs.WalkCuts.{cut-pieces}
use Rattle.osm_rings.proofs.Multiplied.{size, whole-at}
use Rattle.orbits.specs.Orbits as orbit
use Rattle.osm_rings.proofs.PlaneNumbers.{AreSuccessors, TellPoints}

-- ---- orbits are paths
module _ (es : List Edge) (sided : IsSided es) (next : List (Option ℕ)) (are : AreSuccessors (whole_edges es) next) where
  abbrev edges : List plane.Edge
  edges = whole_edges es

  abbrev m : ℕ
  m = product_of_denominators es

  steps : (z : ℕ) (o : List ℕ) → All (λ i. i < length edges) (z ∷ o) → ((k : ℕ) → k < length o → after next (get_or (z ∷ o) k 0) ≡ Some (get_or o k 0)) → IsPath (edge_at edges z).to (map (edge_at edges) o) (edge_at edges (get_or (z ∷ o) (length o) 0)).to
  steps z [] low h = refl
  steps z (x ∷ o) low h = (
    sym (next_leaves edges sided (edge_at edges z) (edge_at edges x) (edge-in edges z (low 0 0 (omega arith))) (are.right z x (h 0 (omega arith)))),
    steps x o (λ k d l. low (suc k) d (omega arith)) (λ k l. h (suc k) (omega arith)),
  )

  orbit-path : (o : List ℕ) → IsOrbit next o → All (λ i. i < length edges) o → IsPath (edge_at edges (orbit.last_number o)).to (map (edge_at edges) o) (edge_at edges (orbit.last_number o)).to
  orbit-path o w low =
      let some = w.some in
      let ends : All (λ i. i < length edges) (orbit.last_number o ∷ o) = λ k d l. at k d l in
      subst (λ i. IsPath (edge_at edges (orbit.last_number o)).to (map (edge_at edges) o) (edge_at edges i).to) (end-is edges next are o w low) (steps (orbit.last_number o) o ends (round edges next are o w low))
    where
      at : (k d : ℕ) → k < length (orbit.last_number o ∷ o) → get_or (orbit.last_number o ∷ o) k d < length edges
      at zero d l = let some = w.some in low (length o - 1) 0 (omega arith)
      at (suc k) d l = low k d (omega arith)

  module _ (numbers : List ℕ) (tell : TellPoints edges numbers) where
    cuts-of : (os pieces : List (List ℕ)) → All (IsOrbit next) os → All (λ o. All (λ i. i < length edges) o) os → AreAllCut numbers os pieces → AreCuts (map (map (edge_at edges)) os) (map (map (edge_at edges)) pieces)
    cuts-of [] pieces orbits low none = ap (map (map (edge_at edges))) none
    cuts-of (o ∷ os) pieces orbits low (ps, qs, is, cut, rest) =
        let w = orbits 0 [] (omega arith) in
        let low_o : All (λ i. i < length edges) o = low 0 [] (omega arith) in (
          map (map (edge_at edges)) ps,
          map (map (edge_at edges)) qs,
          ap (map (map (edge_at edges))) is ∙ map-append (map (edge_at edges)) ps qs,
          cut-pieces edges numbers tell (edge_at edges (orbit.last_number o)).to o ps low_o (orbit-path o w low_o) cut,
          cuts-of os qs (λ k d l. orbits (suc k) d (omega arith)) (λ k d l. low (suc k) d (omega arith)) rest,
        )

    module _ (sums : SumsAgree) (stand : StandBelow) (os : List (List ℕ)) (orbits : AreOrbits next os) (pieces : List (List ℕ)) (cut : AreAllCut numbers os pieces) where
      low : All (λ o. All (λ i. i < length edges) o) os
      low = stand (length edges) os (rw (← are.sized) orbits.once)

      walks : AreWalks edges (map (map (edge_at edges)) os)
      walks = orbits-walks edges next are sums stand os orbits

      cuts : AreCuts (map (map (edge_at edges)) os) (map (map (edge_at edges)) pieces)
      cuts = cuts-of os pieces orbits.each low cut

      -- the places of the pieces are places of edges
      pub pieces-inside : All (λ p. All (λ k. k < length es) p) pieces
      pieces-inside = subst (λ n. All (λ p. All (λ k. k < n) p) pieces) (size es) (all-below (length edges) numbers os pieces cut low)

      same-pieces : (ps : List (List ℕ)) → All (λ p. All (λ k. k < length es) p) ps → map (edges_times m) (map (edges_at es) ps) ≡ map (map (edge_at edges)) ps
      same-pieces [] inside = refl
      same-pieces (p ∷ ps) inside =
          ap (λ x. x ∷ map (edges_times m) (map (edges_at es) ps)) (placed-map m es p (inside 0 [] (omega arith)))
          ∙ ap (λ xs. map (edge_at edges) p ∷ xs) (same-pieces ps (λ k d l. inside (suc k) d (omega arith)))

      in-plane : map (edges_times m) (map (edges_at es) pieces) ≡ map (map (edge_at edges)) pieces
      in-plane = same-pieces pieces pieces-inside

      listed : IsRingList (map (map (edge_at edges)) pieces)
      listed = ring_list edges sided (map (map (edge_at edges)) os) (map (map (edge_at edges)) pieces) walks cuts

      whole : All (IsWholeAt m) es
      whole k d h = whole-at es k d h

      ring-at : (ps : List (List ℕ)) → ((p : List ℕ) → In p ps → In p pieces) → All (λ p. All (λ k. k < length es) p) ps → All (λ p. IsRing (edges_at es p)) ps
      ring-at [] sub inside = All-nil (λ p. IsRing (edges_at es p))
      ring-at (p ∷ ps) sub inside = All-cons (λ p. IsRing (edges_at es p)) p ps here (ring-at ps (λ q i. sub q (inr i)) (λ i z l. inside (suc i) z (omega arith)))
        where
          here : IsRing (edges_at es p)
          here =
              let low_p = inside 0 [] (omega arith) in
              let there : In (map (edge_at edges) p) (map (map (edge_at edges)) pieces) = in-map (map (edge_at edges)) pieces p (sub p (inl refl)) in
              let same : map (edge_at edges) p ≡ edges_times m (edges_at es p) = sym (placed-map m es p low_p) in
              ring-of-plane m (edges_at es p) (placed-whole m es p whole low_p) (subst (λ r. 3 ≤ length r) same (listed.long (map (edge_at edges) p) there)) (subst winding.IsRing same (listed.ring (map (edge_at edges) p) there))

      pub pieces-ring : All (λ p. IsRing (edges_at es p)) pieces
      pieces-ring = ring-at pieces (λ p i. i) pieces-inside

      -- the pieces are rings that hold each edge once, each in one walk
      pub pieces-are-rings : AreRingsOf es (map (edges_at es) pieces)
      pieces-are-rings = record {
        edges = sums-whole es numbers os pieces cut (λ g. sums (length es) os (subst (λ n. HoldEachOnce n os) (are.sized ∙ size es) orbits.once) g);
        walks = λ r i.
            let mapped : In (edges_times m r) (map (map (edge_at edges)) pieces) = subst (In (edges_times m r)) in-plane (in-map (edges_times m) (map (edges_at es) pieces) r i) in
            let found = (piece_walk edges sided (map (map (edge_at edges)) os) (map (map (edge_at edges)) pieces) walks cuts (edges_times m r) mapped).1 in
            (found.0, walks.walk found.0 found.1, found.2);
        ring = λ r i. let piece = in-map-out (edges_at es) pieces r i in subst IsRing (sym piece.2) (in-all (λ p. IsRing (edges_at es p)) pieces piece.0 pieces-ring piece.1);
      }

-- ---- from what the functions ensure
pub successors-of : (es : List Edge) → IsSided es → (next : List (Option ℕ)) → length next ≡ length es → ((i : ℕ) → i < length es → IsFirstMet (whole_edges es) (edge_at (whole_edges es) i) (after next i)) → AreSuccessors (whole_edges es) next
successors-of es sided next sized met =
    let long = size es in
    are-successors (whole_edges es) sided next (omega arith) (λ i h. met i (omega arith))

-- some edge leaves the end of each
pub end-is-left : (es : List Edge) → IsSided es → (e : Edge) → In e es → IsFirstMet (whole_edges es) (edge_times (product_of_denominators es) e) None → ⊥
end-is-left es sided e member = some-leaves (whole_edges es) sided (edge_times (product_of_denominators es) e) (in-map (edge_times (product_of_denominators es)) es e member)

-- each place leads on
pub all-go-on : (xs : List plane.Edge) (next : List (Option ℕ)) → AreSuccessors xs next → (i : ℕ) → i < length next → after next i ≢ None
all-go-on xs next are i h none =
    let sized = are.sized in
    let on = are.total i (omega arith) in
    absurd (cc (sym none ∙ on.1))

pub all-unmapped : {V X : Type 0} (P : X → Type 0) (f : V → X) (vs : List V) → All P (map f vs) → All (λ v. P (f v)) vs
all-unmapped P f vs h k d l =
    let long = length-map vs f in
    subst P (get_or-map f vs k d (f d) l) (h k (f d) (omega arith))

pub mapped-twice : {V X Y : Type 0} (f : V → X) (g : X → Y) (vs : List V) → map g (map f vs) ≡ map (λ v. g (f v)) vs
mapped-twice f g [] = refl
mapped-twice f g (v ∷ vs) = ap (λ ys. g (f v) ∷ ys) (mapped-twice f g vs)

pub if-ok : {A F : Type 0} (P Q : A → Type 0) (r : Result A F) → ((v : A) → P v → Q v) → IfOk r P → IfOk r Q
if-ok P Q (Ok v) h p = h v p
if-ok P Q (Err e) h p = p
