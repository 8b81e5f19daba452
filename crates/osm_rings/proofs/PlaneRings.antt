-- Rings of edges, and rings of the plane that is multiplied so that their points are whole.
use Rattle.std.proofs.Common.{◌≡◌, ◌≢◌, inl, inr, ℕ, suc, zero, ◌+◌, ◌-◌, ◌<◌, ◌≤◌, List, [], ◌∷◌, length, get_or, All, true, false, refl, sym, ap, subst, ◌∙◌, arith}
use Rattle.std.proofs.lemmas.List.{length-map}
use Rattle.plane.specs.Edge as plane
use Rattle.plane.specs.Vector.{Vector, same_point}
use Rattle.std.proofs.lemmas.Bool.{false_from_ne_true}
use Rattle.plane.proofs.PlaneKit.{same_point-refl, same_point-true}
use Rattle.lists.specs.Member.{EachPair, In}
use Rattle.plane_lists.specs.Lists.Ring.{IsPath}
use Rattle.plane_lists.specs.Lists.Ring as winding
use Rattle.lists.proofs.ListsKit.{all-in, clash, in-all, in-map-out}
use Rattle.osm_geom.specs.declared.edge.Edge.{Edge}
use Rattle.osm_geom.specs.InPlane.Multiple.{IsWholeAt, edge_times, edges_times, point_times}
use Rattle.osm_geom.proofs.EdgesKit.{same_is_same}
use Rattle.osm_rings.specs.Ring.{IsRing}

-- ---- a ring of the plane is a ring
path-joins : (q : ℕ) (x y : Vector) (r : List Edge) → IsPath x (edges_times q r) y → (k : ℕ) (d : Edge) → k + 1 < length r → point_times q (get_or r k d).to ≡ point_times q (get_or r (k + 1) d).from
path-joins q x y [] p k d h = absurd (omega arith)
path-joins q x y (e ∷ []) p k d h = absurd (omega arith)
path-joins q x y (e ∷ (f ∷ r)) p zero d h = sym p.1.0
path-joins q x y (e ∷ (f ∷ r)) p (suc k) d h =
    let same : suc k + 1 ≡ suc (k + 1) = omega arith in
    path-joins q (point_times q e.to) y (f ∷ r) p.1 k d (omega arith) ∙ ap (λ m. point_times q (get_or (e ∷ (f ∷ r)) m d).from) (sym same)

path-ends : (q : ℕ) (x y : Vector) (r : List Edge) → IsPath x (edges_times q r) y → 0 < length r → (d : Edge) → point_times q (get_or r (length r - 1) d).to ≡ y
path-ends q x y [] p h d = absurd (omega arith)
path-ends q x y (e ∷ []) p h d = p.1
path-ends q x y (e ∷ (f ∷ r)) p h d =
    let rest = path-ends q (point_times q e.to) y (f ∷ r) p.1 (omega arith) d in
    let same : length (e ∷ (f ∷ r)) - 1 ≡ suc (length (f ∷ r) - 1) = omega arith in
    ap (λ m. point_times q (get_or (e ∷ (f ∷ r)) m d).to) same ∙ rest

path-begins : (q : ℕ) (x y : Vector) (r : List Edge) → IsPath x (edges_times q r) y → 0 < length r → (d : Edge) → point_times q (get_or r 0 d).from ≡ x
path-begins q x y [] p h d = absurd (omega arith)
path-begins q x y (e ∷ r) p h d = p.0

from-apart : (p q : Vector) → same_point p q ≡ false → p ≡ q → ⊥
from-apart p q n e = clash (same_point p q) (subst (λ w. same_point p w ≡ true) e (same_point-refl p)) n

simple-out : (q : ℕ) (r : List Edge) → EachPair (λ (e f : plane.Edge). same_point e.from f.from ≡ false) (edges_times q r) → (i j : ℕ) (d : Edge) → i < j → j < length r → (get_or r i d).from ≢ (get_or r j d).from
simple-out q [] o i j d h l = absurd (omega arith)
simple-out q (e ∷ r) o i zero d h l = absurd (omega arith)
simple-out q (e ∷ r) o zero (suc j) d h l = λ same. from-apart (point_times q e.from) (point_times q (get_or r j d).from) (first r j o.0 (omega arith)) (ap (point_times q) same)
  where
    first : (r : List Edge) (j : ℕ) → All (λ f. same_point (point_times q e.from) f.from ≡ false) (edges_times q r) → j < length r → same_point (point_times q e.from) (point_times q (get_or r j d).from) ≡ false
    first [] j a m = absurd (omega arith)
    first (f ∷ r) zero a m = a 0 (edge_times q f) (omega arith)
    first (f ∷ r) (suc j) a m = first r j (λ k z n. a (suc k) z (omega arith)) (omega arith)
simple-out q (e ∷ r) o (suc i) (suc j) d h l = simple-out q r o.1 i j d (omega arith) (omega arith)

pub ring-of-plane : (q : ℕ) (r : List Edge) → All (IsWholeAt q) r → 3 ≤ length (edges_times q r) → winding.IsRing (edges_times q r) → IsRing r
ring-of-plane q r whole long ring =
    let size : length (edges_times q r) ≡ length r = length-map r (edge_times q) in
    record {
      long = omega arith;
      chained = λ k d h.
          let e = get_or r k d in let f = get_or r (k + 1) d in
          let we = whole k d (omega arith) in let wf = whole (k + 1) d h in
          same_is_same q e.to f.from we.some we.second wf.first (path-joins q ring.start ring.start r ring.path k d h);
      closed = λ d.
          let e = get_or r (length r - 1) d in let f = get_or r 0 d in
          let we = whole (length r - 1) d (omega arith) in let wf = whole 0 d (omega arith) in
          same_is_same q e.to f.from we.some we.second wf.first
          (path-ends q ring.start ring.start r ring.path (omega arith) d ∙ sym (path-begins q ring.start ring.start r ring.path (omega arith) d));
      simple = λ i j d h l. simple-out q r ring.once i j d h l;
    }

-- ---- a ring is one of the plane
module _ (k : ℕ) where
  path-of : (es : List Edge) (d : Edge) → ((j : ℕ) (d : Edge) → j + 1 < length es → (get_or es j d).to ≡ (get_or es (j + 1) d).from) → 0 < length es →
      IsPath (point_times k (get_or es 0 d).from) (edges_times k es) (point_times k (get_or es (length es - 1) d).to)
  path-of [] d joins h = absurd (omega arith)
  path-of (e ∷ []) d joins h = (refl, refl)
  path-of (e ∷ (f ∷ es)) d joins h =
      let rest = path-of (f ∷ es) d (λ j d l. let same : suc j + 1 ≡ suc (j + 1) = omega arith in joins (suc j) d (omega arith) ∙ ap (λ m. (get_or (e ∷ (f ∷ es)) m d).from) same) (omega arith) in
      let same : length (e ∷ (f ∷ es)) - 1 ≡ suc (length (f ∷ es) - 1) = omega arith in
      let join : point_times k f.from ≡ point_times k e.to = ap (point_times k) (sym (joins 0 d (omega arith))) in (
        refl,
        subst (λ m. IsPath (point_times k e.to) (edges_times k (f ∷ es)) (point_times k (get_or (e ∷ (f ∷ es)) m d).to)) (sym same)
            (subst (λ v. IsPath v (edges_times k (f ∷ es)) (point_times k (get_or (f ∷ es) (length (f ∷ es) - 1) d).to)) join rest),
      )

  apart-by : (e f : Edge) → IsWholeAt k e → IsWholeAt k f → e.from ≢ f.from → same_point (point_times k e.from) (point_times k f.from) ≡ false
  apart-by e f w v n =
      false_from_ne_true (same_point (point_times k e.from) (point_times k f.from)) (λ h. n (same_is_same k e.from f.from w.some w.first v.first (same_point-true (point_times k e.from) (point_times k f.from) h)))

  once-of : (es : List Edge) → ((e : Edge) → In e es → IsWholeAt k e) → ((i j : ℕ) (d : Edge) → i < j → j < length es → (get_or es i d).from ≢ (get_or es j d).from) →
      EachPair (λ (e f : plane.Edge). same_point e.from f.from ≡ false) (edges_times k es)
  once-of [] whole n = tt
  once-of (e ∷ es) whole n = (
    all-in (λ (f : plane.Edge). same_point (point_times k e.from) f.from ≡ false) (edges_times k es) (λ f i.
        let x = in-map-out (edge_times k) es f i in
        let apart = in-all (λ (g : Edge). e.from ≢ g.from) es x.0 (λ j d l. n 0 (suc j) d (omega arith) (omega arith)) x.1 in
        subst (λ (f : plane.Edge). same_point (point_times k e.from) f.from ≡ false) (sym x.2) (apart-by e x.0 (whole e (inl refl)) (whole x.0 (inr x.1)) apart)),
    once-of es (λ x i. whole x (inr i)) (λ i j d l m. n (suc i) (suc j) d (omega arith) (omega arith)),
  )

  pub plane-ring : (es : List Edge) (d : Edge) → ((e : Edge) → In e es → IsWholeAt k e) → IsRing es → winding.IsRing (edges_times k es)
  plane-ring es d whole ring =
      let long = ring.long in
      record {
        start = point_times k (get_or es 0 d).from;
        path = subst (λ p. IsPath (point_times k (get_or es 0 d).from) (edges_times k es) (point_times k p)) (ring.closed d) (path-of es d ring.chained (omega arith));
        once = once-of es whole (λ i j d l m. ring.simple i j d l m);
      }
