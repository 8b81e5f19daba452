-- Where two segments alone end at a node, the odd side makes one leave it as the other enters it.
use Rattle.std.proofs.Common.{◌≡◌, ◌⊎◌, inl, inr, Bool, true, false, cond, Option, Some, None, ℕ, ◌+◌, ◌<◌, ◌≤◌, List, [], ◌∷◌, length, get_or, replicate, set, refl, sym, ap, subst, ◌∙◌, arith, ⊎_elim, sum_by}
use Rattle.std.proofs.lemmas.Bool.{cases_lt}
use Rattle.std.proofs.lemmas.List.{get_or_default, get_or-replicate, get_or_past, get_or-set_same, get_or-set_other, length-replicate, length-set}
use Rattle.std.proofs.lemmas.List.Sums.{sum_by-cons}
use Rattle.std.specs.Prelude.{if◌then◌else◌}
use Rattle.plane.specs.Bit.{bit}
use Rattle.plane.specs.Edge as plane
use Rattle.plane.specs.Vector.{Vector, one_at, same_point}
use Rattle.plane.proofs.PlaneKit.{same_point-refl, same_point-true}
use Rattle.plane_lists.specs.Lists.EdgeList.{IsBalanced}
use Rattle.plane_lists.specs.Lists.OddSide.{directed, directed_edge, runs_up_by_odd_side}
use Rattle.plane_lists.proofs.WindingKit.{directed_sided}
use Rattle.lists.specs.Member.{In}
use Rattle.lists.specs.Rising.{IsRising}
use Rattle.lists.proofs.ListsKit.{at-in, in-at, in-map, in-map-out}
use Rattle.osm_geom.specs.declared.point.Point.TheVariants.{Lattice}
use Rattle.osm_geom.proofs.GeometryKit.{ends_apart}
use Rattle.osm_lattice.specs.declared.loc.Loc.{Loc}
use Rattle.osm_lattice.specs.declared.seg.Seg.{Seg}
use Rattle.osm_lattice.specs.Loc.{vector_of}
use Rattle.osm_lattice.specs.Seg.{edge_of, seg_cmp}
use Rattle.osm_lattice.proofs.LatticeKit.{loc_from_vectors}
use Rattle.osm_segments.specs.Pairs.{conflicts_of}
use Rattle.osm_sides.specs.Following.{AreOthersUpTo, IsDirected, IsDirection, IsEnd, IsSoleOther, KnownDirectionsAreRight, stop_of}
use Rattle.osm_sides.specs.SideTests.{same}
use Rattle.osm_segments.specs.Counts.{HasEvenNodes}
use Rattle.osm_sides.specs.Survivors.{plane_edges_of}
use Rattle.osm_sides.proofs.Survivors.{conflict_free, even_points}

-- ---- one location is told by the test
pub same-out : (p q : Loc) → same p q ≡ true → p ≡ q
unfolding same
same-out p q h = loc_from_vectors p q (same_point-true (vector_of p) (vector_of q) h)

pub same-into : (p q : Loc) → p ≡ q → same p q ≡ true
unfolding same
same-into p q e = subst (λ r. same_point (vector_of p) (vector_of r) ≡ true) e (same_point-refl (vector_of p))

apart : (s : Seg) → s.a ≡ s.b → ⊥
apart s e = ends_apart s (ap Lattice e)

-- ---- sums of ends at a point
one-at-out : (v w : Vector) (b : Bool) → same_point v w ≡ b → 1 ≤ bit b → v ≡ w
one-at-out v w true e h = same_point-true v w e
one-at-out v w false e h = absurd (omega arith)

one-at-here : (v : Vector) → one_at v v ≡ 1
one-at-here v = ap bit (same_point-refl v)

module _ (f : plane.Edge → Vector) (v : Vector) where
  more : (e : plane.Edge) (es : List plane.Edge) → sum_by (λ (x : plane.Edge). one_at v (f x)) (e ∷ es) ≡ one_at v (f e) + sum_by (λ (x : plane.Edge). one_at v (f x)) es
  more e es = sum_by-cons (λ (x : plane.Edge). one_at v (f x)) e es

  some-there : (es : List plane.Edge) (e : plane.Edge) → In e es → f e ≡ v → 1 ≤ sum_by (λ (x : plane.Edge). one_at v (f x)) es
  some-there [] e i h = absurd i
  some-there (x ∷ es) e (inl is) h =
      let one : one_at v (f x) ≡ 1 = ap (one_at v) (sym (ap f is) ∙ h) ∙ one-at-here v in
      let sum = more x es in
      omega arith
  some-there (x ∷ es) e (inr later) h =
      let rest = some-there es e later h in
      let sum = more x es in
      omega arith

  by-head : (x : plane.Edge) (es : List plane.Edge) (b : Bool) → same_point v (f x) ≡ b → 1 ≤ sum_by (λ (x : plane.Edge). one_at v (f x)) (x ∷ es) → (1 ≤ sum_by (λ (x : plane.Edge). one_at v (f x)) es → (e : plane.Edge) × In e es × (v ≡ f e)) → (e : plane.Edge) × In e (x ∷ es) × (v ≡ f e)
  by-head x es true e h rest = (x, inl refl, same_point-true v (f x) e)
  by-head x es false e h rest =
      let none : one_at v (f x) ≡ 0 = ap bit e in
      let sum = more x es in
      let later = rest (omega arith) in
      (later.0, inr later.1, later.2)

  some-from : (es : List plane.Edge) → 1 ≤ sum_by (λ (x : plane.Edge). one_at v (f x)) es → (e : plane.Edge) × In e es × (v ≡ f e)
  some-from [] h = absurd (omega arith)
  some-from (x ∷ es) h = by-head x es (same_point v (f x)) refl h (some-from es)

module _ (ss : List Seg) where
  abbrev es : List plane.Edge
  es = plane_edges_of ss

  abbrev up_of : Seg → Bool
  up_of s = runs_up_by_odd_side es (edge_of s)

  begins-at : (s : Seg) (b : Bool) → up_of s ≡ b → (directed_edge es (edge_of s)).from ≡ vector_of (cond b s.a s.b)
  begins-at s true h = ap (λ b. (cond b (edge_of s) (plane.reversed (edge_of s))).from) h
  begins-at s false h = ap (λ b. (cond b (edge_of s) (plane.reversed (edge_of s))).from) h

  stops-at : (s : Seg) (b : Bool) → up_of s ≡ b → (directed_edge es (edge_of s)).to ≡ vector_of (stop_of b s)
  stops-at s true h = ap (λ b. (cond b (edge_of s) (plane.reversed (edge_of s))).to) h
  stops-at s false h = ap (λ b. (cond b (edge_of s) (plane.reversed (edge_of s))).to) h

  start-is-end : (s : Seg) (p : Loc) (b : Bool) → cond b s.a s.b ≡ p → IsEnd p s
  start-is-end s p true e = inl e
  start-is-end s p false e = inr e

  not-both : (s : Seg) (b : Bool) → cond b s.a s.b ≡ stop_of b s → ⊥
  not-both s true e = apart s e
  not-both s false e = apart s (sym e)

  told : (s : Seg) (p : Loc) (b : Bool) → cond b s.a s.b ≡ p → (t : Bool) → same s.a p ≡ t → t ≡ b
  told s p true e t h = sym h ∙ same-into s.a p e
  told s p false e false h = refl
  told s p false e true h = absurd (apart s (same-out s.a p h ∙ sym e))

  module _ (rising : IsRising seg_cmp ss) (clear : conflicts_of ss ≡ []) (even : HasEvenNodes ss) where
    balanced : IsBalanced (directed es)
    balanced = (directed_sided es (conflict_free ss rising clear) (even_points ss even)).balanced

    -- what one segment enters another leaves
    leaver : (s : Seg) → In s ss → (b : Bool) → up_of s ≡ b → (t : Seg) × In t ss × (vector_of (stop_of b s) ≡ (directed_edge es (edge_of t)).from)
    leaver s i b h =
        let v = vector_of (stop_of b s) in
        let there = some-there (λ (e : plane.Edge). e.to) v (directed es) (directed_edge es (edge_of s)) (in-map (directed_edge es) es (edge_of s) (in-map edge_of ss s i)) (stops-at s b h) in
        let e = some-from (λ (e : plane.Edge). e.from) v (directed es) (subst (λ n. 1 ≤ n) (sym (balanced v)) there) in
        let x = in-map-out (directed_edge es) es e.0 e.1 in
        let t = in-map-out edge_of ss x.0 x.1 in
        (t.0, t.1, e.2 ∙ ap (λ (y : plane.Edge). y.from) (x.2 ∙ ap (directed_edge es) t.2))

    -- it is the only other one that ends there
    pub sole-leaves : (place other : ℕ) (up : Bool) (s t : Seg) → s ≡ get_or ss place s → t ≡ get_or ss other t → IsDirected ss place up → IsSoleOther ss place (stop_of up s) other → IsDirected ss other (same t.a (stop_of up s))
    sole-leaves place other up s t s_is t_is known alone =
        let p = stop_of up s in
        let at_s : (d : Seg) → get_or ss place d ≡ s = λ d. get_or_default ss place d s known.inside ∙ sym s_is in
        let at_t : (d : Seg) → get_or ss other d ≡ t = λ d. get_or_default ss other d t alone.inside ∙ sym t_is in
        let right : up_of s ≡ up = sym (known.right s ∙ ap up_of (at_s s)) in
        let l = leaver s (subst (λ x. In x ss) (at_s s) (at-in ss place s known.inside)) up right in
        let k = in-at l.0 ss l.1 in
        let begins : cond (up_of l.0) l.0.a l.0.b ≡ p = sym (loc_from_vectors p (cond (up_of l.0) l.0.a l.0.b) (l.2 ∙ begins-at l.0 (up_of l.0) refl)) in
        record {
          inside = alone.inside;
          right = λ d. ⊎_elim
              (λ same_place.
              let is : l.0 ≡ s = sym (k.2 s) ∙ (ap (λ i. get_or ss i s) same_place ∙ at_s s) in
              absurd (not-both s up (subst (λ b. cond b s.a s.b ≡ p) right (subst (λ x. cond (up_of x) x.a x.b ≡ p) is begins))))
              (λ same_other.
              let is : l.0 ≡ t = sym (k.2 t) ∙ (ap (λ i. get_or ss i t) same_other ∙ at_t t) in
              told t p (up_of t) (subst (λ x. cond (up_of x) x.a x.b ≡ p) is begins) (same t.a p) refl ∙ sym (ap up_of (at_t d)))
              (alone.sole k.0 s k.1 (subst (IsEnd p) (sym (k.2 s)) (start-is-end l.0 p (up_of l.0) begins)));
        }

-- ---- looking for the other one
module _ (ss : List Seg) (place : ℕ) (p : Loc) (n : ℕ) (s : Seg) (inside : n < length ss) (is : s ≡ get_or ss n s) where
  read : (d : Seg) → get_or ss n d ≡ s
  read d = get_or_default ss n d s inside ∙ sym is

  pub pass-place : (found : Option ℕ) → AreOthersUpTo ss place p n found → (n ≡ place) ⊎ (IsEnd p s → ⊥) → AreOthersUpTo ss place p (n + 1) found
  pass-place None before here = λ k d l e. ⊎_elim
      (λ m. before k d m e)
      (λ m.
      let at : k ≡ n = omega arith in
      ⊎_elim (λ q. at ∙ q) (λ off. absurd (off (subst (IsEnd p) (ap (λ i. get_or ss i d) at ∙ read d) e))) here)
      (cases_lt k n)
  pass-place (Some other) (low, ends, sole) here = (
    low,
    ends,
    λ k d l e. ⊎_elim
        (λ m. sole k d m e)
        (λ m.
        let at : k ≡ n = omega arith in
        ⊎_elim (λ q. inl (at ∙ q)) (λ off. absurd (off (subst (IsEnd p) (ap (λ i. get_or ss i d) at ∙ read d) e))) here)
        (cases_lt k n),
  )

  pub found-place : AreOthersUpTo ss place p n None → IsEnd p s → AreOthersUpTo ss place p (n + 1) (Some n)
  found-place before here = (
    inside,
    λ d. subst (IsEnd p) (sym (read d)) here,
    λ k d l e. ⊎_elim
        (λ m. inl (before k d m e))
        (λ m. let at : k ≡ n = omega arith in inr at)
        (cases_lt k n),
  )

pub all-others : (ss : List Seg) (place : ℕ) (p : Loc) (n other : ℕ) → n ≡ length ss → AreOthersUpTo ss place p n (Some other) → IsSoleOther ss place p other
all-others ss place p n other whole (low, ends, sole) = record {
  inside = low;
  ends = ends;
  sole = λ k d l e. sole k d (omega (arith, whole, l)) e;
}

-- ---- what is known
pub known-none : (ss : List Seg) (known : List (Option Bool)) → length ss ≤ length known → ((k : ℕ) → get_or known k None ≡ None) → KnownDirectionsAreRight ss known
known-none ss known room none = record { room = room; right = λ place up l e. absurd (cc (sym (none place) ∙ e)) }

pub known-more : (ss : List Seg) (known : List (Option Bool)) (place : ℕ) (up : Bool) → IsDirected ss place up → KnownDirectionsAreRight ss known → KnownDirectionsAreRight ss (set known place (Some up))
known-more ss known place up here are =
    let room = are.room in
    let long = length-set known place (Some up) in
    record {
      room = omega arith;
      right = λ k b l e. ⊎_elim
          (λ m. are.right k b l (sym (get_or-set_other known place k (Some up) None (λ q. absurd (omega (arith, q, m)))) ∙ e))
          (λ m. ⊎_elim
          (λ o. are.right k b l (sym (get_or-set_other known place k (Some up) None (λ q. absurd (omega (arith, q, o)))) ∙ e))
          (λ o.
          let at : k ≡ place = omega arith in
          let low = here.inside in
          let now : Some up ≡ Some b = sym (get_or-set_same known place (Some up) None (omega arith)) ∙ (ap (λ i. get_or (set known place (Some up)) i None) (sym at) ∙ e) in
          subst (λ i. IsDirection ss i b) (sym at) (subst (IsDirection ss place) (unwrap up b now) here.right))
          (cases_lt place k))
          (cases_lt k place);
    }
  where
    unwrap : (x y : Bool) → Some x ≡ Some y → x ≡ y
    unwrap x y q = cc

pub none-there : (n k : ℕ) → get_or {A = Option Bool} (replicate n None) k None ≡ None
none-there n k = ⊎_elim
    (λ h. get_or-replicate n k None None h)
    (λ h. get_or_past (replicate n None) k None (let e = length-replicate {A = Option Bool} n None in omega arith))
    (cases_lt k n)

-- ---- where a segment begins and ends that is directed
pub first-is : (s : Seg) (up b : Bool) → up ≡ b → (if up then Lattice s.a else Lattice s.b) ≡ Lattice (cond b s.a s.b)
first-is s up true e = ap (λ u. if u then Lattice s.a else Lattice s.b) e
first-is s up false e = ap (λ u. if u then Lattice s.a else Lattice s.b) e

pub last-is : (s : Seg) (up b : Bool) → up ≡ b → (if up then Lattice s.b else Lattice s.a) ≡ Lattice (cond b s.b s.a)
last-is s up true e = ap (λ u. if u then Lattice s.b else Lattice s.a) e
last-is s up false e = ap (λ u. if u then Lattice s.b else Lattice s.a) e
