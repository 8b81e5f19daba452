-- Points left beside one edge are joined.
use Rattle.std.proofs.Common.{Bool, List, [], ap, arith, false, inl, inr, pos, refl, subst, sym, true, ℤ, ◌*ℤ◌, ◌+ℤ◌, ◌∙◌, ◌∷◌, ◌≡◌}
use borrow.Author.Differences.{ints}
use Rattle.lists.specs.Member.{In}
use Rattle.plane_lists.specs.Paths.Beside.{IsLeftBeside}
use Rattle.plane_lists.specs.Paths.Line.{IsApart, IsFreeStep, Joined}
use Rattle.plane.specs.Edge.{Edge, same_edge}
use Rattle.plane.specs.FreeSegment.{IsBetween}
use Rattle.plane.specs.Scale.{scaled_edge, scaled_point}
use Rattle.plane.specs.Sign.{Plus, negated, sign}
use Rattle.plane.specs.Vector.{Vector, cross, dot, from_to, orient}
use Rattle.plane_lists.specs.Lists.ScaledEdges.{scaled_edges}
use Rattle.plane_lists.specs.Lists.Sided.{IsSided}
use Rattle.lists.proofs.ListsKit.{in-map-out}
use Rattle.plane.proofs.PlaneKit.{cross-here, cross-scaled, cross-self, edge-scaled, from_to-scaled, orient-round, same_edge-true, same_vector, view_at, dot-both}
use Rattle.plane_lists.proofs.Paths.Inside.{inside-apart, way-back}
use Rattle.plane_lists.proofs.Paths.Later.{IsLeftNear, IsNearApart, Later, apart-near, later-both, later-free, later-some, near}
use Rattle.plane_lists.proofs.Paths.Steps.{apart-times, back-from, back-to}
use Rattle.plane_lists.proofs.Paths.Joins.{free-back}

abbrev pub none : Vector
none = record { x = pos 0; y = pos 0 }

pub near-none : (k : ℤ) (p : Vector) → near k p none ≡ scaled_point k p
near-none k p = same_vector (k *ℤ p.x +ℤ pos 0) (k *ℤ p.y +ℤ pos 0) (k *ℤ p.x) (k *ℤ p.y) (omega (arith, ints)) (omega (arith, ints))

-- ---- beside the edge itself: the line along the edge, backward
module _ (e : Edge) (p : Vector) (l : orient e.from e.to p ≡ Plus) where
  abbrev B : Vector
  B = from_to e.to e.from

  pub left-from : sign (cross B (from_to p e.from)) ≡ Plus
  left-from = ap sign (back-from p e.from e.to) ∙ sym (ap sign (orient-round p e.from e.to)) ∙ l

  pub left-to : sign (cross B (from_to p e.to)) ≡ Plus
  left-to = ap sign (back-to p e.from e.to) ∙ sym (ap sign (orient-round p e.from e.to)) ∙ l

  module _ (r : Vector) (i : IsBetween e.from e.to r) where
    pub foot-from : IsLeftNear B r (from_to r p) e.from
    foot-from =
        let v = view_at e.from e.to r i in
        inr (
          way-back e.from e.to (from_to r e.from) ∙ ap negated (v.side e.from ∙ ap sign (cross-here (from_to e.from e.to) e.from)),
          way-back e.from e.to (from_to r p) ∙ ap negated (v.side p ∙ l),
        )

    pub foot-to : IsLeftNear B r (from_to r p) e.to
    foot-to =
        let v = view_at e.from e.to r i in
        inr (
          way-back e.from e.to (from_to r e.to) ∙ ap negated (v.side e.to ∙ ap sign (cross-self (from_to e.from e.to))),
          way-back e.from e.to (from_to r p) ∙ ap negated (v.side p ∙ l),
        )

-- ---- from p to its foot, and along the edge
module _ (es : List Edge) (sd : IsSided es) (e : Edge) (i : In e es) (p : Vector) (a : IsLeftBeside es e p) where
  own-step : IsNearApart p none a.foot (from_to a.foot p) e
  own-step = record {
    along = from_to e.to e.from;
    first_from = inl (left-from e p a.left);
    first_to = inl (left-to e p a.left);
    last_from = foot-from e p a.left a.foot a.inside;
    last_to = foot-to e p a.left a.foot a.inside;
  }

  step-by : (f : Edge) → In f es → (b : Bool) → same_edge e f ≡ b → IsNearApart p none a.foot (from_to a.foot p) f
  step-by f j true h = subst (λ w. IsNearApart p none a.foot (from_to a.foot p) w) (same_edge-true e f h) own-step
  step-by f j false h = apart-near p a.foot f (a.free f j h) none (from_to a.foot p)

  pub foot-free : Later (λ k. IsFreeStep (scaled_edges k es) (near k p none) (near k a.foot (from_to a.foot p)))
  foot-free = later-free p none a.foot (from_to a.foot p) es (λ f j. step-by f j (same_edge e f) refl)

  module _ (q : Vector) (c : IsLeftBeside es e q) where
    own-along : IsNearApart a.foot (from_to a.foot p) c.foot (from_to c.foot q) e
    own-along = record {
      along = from_to e.to e.from;
      first_from = foot-from e p a.left a.foot a.inside;
      first_to = foot-to e p a.left a.foot a.inside;
      last_from = foot-from e q c.left c.foot c.inside;
      last_to = foot-to e q c.left c.foot c.inside;
    }

    along-by : (f : Edge) → In f es → (b : Bool) → same_edge e f ≡ b → IsNearApart a.foot (from_to a.foot p) c.foot (from_to c.foot q) f
    along-by f j true h = subst (λ w. IsNearApart a.foot (from_to a.foot p) c.foot (from_to c.foot q) w) (same_edge-true e f h) own-along
    along-by f j false h = apart-near a.foot c.foot f (inside-apart es sd e f i j h a.foot c.foot a.inside c.inside) (from_to a.foot p) (from_to c.foot q)

    pub along-free : Later (λ k. IsFreeStep (scaled_edges k es) (near k a.foot (from_to a.foot p)) (near k c.foot (from_to c.foot q)))
    along-free = later-free a.foot (from_to a.foot p) c.foot (from_to c.foot q) es (λ f j. along-by f j (same_edge e f) refl)

pub beside-joined : (es : List Edge) → IsSided es → (e : Edge) → In e es → (p q : Vector) → IsLeftBeside es e p → IsLeftBeside es e q → Joined es p q
beside-joined es sd e i p q a c =
    let A = λ (k : ℤ). IsFreeStep (scaled_edges k es) (near k p none) (near k a.foot (from_to a.foot p)) in
    let M = λ (k : ℤ). IsFreeStep (scaled_edges k es) (near k a.foot (from_to a.foot p)) (near k c.foot (from_to c.foot q)) in
    let C = λ (k : ℤ). IsFreeStep (scaled_edges k es) (near k q none) (near k c.foot (from_to c.foot q)) in
    let h = later-some (λ k. (A k × M k) × C k) (later-both (λ k. A k × M k) C (later-both A M (foot-free es sd e i p a) (along-free es sd e i p a q c)) (foot-free es sd e i q c)) in
    let k = h.0 in let g = h.2 in
    let l = scaled_edges k es in let u = near k a.foot (from_to a.foot p) in let w = near k c.foot (from_to c.foot q) in
    record {
      multiple = k;
      positive = h.1;
      corners = u ∷ (w ∷ []);
      line = (
        subst (λ z. IsFreeStep l z u) (near-none k p) g.0.0,
        (g.0.1, subst (λ z. IsFreeStep l w z) (near-none k q) (free-back l (near k q none) w g.1)),
      );
    }

-- ---- multiplied
dot-times-by : (k : ℤ) → sign k ≡ Plus → (p q r s : Vector) → sign (dot (from_to (scaled_point k p) (scaled_point k q)) (from_to (scaled_point k r) (scaled_point k s))) ≡ sign (dot (from_to p q) (from_to r s))
dot-times-by k hk p q r s =
    ap (λ v. sign (dot v (from_to (scaled_point k r) (scaled_point k s)))) (from_to-scaled k hk p q) ∙ ap (λ v. sign (dot (scaled_point k (from_to p q)) v)) (from_to-scaled k hk r s)
    ∙ dot-both k hk (from_to p q) (from_to r s)

pub between-times : (k : ℤ) → sign k ≡ Plus → (s t p : Vector) → IsBetween s t p → IsBetween (scaled_point k s) (scaled_point k t) (scaled_point k p)
between-times k hk s t p i = record {
  on_line = cross-scaled k hk s t s p ∙ i.on_line;
  after_s = dot-times-by k hk s t s p ∙ i.after_s;
  before_t = dot-times-by k hk s t p t ∙ i.before_t;
}

pub beside-times : (k : ℤ) → sign k ≡ Plus → (es : List Edge) (e : Edge) (p : Vector) → IsLeftBeside es e p → IsLeftBeside (scaled_edges k es) (scaled_edge k e) (scaled_point k p)
beside-times k hk es e p a = record {
  foot = scaled_point k a.foot;
  inside = between-times k hk e.from e.to a.foot a.inside;
  left = cross-scaled k hk e.from e.to e.from p ∙ a.left;
  free = λ f j n.
      let r = in-map-out (scaled_edge k) es f j in
      subst (λ w. IsApart (scaled_point k p) (scaled_point k a.foot) w) (sym r.2)
      (apart-times k hk p a.foot r.0 (a.free r.0 r.1 (sym (edge-scaled k hk e r.0) ∙ subst (λ w. same_edge (scaled_edge k e) w ≡ false) r.2 n)));
}
