-- Two edges of a sided list share no points but ends.
use Rattle.std.proofs.Common.{Bool, List, [], ap, cond, false, inl, inr, refl, subst, sym, true, ◌||◌, ◌∙◌, ◌∷◌, ◌≡◌, ◌⊎◌}
use lib.IntN.{ℤ}
use Rattle.lists.specs.Member.{EachPair, In}
use Rattle.plane_lists.specs.Rings.Nesting.{edges_of}
use Rattle.plane.specs.Conflict.{IsClearOf}
use Rattle.plane.specs.Edge.{Edge, IsRisingEdge, ends_at, reversed, same_edge, segment_of}
use Rattle.plane.specs.FreeSegment.{IsBetween}
use Rattle.plane.specs.Order.{order}
use Rattle.plane.specs.RayCrossing.{is_off, off_by}
use Rattle.plane.specs.Scale.{scaled_edge, scaled_point}
use Rattle.plane.specs.Sign.{Minus, Null, Plus, Sign, is_plus, negated, sign}
use Rattle.plane.specs.Vector.{Vector, cross, dot, from_to, same_point}
use Rattle.plane_lists.specs.Lists.ScaledEdges.{scaled_edges}
use Rattle.plane_lists.specs.Lists.Sided.{IsSided}
use Rattle.plane_lists.specs.Valid.Valid.{MeetAtEnds}
use Rattle.lists.proofs.ListsKit.{all-in, in-map, pairs-across, pairs-left, pairs-right, pairs-weaker}
use Rattle.plane_lists.proofs.NestingKit.{clear-two, differ, in-edges, no-loop-segments, rise, segment-back, sided-once}
use Rattle.plane_lists.proofs.PathsKit.{later-along, later-some}
use Rattle.plane.proofs.PlaneKit.{clear_misses, clear_off_from, clear_off_to, cross-here, cross-self, dot-here, dot-there_back, edge-scaled, frame-dot-agree, inner_point_off, off-turned, on-between, orient-round, same_point-refl, same_point-true, step-direction, view_at}
use Rattle.plane.proofs.SignKit.{agree, sign-reversed, times}
use Rattle.plane_lists.proofs.WindingKit.{sided-scaled}
use Rattle.plane_lists.specs.Paths.Near.{near}

-- ---- a point strictly between the ends is on the edge, and no end
minus-by : (s : Sign) → agree Minus Null (times Plus s) ≡ true → off_by Null s ≡ false
minus-by Minus h = refl
minus-by Null h = absurd (cc h)
minus-by Plus h = absurd (cc h)

minus-on : (x y z w s : Sign) → x ≡ Minus → y ≡ Plus → z ≡ Null → w ≡ Null → agree (times x y) (times z w) (times Plus s) ≡ true → off_by Null s ≡ false
minus-on x y z w s hx hy hz hw h =
    minus-by s
    (subst (λ n. agree (times n Plus) (times Null Null) (times Plus s) ≡ true) hx
    (subst (λ n. agree (times x n) (times Null Null) (times Plus s) ≡ true) hy
    (subst (λ n. agree (times x y) (times n Null) (times Plus s) ≡ true) hz
    (subst (λ n. agree (times x y) (times z n) (times Plus s) ≡ true) hw h))))

pub inner-on : (s : Edge) (p : Vector) → IsBetween s.from s.to p → is_off p s ≡ false
inner-on s p i =
    let d = from_to s.from s.to in let a = from_to p s.from in let b = from_to p s.to in
    let v = view_at s.from s.to p i in
    ap (λ c. off_by c (sign (dot a b))) (sym (ap sign (orient-round p s.from s.to)) ∙ i.on_line)
    ∙ minus-on (sign (dot d a)) (sign (dot d b)) (sign (cross d a)) (sign (cross d b)) (sign (dot a b))
    (sign-reversed (dot d (from_to s.from p)) (dot d a) (dot-there_back d s.from p) ∙ ap negated i.after_s) i.before_t (v.side s.from ∙ ap sign (cross-here d s.from)) (v.side s.to ∙ ap sign (cross-self d))
    (frame-dot-agree d a b v.direction)

no-end-by : (s : Edge) (p : Vector) → IsBetween s.from s.to p → (b c : Bool) → same_point p s.from ≡ b → same_point p s.to ≡ c → (b || c) ≡ true → ⊥
no-end-by s p i true c h k o =
    let d = from_to s.from s.to in
    cc (sym i.after_s ∙ ap (λ w. sign (dot d (from_to s.from w))) (same_point-true p s.from h) ∙ ap sign (dot-here d s.from))
no-end-by s p i false true h k o =
    let d = from_to s.from s.to in
    cc (sym i.before_t ∙ ap (λ w. sign (dot d (from_to w s.to))) (same_point-true p s.to k) ∙ ap sign (dot-here d s.to))
no-end-by s p i false false h k o = cc o

pub not-end : (s : Edge) (p : Vector) → IsBetween s.from s.to p → ends_at p s ≡ true → ⊥
not-end s p i h = no-end-by s p i (same_point p s.from) (same_point p s.to) refl refl h

-- an edge doesn't meet itself at ends alone
pub own-meet : (e : Edge) → same_point e.from e.to ≡ false → MeetAtEnds e e → ⊥
own-meet e d m =
    let s = later-some (λ k. IsBetween (scaled_point k e.from) (scaled_point k e.to) (near k e.from (from_to e.from e.to))) (later-along e.from e.to (step-direction e.from e.to d)) in
    let r = near s.0 e.from (from_to e.from e.to) in let on = inner-on (scaled_edge s.0 e) r s.2 in not-end (scaled_edge s.0 e) r s.2 (m s.0 s.1 r on on).0

-- a point strictly inside the one edge is off the other
pub inner-off : (e f : Edge) (q : ℤ) → sign q ≡ Plus → (r : Vector) → IsBetween (scaled_point q e.from) (scaled_point q e.to) r → MeetAtEnds e f → (b : Bool) → is_off r (scaled_edge q f) ≡ b → b ≡ true
inner-off e f q hq r b m true h = refl
inner-off e f q hq r b m false h = absurd (not-end (scaled_edge q e) r b (m q hq r (inner-on (scaled_edge q e) r b) h).0)

-- ---- two segments
module _ (s t : Edge) (rs : IsRisingEdge s) (rt : IsRisingEdge t) (clear : IsClearOf s t) (p : Vector) (ps : is_off p s ≡ false) (pt : is_off p t ≡ false) where
  no-end : (b c : Bool) → same_point p t.from ≡ b → same_point p t.to ≡ c → (same_point p s.from ≡ true) ⊎ (same_point p s.to ≡ true) → (b || c) ≡ true
  no-end true c x y h = refl
  no-end false true x y h = refl
  no-end false false x y (inl h) =
      let q = same_point-true p s.from h in
      let o = clear_off_from s t rt clear (ap (λ w. same_point w t.from) (sym q) ∙ x) (ap (λ w. same_point w t.to) (sym q) ∙ y) in
      absurd (cc (sym (ap (λ w. is_off w t) q ∙ o) ∙ pt))
  no-end false false x y (inr h) =
      let q = same_point-true p s.to h in
      let o = clear_off_to s t rt clear (ap (λ w. same_point w t.from) (sym q) ∙ x) (ap (λ w. same_point w t.to) (sym q) ∙ y) in
      absurd (cc (sym (ap (λ w. is_off w t) q ∙ o) ∙ pt))

  both-ends : (b c : Bool) → same_point p s.from ≡ b → same_point p s.to ≡ c → ((b || c) ≡ true) × (ends_at p t ≡ true)
  both-ends true c x y = (refl, no-end (same_point p t.from) (same_point p t.to) refl refl (inl x))
  both-ends false true x y = (refl, no-end (same_point p t.from) (same_point p t.to) refl refl (inr y))
  both-ends false false x y =
      let o = inner_point_off s.from s.to p t (on-between s p ps x y) (clear_misses s t rs rt clear) in absurd (cc (sym o ∙ pt))

  meet-segments : (ends_at p s ≡ true) × (ends_at p t ≡ true)
  meet-segments = both-ends (same_point p s.from) (same_point p s.to) refl refl

-- ---- an edge and its segment
pub on-reversed : (p : Vector) (e : Edge) → is_off p (reversed e) ≡ is_off p e
on-reversed p e = off-turned (from_to p e.from) (from_to p e.to)

on-by : (p : Vector) (e : Edge) (b : Bool) → is_off p (cond b e (reversed e)) ≡ is_off p e
on-by p e true = refl
on-by p e false = on-reversed p e

-- ---- edges of a sided list
module _ (es : List Edge) (sd : IsSided es) where
  no-loop-by : (e : Edge) → In e es → (b : Bool) → same_point e.from e.to ≡ b → b ≡ false
  no-loop-by e i false q = refl
  no-loop-by e i true q = absurd (no-loop-segments e.from e (same_point-refl e.from) q (rise es sd e i))

  pub no-loop : (e : Edge) → In e es → same_point e.from e.to ≡ false
  no-loop e i = no-loop-by e i (same_point e.from e.to) refl

  pub meet : (e f : Edge) → In e es → In f es → same_edge e f ≡ false → MeetAtEnds e f
  meet e f i j n = λ k hk p x y.
      let ks = scaled_edges k es in let u = scaled_edge k e in let v = scaled_edge k f in
      let ku = in-map (scaled_edge k) es e i in let kv = in-map (scaled_edge k) es f j in
      let sk = sided-scaled k hk es sd in
      let m = meet-segments (segment_of u) (segment_of v) (rise ks sk u ku) (rise ks sk v kv) (clear-two ks sk u v ku kv (edge-scaled k hk e f ∙ n)) p
      (on-by p u (is_plus (order u.from u.to)) ∙ x) (on-by p v (is_plus (order v.from v.to)) ∙ y) in
      (segment-back p u m.0, segment-back p v m.1)

  pub meet-pairs : EachPair MeetAtEnds es
  meet-pairs = pairs-weaker (λ (x y : Edge). x ≡ y → ⊥) MeetAtEnds es (λ x y i j n. meet x y i j (differ x y n)) (sided-once es sd)

-- ---- pairs of edges of lists
abbrev pub Meet : List Edge → List Edge → Type 0
Meet r s = (e f : Edge) → In e r → In f s → MeetAtEnds e f

pub pairs-lists : (rs : List (List Edge)) → EachPair MeetAtEnds (edges_of rs) → EachPair Meet rs
pairs-lists [] p = tt
pairs-lists (r ∷ rs) p = (
  all-in (Meet r) rs (λ s i e f x y. pairs-across MeetAtEnds r (edges_of rs) e f p x (in-edges rs s f i y)),
  pairs-lists rs (pairs-right MeetAtEnds r (edges_of rs) p),
)

pub pairs-own : (rs : List (List Edge)) → EachPair MeetAtEnds (edges_of rs) → (r : List Edge) → In r rs → EachPair MeetAtEnds r
pairs-own [] p r i = absurd i
pairs-own (s ∷ rs) p r (inl e) = subst (EachPair MeetAtEnds) (sym e) (pairs-left MeetAtEnds s (edges_of rs) p)
pairs-own (s ∷ rs) p r (inr i) = pairs-own rs (pairs-right MeetAtEnds s (edges_of rs) p) r i
