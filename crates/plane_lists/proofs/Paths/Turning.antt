-- An edge and its successor: near the node between them a point is left beside both.
use Rattle.std.proofs.Common.{Bool, List, ap, arith, cond, false, not, pos, refl, subst, sym, true, ℕ, ℤ, ◌&&◌, ◌*ℤ◌, ◌+ℤ◌, ◌-ℤ◌, ◌<◌, ◌∙◌, ◌≡◌, inl, inr}
use borrow.Author.Differences.{ints}
use Rattle.lists.specs.Member.{In}
use Rattle.plane_lists.specs.Rings.Walk.{IsSuccessor}
use Rattle.plane_lists.specs.Paths.Beside.{AreBeside}
use Rattle.plane.specs.Edge.{Edge, ends_at, other_end, same_edge, segment_of}
use Rattle.plane.specs.FreeSegment.{IsBetween}
use Rattle.plane.specs.RayCrossing.{IsOffEdge}
use Rattle.plane.specs.Scale.{scaled_edge, scaled_point}
use Rattle.plane.specs.Sign.{Minus, Null, Plus, is_null, is_plus, negated, sign}
use Rattle.plane.specs.Vector.{IsNonZero, Vector, cross, dot, from_to, same_point}
use Rattle.plane_lists.specs.Lists.Node.{away}
use Rattle.plane_lists.specs.Lists.Ring.{segments_of}
use Rattle.plane_lists.specs.Lists.Sided.{IsSided}
use Rattle.lists.proofs.ListsKit.{in-all, in-map, into-filter}
use Rattle.plane_lists.proofs.NestingKit.{clear-two, next_leaves, no-loop-segments, rise, segment-back, segment-ends, sym-differs, way-segment}
use Rattle.plane.proofs.PlaneKit.{cross-here, cross-negated, cross-self, dot-times, ends_at-to, from_to-scaled, point-once, same_edge-true, same_edge_by, same_point-refl, same_vector}
use Rattle.plane.proofs.SignKit.{lift, plus-times, same, sign-from, ◌⊞◌, ◌⊟◌, ◌⊠◌}
use Rattle.plane_lists.proofs.WindingKit.{off_away, way, way-direction, ways_apart}
use Rattle.plane_lists.proofs.Paths.Builders.{are-beside, later-beside, later-turned}
use Rattle.plane_lists.proofs.Paths.FeetAbove.{first-times}
use Rattle.plane_lists.proofs.Paths.Inside.{apart-unturned, way-back}
use Rattle.plane_lists.proofs.Paths.Later.{IsLeftNear, IsNearApart, Later, apart-near, near}
use Rattle.plane_lists.proofs.Paths.Middles.{IsCone, Middle, cone, cone-near, middle, out-first, out-last}
use Rattle.plane_lists.proofs.Paths.Steps.{off-apart}

-- ---- near an end of an edge, along it
step-of : (k : ℤ) (v D : Vector) → from_to (scaled_point k v) (near k v D) ≡ D
step-of k v D = same_vector ((k *ℤ v.x +ℤ D.x) -ℤ k *ℤ v.x) ((k *ℤ v.y +ℤ D.y) -ℤ k *ℤ v.y) D.x D.y (omega (arith, ints)) (omega (arith, ints))

rest-by : (k a b : ℤ) → k *ℤ b -ℤ (k *ℤ a +ℤ (b -ℤ a)) ≡ (k -ℤ pos 1) *ℤ (b -ℤ a)
rest-by k a b = let k' = lift k in let a' = lift a in let b' = lift b in same (k' ⊠ b' ⊟ (k' ⊠ a' ⊞ (b' ⊟ a'))) ((k' ⊟ lift (pos 1)) ⊠ (b' ⊟ a')) (omega arith)

rest-of : (k : ℤ) (v w : Vector) → from_to (near k v (from_to v w)) (scaled_point k w) ≡ scaled_point (k -ℤ pos 1) (from_to v w)
rest-of k v w =
    same_vector (k *ℤ w.x -ℤ (k *ℤ v.x +ℤ (w.x -ℤ v.x))) (k *ℤ w.y -ℤ (k *ℤ v.y +ℤ (w.y -ℤ v.y))) ((k -ℤ pos 1) *ℤ (w.x -ℤ v.x)) ((k -ℤ pos 1) *ℤ (w.y -ℤ v.y))
    (rest-by k v.x w.x) (rest-by k v.y w.y)

dot-first : (k : ℤ) (d w : Vector) → dot (scaled_point k d) w ≡ k *ℤ dot d w
dot-first k d w =
    let k' = lift k in let a = lift d.x in let b = lift d.y in let c = lift w.x in let e = lift w.y in
    same ((k' ⊠ a) ⊠ c ⊞ (k' ⊠ b) ⊠ e) (k' ⊠ (a ⊠ c ⊞ b ⊠ e)) (omega arith)

less-one : (k : ℕ) → 1 < k → sign (pos k -ℤ pos 1) ≡ Plus
less-one k h = sign-from Plus (pos k -ℤ pos 1) (omega (arith, ints))

some : (k : ℕ) → 1 < k → sign (pos k) ≡ Plus
some k h = sign-from Plus (pos k) (omega (arith, ints))

between-spoke : (v w : Vector) → IsNonZero (from_to v w) → (k : ℤ) → sign k ≡ Plus → sign (k -ℤ pos 1) ≡ Plus → IsBetween (scaled_point k v) (scaled_point k w) (near k v (from_to v w))
between-spoke v w d k hk hl =
    let D = from_to v w in let l = from_to-scaled k hk v w in let s = step-of k v D in let r = rest-of k v w in record {
      on_line = ap (λ z. sign (cross z (from_to (scaled_point k v) (near k v D)))) l ∙ ap (λ z. sign (cross (scaled_point k D) z)) s ∙ ap sign (first-times k D D) ∙ plus-times k (cross D D) hk ∙ ap sign (cross-self D);
      after_s = ap (λ z. sign (dot z (from_to (scaled_point k v) (near k v D)))) l ∙ ap (λ z. sign (dot (scaled_point k D) z)) s ∙ ap sign (dot-first k D D) ∙ plus-times k (dot D D) hk ∙ d;
      before_t = ap (λ z. sign (dot z (from_to (near k v D) (scaled_point k w)))) l ∙ ap (λ z. sign (dot (scaled_point k D) z)) r ∙ ap sign (dot-first k D (scaled_point (k -ℤ pos 1) D)) ∙ plus-times k (dot D (scaled_point (k -ℤ pos 1) D)) hk
          ∙ ap sign (dot-times (k -ℤ pos 1) D D) ∙ plus-times (k -ℤ pos 1) (dot D D) hl ∙ d;
    }

-- so the point is strictly inside the step from some multiple on
pub later-along : (v w : Vector) → IsNonZero (from_to v w) → Later (λ k. IsBetween (scaled_point k v) (scaled_point k w) (near k v (from_to v w)))
later-along v w d = (1, λ k h. between-spoke v w d (pos k) (some k h) (less-one k h))

-- multiplied by one
pub later-spoke : (v w : Vector) → IsNonZero (from_to v w) → Later (λ k. IsBetween (scaled_point k (scaled_point (pos 1) v)) (scaled_point k (scaled_point (pos 1) w)) (near k v (from_to v w)))
later-spoke v w d =
    let b = later-along v w d in (
      b.0,
      λ k h.
          subst (λ z. IsBetween (scaled_point (pos k) z) (scaled_point (pos k) (scaled_point (pos 1) w)) (near (pos k) v (from_to v w))) (sym (point-once v))
          (subst (λ z. IsBetween (scaled_point (pos k) v) (scaled_point (pos k) z) (near (pos k) v (from_to v w))) (sym (point-once w)) (b.1 k h)),
    )

edge-once : (g : Edge) → scaled_edge (pos 1) g ≡ g
edge-once g = same_edge_by (scaled_point (pos 1) g.from) (scaled_point (pos 1) g.to) g.from g.to (point-once g.from) (point-once g.to)

near-back : (X U Y V : Vector) (g : Edge) → IsNearApart X U Y V g → IsNearApart Y V X U g
near-back X U Y V g a = record { along = a.along; first_from = a.last_from; first_to = a.last_to; last_from = a.first_from; last_to = a.first_to }

module _ (es : List Edge) (sd : IsSided es) (e s : Edge) (i : In e es) (n : IsSuccessor es e s) where
  abbrev v : Vector
  v = e.to

  abbrev spoke : Edge → Vector
  spoke g = from_to v (other_end v g)

  abbrev S : Vector
  S = spoke s

  abbrev B : Vector
  B = spoke e

  h : ends_at v e ≡ true
  h = ends_at-to e

  direct : (g : Edge) → In g es → ends_at v g ≡ true → IsNonZero (spoke g)
  direct g j k = subst IsNonZero (way-segment v g k (rise es sd g j)) (way-direction v (segment_of g) (segment-ends v g k) (rise es sd g j))

  separate : (f g : Edge) → In f es → In g es → ends_at v f ≡ true → ends_at v g ≡ true → same_edge f g ≡ false → not (is_null (sign (cross (spoke f) (spoke g))) && is_plus (sign (dot (spoke f) (spoke g)))) ≡ true
  separate f g jf jg hf hg d =
      subst (λ w. not (is_null (sign (cross w (spoke g))) && is_plus (sign (dot w (spoke g)))) ≡ true) (way-segment v f hf (rise es sd f jf))
      (subst (λ w. not (is_null (sign (cross (way v (segment_of f)) w)) && is_plus (sign (dot (way v (segment_of f)) w))) ≡ true) (way-segment v g hg (rise es sd g jg))
      (ways_apart v (segment_of f) (segment_of g) (segment-ends v f hf) (segment-ends v g hg) (rise es sd f jf) (rise es sd g jg) (clear-two es sd f g jf jg d)))

  dS : IsNonZero S
  dS = direct s n.member n.meets

  dB : IsNonZero B
  dB = direct e i h

  nb : not (is_null (sign (cross S B)) && is_plus (sign (dot S B))) ≡ true
  nb = separate s e n.member i n.meets h (sym-differs s e n.other)

  mid : Middle S B
  mid = middle S B dS dB nb

  abbrev M : Vector
  M = mid.way

  -- ---- edges that don't end at the node
  not-up : (g : Edge) → ends_at v g ≡ false → (b : Bool) → ends_at v (segment_of g) ≡ b → not b ≡ true
  not-up g k false l = refl
  not-up g k true l = let m = segment-back v g l in absurd (cc (sym m ∙ k))

  far : (U V : Vector) (g : Edge) → In g es → ends_at v g ≡ false → IsNearApart v U v V g
  far U V g j k =
      let up = segments_of es in
      let o = in-all (IsOffEdge v) (away v up) (segment_of g) (off_away v (segment_of e) up sd.plain (in-map segment_of es e i) (segment-ends v e h))
      (into-filter (λ (t : Edge). not (ends_at v t)) up (segment_of g) (in-map segment_of es g j) (not-up g k (ends_at v (segment_of g)) refl)) in
      apart-near v v g (apart-unturned v v g (off-apart v (segment_of g) o)) U V

  -- ---- from the middle to the successor
  s-cone : (g : Edge) → In g es → same_edge s g ≡ false → ends_at v g ≡ true → (b : Bool) → same_edge e g ≡ b → IsCone S M (spoke g)
  s-cone g j d k true l = subst (λ w. IsCone S M (spoke w)) (same_edge-true e g l) (cone S M B mid.after (inr (cross-negated M B ∙ ap negated mid.before)))
  s-cone g j d k false l = cone S M (spoke g) mid.after (out-first S B dS dB nb mid (spoke g) (direct g j k) (separate s g n.member j n.meets k d) (n.first g j k l d))

  s-by : (g : Edge) → In g es → same_edge s g ≡ false → (b : Bool) → ends_at v g ≡ b → IsNearApart v M v S g
  s-by g j d true k = near-back v S v M g (cone-near v S M g k (s-cone g j d k (same_edge e g) refl))
  s-by g j d false k = far M S g j k

  -- ---- from the middle to the edge
  e-cone : (g : Edge) → In g es → same_edge e g ≡ false → ends_at v g ≡ true → (b : Bool) → same_edge s g ≡ b → IsCone M B (spoke g)
  e-cone g j d k true l = subst (λ w. IsCone M B (spoke w)) (same_edge-true s g l) (cone M B S mid.before (inl (cross-negated S M ∙ ap negated mid.after)))
  e-cone g j d k false l = cone M B (spoke g) mid.before (out-last S B dS dB nb mid (spoke g) (direct g j k) (separate s g n.member j n.meets k l) (n.first g j k d l))

  e-by : (g : Edge) → In g es → same_edge e g ≡ false → (b : Bool) → ends_at v g ≡ b → IsNearApart v M v B g
  e-by g j d true k = cone-near v M B g k (e-cone g j d k (same_edge s g) refl)
  e-by g j d false k = far M B g j k

  -- ---- the two spokes
  starts : v ≡ s.from
  starts = next_leaves es sd e s i n

  s-other : other_end v s ≡ s.to
  s-other = ap (λ b. cond b s.to s.from) (subst (λ w. same_point v w ≡ true) starts (same_point-refl v))

  no-loop : (b : Bool) → same_point v e.from ≡ b → b ≡ false
  no-loop false k = refl
  no-loop true k = absurd (no-loop-segments v e k (same_point-refl v) (rise es sd e i))

  e-other : other_end v e ≡ e.from
  e-other = ap (λ b. cond b e.to e.from) (no-loop (same_point v e.from) refl)

  S-is : S ≡ from_to s.from s.to
  S-is = ap (from_to v) s-other ∙ ap (λ w. from_to w s.to) starts

  B-is : B ≡ from_to e.to e.from
  B-is = ap (from_to v) e-other

  s-between : Later (λ k. IsBetween (scaled_point k (scaled_point (pos 1) s.from)) (scaled_point k (scaled_point (pos 1) s.to)) (near k v S))
  s-between =
      subst (λ (w : Vector). Later (λ k. IsBetween (scaled_point k (scaled_point (pos 1) s.from)) (scaled_point k (scaled_point (pos 1) s.to)) (near k v w))) (sym S-is)
      (subst (λ (w : Vector). Later (λ k. IsBetween (scaled_point k (scaled_point (pos 1) s.from)) (scaled_point k (scaled_point (pos 1) s.to)) (near k w (from_to s.from s.to)))) (sym starts)
      (later-spoke s.from s.to (subst IsNonZero S-is dS)))

  e-between : Later (λ k. IsBetween (scaled_point k (scaled_point (pos 1) e.from)) (scaled_point k (scaled_point (pos 1) e.to)) (near k v B))
  e-between =
      subst (λ (w : Vector). Later (λ k. IsBetween (scaled_point k (scaled_point (pos 1) e.from)) (scaled_point k (scaled_point (pos 1) e.to)) (near k v w))) (sym B-is)
      (later-turned (pos 1) e.to e.from v (from_to e.to e.from) (later-spoke e.to e.from (subst IsNonZero B-is dB)))

  s-left : IsLeftNear (from_to s.to s.from) v M (scaled_point (pos 1) s.from)
  s-left =
      subst (λ (z : Vector). IsLeftNear (from_to s.to s.from) v M z) (sym (point-once s.from))
      (inr (
        subst (λ (w : Vector). sign (cross (from_to s.to s.from) (from_to w s.from)) ≡ Null) (sym starts) (ap sign (cross-here (from_to s.to s.from) s.from)),
        way-back s.from s.to M ∙ ap negated (subst (λ (w : Vector). sign (cross w M) ≡ Plus) S-is mid.after),
      ))

  e-left : IsLeftNear (from_to e.to e.from) v M (scaled_point (pos 1) e.from)
  e-left =
      subst (λ (z : Vector). IsLeftNear (from_to e.to e.from) v M z) (sym (point-once e.from))
      (inr (
        ap sign (cross-self (from_to e.to e.from)),
        subst (λ (w : Vector). sign (cross w M) ≡ Minus) B-is (cross-negated M B ∙ ap negated mid.before),
      ))

  pub turning : AreBeside es e s
  turning =
      are-beside es e s (pos 1) refl v M
      (later-beside es e (pos 1) refl v M v B e-between e-left (λ g j d. subst (λ w. IsNearApart v M v B w) (sym (edge-once g)) (e-by g j d (ends_at v g) refl)))
      (later-beside es s (pos 1) refl v M v S s-between s-left (λ g j d. subst (λ w. IsNearApart v M v S w) (sym (edge-once g)) (s-by g j d (ends_at v g) refl)))
