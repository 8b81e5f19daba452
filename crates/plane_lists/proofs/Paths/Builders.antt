-- Points left beside an edge, from places near whole points.
use Rattle.std.proofs.Common.{Bool, List, ap, arith, cond, false, refl, subst, sym, true, ℤ, ◌*ℤ◌, ◌∙◌, ◌≡◌}
use Rattle.lists.specs.Member.{In}
use Rattle.plane_lists.specs.Paths.Beside.{AreBeside, IsLeftBeside}
use Rattle.plane_lists.specs.Paths.Line.{IsApart, IsLeftAlong}
use Rattle.plane.specs.Edge.{Edge, reversed, same_edge, segment_of}
use Rattle.plane.specs.FreeSegment.{IsBetween}
use Rattle.plane.specs.Order.{order}
use Rattle.plane.specs.Scale.{scaled_edge, scaled_point}
use Rattle.plane.specs.Sign.{Plus, is_plus, sign}
use Rattle.plane.specs.Vector.{Vector, cross, from_to}
use Rattle.plane_lists.specs.Lists.ScaledEdges.{scaled_edges}
use Rattle.lists.proofs.ListsKit.{in-map-out}
use Rattle.plane.proofs.PlaneKit.{cross2, edge-scaled, from_to-scaled, from_to2, lift2, point-twice, same_edge_by}
use Rattle.plane.proofs.SignKit.{plus-times, same}
use Rattle.plane_lists.proofs.Paths.FeetAbove.{first-times}
use Rattle.plane_lists.proofs.Paths.Inside.{between-back}
use Rattle.plane_lists.proofs.Paths.Later.{IsLeftNear, IsNearApart, Later, later-all, later-apart, later-both, later-left, later-some, later-then, near}
use Rattle.plane_lists.proofs.WindingKit.{edges-twice}

turn-both : (f t w x : Vector) → cross (from_to t f) (from_to w x) ≡ cross (from_to f t) (from_to x w)
turn-both f t w x =
    let f' = lift2 f in let t' = lift2 t in let w' = lift2 w in let x' = lift2 x in
    same (cross2 (from_to2 t' f') (from_to2 w' x')) (cross2 (from_to2 f' t') (from_to2 x' w')) (omega arith)

-- the side of a multiplied edge
pub line-sign : (k m : ℤ) → sign k ≡ Plus → sign m ≡ Plus → (f t z : Vector) → sign (cross (from_to (scaled_point k (scaled_point m f)) (scaled_point k (scaled_point m t))) z) ≡ sign (cross (from_to f t) z)
line-sign k m hk hm f t z =
    ap (λ d. sign (cross d z)) (from_to-scaled k hk (scaled_point m f) (scaled_point m t) ∙ ap (scaled_point k) (from_to-scaled m hm f t))
    ∙ ap sign (first-times k (scaled_point m (from_to f t)) z) ∙ plus-times k (cross (scaled_point m (from_to f t)) z) hk
    ∙ ap sign (first-times m (from_to f t) z) ∙ plus-times m (cross (from_to f t) z) hm

apart-if : (X U Y V : Vector) (e g : Edge) (m : ℤ) → (same_edge e g ≡ false → IsNearApart X U Y V (scaled_edge m g)) → (b : Bool) → same_edge e g ≡ b →
    Later (λ k. same_edge e g ≡ false → IsApart (near k X U) (near k Y V) (scaled_edge k (scaled_edge m g)))
apart-if X U Y V e g m h true q = (0, λ k l n. absurd (cc (sym q ∙ n)))
apart-if X U Y V e g m h false q =
    later-then (λ k. IsApart (near k X U) (near k Y V) (scaled_edge k (scaled_edge m g))) (λ k. same_edge e g ≡ false → IsApart (near k X U) (near k Y V) (scaled_edge k (scaled_edge m g)))
    (λ k hk a n. a) (later-apart X U Y V (scaled_edge m g) (h q))

module _ (es : List Edge) (e : Edge) (m : ℤ) (hm : sign m ≡ Plus) (X U Y V : Vector) where
  abbrev Between : ℤ → Type 0
  Between k = IsBetween (scaled_point k (scaled_point m e.from)) (scaled_point k (scaled_point m e.to)) (near k Y V)

  abbrev Left : ℤ → Type 0
  Left k = IsLeftAlong (from_to e.to e.from) (near k X U) (scaled_point k (scaled_point m e.from))

  abbrev Free : ℤ → Type 0
  Free k = (g : Edge) → In g es → same_edge e g ≡ false → IsApart (near k X U) (near k Y V) (scaled_edge k (scaled_edge m g))

  free-in : (k : ℤ) → sign k ≡ Plus → Free k → (f : Edge) → In f (scaled_edges k (scaled_edges m es)) → same_edge (scaled_edge k (scaled_edge m e)) f ≡ false → IsApart (near k X U) (near k Y V) f
  free-in k hk h f j n =
      let r = in-map-out (scaled_edge k) (scaled_edges m es) f j in let s = in-map-out (scaled_edge m) es r.0 r.1 in
      let q : f ≡ scaled_edge k (scaled_edge m s.0) = r.2 ∙ ap (scaled_edge k) s.2 in
      let d = sym (edge-scaled m hm e s.0) ∙ sym (edge-scaled k hk (scaled_edge m e) (scaled_edge m s.0)) ∙ subst (λ w. same_edge (scaled_edge k (scaled_edge m e)) w ≡ false) q n in
      subst (λ w. IsApart (near k X U) (near k Y V) w) (sym q) (h s.0 s.1 d)

  pub later-beside : Later Between → IsLeftNear (from_to e.to e.from) X U (scaled_point m e.from) → ((g : Edge) → In g es → same_edge e g ≡ false → IsNearApart X U Y V (scaled_edge m g)) →
      Later (λ k. IsLeftBeside (scaled_edges k (scaled_edges m es)) (scaled_edge k (scaled_edge m e)) (near k X U))
  later-beside b l f =
      later-then (λ k. (Between k × Left k) × Free k) (λ k. IsLeftBeside (scaled_edges k (scaled_edges m es)) (scaled_edge k (scaled_edge m e)) (near k X U))
      (λ k hk h. record {
        foot = near k Y V;
        inside = h.0.0;
        left = line-sign k m hk hm e.from e.to (from_to (scaled_point k (scaled_point m e.from)) (near k X U))
            ∙ ap sign (sym (turn-both e.from e.to (near k X U) (scaled_point k (scaled_point m e.from)))) ∙ h.0.1;
        free = free-in k hk h.1;
      })
      (later-both (λ k. Between k × Left k) Free
      (later-both Between Left b (later-left (from_to e.to e.from) X U (scaled_point m e.from) l))
      (later-all (λ g k. same_edge e g ≡ false → IsApart (near k X U) (near k Y V) (scaled_edge k (scaled_edge m g))) es (λ g i. apart-if X U Y V e g m (f g i) (same_edge e g) refl)))

-- ---- multiplied twice
pub edge-twice : (k m : ℤ) (e : Edge) → scaled_edge k (scaled_edge m e) ≡ scaled_edge (k *ℤ m) e
edge-twice k m e =
    same_edge_by (scaled_point k (scaled_point m e.from)) (scaled_point k (scaled_point m e.to)) (scaled_point (k *ℤ m) e.from) (scaled_point (k *ℤ m) e.to) (point-twice k m e.from) (point-twice k m e.to)

pub beside-twice : (k m : ℤ) (es : List Edge) (e : Edge) (p : Vector) → IsLeftBeside (scaled_edges k (scaled_edges m es)) (scaled_edge k (scaled_edge m e)) p → IsLeftBeside (scaled_edges (k *ℤ m) es) (scaled_edge (k *ℤ m) e) p
beside-twice k m es e p a =
    subst (λ w. IsLeftBeside (scaled_edges (k *ℤ m) es) w p) (edge-twice k m e) (subst (λ l. IsLeftBeside l (scaled_edge k (scaled_edge m e)) p) (edges-twice k m es) a)

-- one place that is later left beside two edges
pub are-beside : (es : List Edge) (e f : Edge) (m : ℤ) → sign m ≡ Plus → (X U : Vector) →
    Later (λ k. IsLeftBeside (scaled_edges k (scaled_edges m es)) (scaled_edge k (scaled_edge m e)) (near k X U)) →
    Later (λ k. IsLeftBeside (scaled_edges k (scaled_edges m es)) (scaled_edge k (scaled_edge m f)) (near k X U)) → AreBeside es e f
are-beside es e f m hm X U a b =
    let A = λ (k : ℤ). IsLeftBeside (scaled_edges k (scaled_edges m es)) (scaled_edge k (scaled_edge m e)) (near k X U) in
    let B = λ (k : ℤ). IsLeftBeside (scaled_edges k (scaled_edges m es)) (scaled_edge k (scaled_edge m f)) (near k X U) in
    let s = later-some (λ k. A k × B k) (later-both A B a b) in
    record {
      multiple = s.0 *ℤ m;
      positive = plus-times s.0 m s.1 ∙ hm;
      point = near s.0 X U;
      beside_first = beside-twice s.0 m es e (near s.0 X U) s.2.0;
      beside_second = beside-twice s.0 m es f (near s.0 X U) s.2.1;
    }

-- ---- edges either way round
near-unturned-by : (b : Bool) (X U Y V : Vector) (m : ℤ) (g : Edge) → IsNearApart X U Y V (scaled_edge m (cond b g (reversed g))) → IsNearApart X U Y V (scaled_edge m g)
near-unturned-by true X U Y V m g a = a
near-unturned-by false X U Y V m g a = record { along = a.along; first_from = a.first_to; first_to = a.first_from; last_from = a.last_to; last_to = a.last_from }

pub near-unturned : (X U Y V : Vector) (m : ℤ) (g : Edge) → IsNearApart X U Y V (scaled_edge m (segment_of g)) → IsNearApart X U Y V (scaled_edge m g)
near-unturned X U Y V m g a = near-unturned-by (is_plus (order g.from g.to)) X U Y V m g a

pub later-turned : (m : ℤ) (u v Y V : Vector) → Later (λ k. IsBetween (scaled_point k (scaled_point m u)) (scaled_point k (scaled_point m v)) (near k Y V)) → Later (λ k. IsBetween (scaled_point k (scaled_point m v)) (scaled_point k (scaled_point m u)) (near k Y V))
later-turned m u v Y V h =
    later-then (λ k. IsBetween (scaled_point k (scaled_point m u)) (scaled_point k (scaled_point m v)) (near k Y V)) (λ k. IsBetween (scaled_point k (scaled_point m v)) (scaled_point k (scaled_point m u)) (near k Y V))
    (λ k hk b. between-back (scaled_point k (scaled_point m u)) (scaled_point k (scaled_point m v)) (near k Y V) b) h
