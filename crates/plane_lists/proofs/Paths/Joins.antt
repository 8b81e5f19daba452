-- Joined points.
use Rattle.std.proofs.Common.{All, List, [], map, pos, refl, subst, sym, ℤ, ◌*ℤ◌, ◌++◌, ◌↔◌, ◌∙◌, ◌∷◌, ◌≡◌}
use Rattle.lists.proofs.ListsKit.{all-in, in-all, in-map-out}
use Rattle.plane_lists.specs.Paths.Line.{IsApart, IsFreeStep, IsPolyline, Joined}
use Rattle.plane.specs.Edge.{Edge}
use Rattle.plane.specs.RayCrossing.{IsOffEdge}
use Rattle.plane.specs.Scale.{scaled_edge, scaled_point}
use Rattle.plane.specs.Sign.{Plus, sign}
use Rattle.plane.specs.Vector.{Vector}
use Rattle.plane_lists.specs.Lists.ScaledEdges.{scaled_edges}
use Rattle.plane.proofs.PlaneKit.{point-turned, point-twice}
use Rattle.plane.proofs.SignKit.{plus-times}
use Rattle.plane_lists.proofs.WindingKit.{all-off-back, edges-turned, edges-twice}
use Rattle.plane_lists.proofs.Paths.Steps.{apart-back, apart-off, apart-times, off-apart}

-- ---- lines
pub free-back : (es : List Edge) (p q : Vector) → IsFreeStep es p q → IsFreeStep es q p
free-back es p q h = λ e i. apart-back p q e (h e i)

pub line-join : (es : List Edge) (p : Vector) (cs : List Vector) (q : Vector) (ds : List Vector) (r : Vector) → IsPolyline es p cs q → IsPolyline es q ds r → IsPolyline es p (cs ++ (q ∷ ds)) r
line-join es p [] q ds r h k = (h, k)
line-join es p (c ∷ cs) q ds r h k = (h.0, line-join es c cs q ds r h.1 k)

pub line-back : (es : List Edge) (p : Vector) (cs : List Vector) (q : Vector) → IsPolyline es p cs q → (ds : List Vector) × IsPolyline es q ds p
line-back es p [] q h = ([], free-back es p q h)
line-back es p (c ∷ cs) q h =
    let r = line-back es c cs q h.1 in (r.0 ++ (c ∷ []), line-join es q r.0 c [] p r.1 (free-back es p c h.0))

pub free-times : (k : ℤ) → sign k ≡ Plus → (es : List Edge) (p q : Vector) → IsFreeStep es p q → IsFreeStep (scaled_edges k es) (scaled_point k p) (scaled_point k q)
free-times k hk es p q h = λ e i.
    let r = in-map-out (scaled_edge k) es e i in subst (λ w. IsApart (scaled_point k p) (scaled_point k q) w) (sym r.2) (apart-times k hk p q r.0 (h r.0 r.1))

pub line-times : (k : ℤ) → sign k ≡ Plus → (es : List Edge) (p : Vector) (cs : List Vector) (q : Vector) → IsPolyline es p cs q →
    IsPolyline (scaled_edges k es) (scaled_point k p) (map (scaled_point k) cs) (scaled_point k q)
line-times k hk es p [] q h = free-times k hk es p q h
line-times k hk es p (c ∷ cs) q h = (free-times k hk es p c h.0, line-times k hk es c cs q h.1)

-- ---- multiplied twice
-- a line off the list multiplied by q and then by k
pub joined-twice : (es : List Edge) (p q : Vector) (k m : ℤ) → sign k ≡ Plus → sign m ≡ Plus → (cs : List Vector) →
    IsPolyline (scaled_edges k (scaled_edges m es)) (scaled_point k (scaled_point m p)) cs (scaled_point k (scaled_point m q)) → Joined es p q
joined-twice es p q k m hk hm cs h = record {
  multiple = k *ℤ m;
  positive = plus-times k m hk ∙ hm;
  corners = cs;
  line = subst (λ (l : List Edge). IsPolyline l (scaled_point (k *ℤ m) p) cs (scaled_point (k *ℤ m) q)) (edges-twice k m es)
      (subst (λ (u : Vector). IsPolyline (scaled_edges k (scaled_edges m es)) u cs (scaled_point (k *ℤ m) q)) (point-twice k m p)
      (subst (λ (u : Vector). IsPolyline (scaled_edges k (scaled_edges m es)) (scaled_point k (scaled_point m p)) cs u) (point-twice k m q) h));
}

-- a line off the list itself
pub joined-here : (es : List Edge) (p q : Vector) (cs : List Vector) → IsPolyline es p cs q → Joined es p q
joined-here es p q cs h = record { multiple = pos 1; positive = refl; corners = map (scaled_point (pos 1)) cs; line = line-times (pos 1) refl es p cs q h }

pub joined-step : (es : List Edge) (p q : Vector) → IsFreeStep es p q → Joined es p q
joined-step es p q h = joined-here es p q [] h

-- ---- the laws
pub joined-self : (es : List Edge) (p : Vector) → All (IsOffEdge p) es → Joined es p p
joined-self es p o = joined-step es p p (λ e i. off-apart p e (in-all (IsOffEdge p) es e o i))

pub joined-back : (es : List Edge) (p q : Vector) → Joined es p q → Joined es q p
joined-back es p q j =
    let m = j.multiple in let r = line-back (scaled_edges m es) (scaled_point m p) j.corners (scaled_point m q) j.line in
    record { multiple = m; positive = j.positive; corners = r.0; line = r.1 }

-- the same at a line of the list multiplied by the other number first
turn-line : (es : List Edge) (p q : Vector) (k m : ℤ) (cs : List Vector) →
    IsPolyline (scaled_edges k (scaled_edges m es)) (scaled_point k (scaled_point m p)) cs (scaled_point k (scaled_point m q)) →
    IsPolyline (scaled_edges m (scaled_edges k es)) (scaled_point m (scaled_point k p)) cs (scaled_point m (scaled_point k q))
turn-line es p q k m cs h =
    subst (λ (l : List Edge). IsPolyline l (scaled_point m (scaled_point k p)) cs (scaled_point m (scaled_point k q))) (edges-turned k m es)
    (subst (λ (u : Vector). IsPolyline (scaled_edges k (scaled_edges m es)) u cs (scaled_point m (scaled_point k q))) (point-turned k m p)
    (subst (λ (u : Vector). IsPolyline (scaled_edges k (scaled_edges m es)) (scaled_point k (scaled_point m p)) cs u) (point-turned k m q) h))

pub joined-chain : (es : List Edge) (p q r : Vector) → Joined es p q → Joined es q r → Joined es p r
joined-chain es p q r a b =
    let m = a.multiple in let k = b.multiple in
    let x = line-times k b.positive (scaled_edges m es) (scaled_point m p) a.corners (scaled_point m q) a.line in
    let y = turn-line es q r m k (map (scaled_point m) b.corners) (line-times m a.positive (scaled_edges k es) (scaled_point k q) b.corners (scaled_point k r) b.line) in
    joined-twice es p r k m b.positive a.positive _ (line-join (scaled_edges k (scaled_edges m es)) (scaled_point k (scaled_point m p)) (map (scaled_point k) a.corners) (scaled_point k (scaled_point m q)) (map (scaled_point m) b.corners) (scaled_point k (scaled_point m r)) x y)

line-off : (es : List Edge) (p : Vector) (cs : List Vector) (q : Vector) → IsPolyline es p cs q → All (IsOffEdge p) es
line-off es p [] q h = all-in (IsOffEdge p) es (λ e i. apart-off p q e (h e i))
line-off es p (c ∷ cs) q h = all-in (IsOffEdge p) es (λ e i. apart-off p c e (h.0 e i))

pub joined-off : (es : List Edge) (p q : Vector) → Joined es p q → All (IsOffEdge p) es
joined-off es p q j = all-off-back j.multiple j.positive p es (line-off (scaled_edges j.multiple es) (scaled_point j.multiple p) j.corners (scaled_point j.multiple q) j.line)

pub joined-down : (k : ℤ) → sign k ≡ Plus → (es : List Edge) (p q : Vector) → Joined (scaled_edges k es) (scaled_point k p) (scaled_point k q) → Joined es p q
joined-down k hk es p q j = joined-twice es p q j.multiple k j.positive hk j.corners j.line

pub joined-up : (k : ℤ) → sign k ≡ Plus → (es : List Edge) (p q : Vector) → Joined es p q → Joined (scaled_edges k es) (scaled_point k p) (scaled_point k q)
joined-up k hk es p q j =
    let m = j.multiple in record {
      multiple = m;
      positive = j.positive;
      corners = map (scaled_point k) j.corners;
      line = turn-line es p q k m (map (scaled_point k) j.corners) (line-times k hk (scaled_edges m es) (scaled_point m p) j.corners (scaled_point m q) j.line);
    }

pub joined-scaled : (k : ℤ) → sign k ≡ Plus → (es : List Edge) (p q : Vector) → Joined (scaled_edges k es) (scaled_point k p) (scaled_point k q) ↔ Joined es p q
joined-scaled k hk es p q = (joined-down k hk es p q, joined-up k hk es p q)
