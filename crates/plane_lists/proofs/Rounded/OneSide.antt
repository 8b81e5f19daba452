-- An edge on one side of a line through a point: what it counts there is told by its ends alone.
use Rattle.std.proofs.Common.{Bool, arith, refl, ◌+◌, ◌≡◌}
use Rattle.plane.specs.Edge.{Edge}
use Rattle.plane.specs.RayCrossing.{IsOffEdge, down_by, off_by, up_by}
use Rattle.plane.specs.Sector.{in_sector}
use Rattle.plane.specs.Sign.{Plus, Sign, sign}
use Rattle.plane.specs.Vector.{Vector, cross, dot, east, from_to}
use Rattle.plane.proofs.PlaneKit.{cross-direction, down_seen, east-direction, frame-agree, frame-dot-agree, sector_lemma, up_seen}
use Rattle.plane.proofs.SignKit.{agree, all4-out, imp, imp-out, times}
use Rattle.plane_lists.specs.Rounded.Clear.{IsLeftOf}

abbrev off_1 : Sign → Sign → Sign → Sign → Bool
off_1 x y c s = imp (agree (times Plus c) (times y Plus) (times x Plus)) λ _. imp (agree (times x y) (times Plus Plus) (times Plus s)) λ _. off_by c s

up-none : (s t c : Sign) → s ≡ Plus → t ≡ Plus → up_by s t c ≡ 0
up-none s t c h k = rw h refl

down-none : (s t c : Sign) → s ≡ Plus → t ≡ Plus → down_by s t c ≡ 0
down-none s t c h k = rw (h, k) refl

module _ (d p : Vector) (e : Edge) (h : IsLeftOf d p e.from) (k : IsLeftOf d p e.to) where
  pub left-off : IsOffEdge p e
  left-off =
      let u = from_to p e.from in let v = from_to p e.to in
      let z = cross-direction d u h in
      let f = rw (h, k) at (frame-agree d u v z) in
      let g = rw (h, k) at (frame-dot-agree d u v z) in
      imp-out _ _ (imp-out _ _ (all4-out off_1 refl (sign (dot d u)) (sign (dot d v)) (sign (cross u v)) (sign (dot u v))) f) g

  pub left-counts : down_seen east (from_to p) e + in_sector d east (from_to p e.from) ≡ up_seen east (from_to p) e + in_sector d east (from_to p e.to)
  left-counts =
      let u = from_to p e.from in let v = from_to p e.to in
      let s = sector_lemma d east u v (cross-direction d u h) east-direction left-off in
      let a = up-none (sign (cross d u)) (sign (cross d v)) (sign (cross u v)) h k in
      let b = down-none (sign (cross d u)) (sign (cross d v)) (sign (cross u v)) h k in
      omega (arith, s, a, b)
