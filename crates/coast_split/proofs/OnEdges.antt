-- A point on an edge is one of its ends, close to which there are points strictly inside the edge, or is strictly inside it.
use Rattle.std.proofs.Common.{Bool, List, ap, arith, cond, false, pos, true, ℤ, ◌*ℤ◌, ◌+ℤ◌, ◌-ℤ◌, ◌∙◌, ◌≡◌}
use Rattle.lists.specs.Member.{In}
use Rattle.plane_lists.specs.Paths.Near.{near}
use Rattle.plane.specs.Edge.{Edge, IsRisingEdge, is_rising, reversed, segment_of}
use Rattle.plane.specs.FreeSegment.{IsBetween}
use Rattle.plane.specs.Scale.{scaled_point}
use Rattle.plane.specs.Sign.{Plus, sign}
use Rattle.plane.specs.Vector.{IsNonZero, Vector, cross, dot, from_to}
use Rattle.plane_lists.specs.Lists.Ring.{segments_of}
use Rattle.plane_lists.specs.Lists.Sided.{IsSided}
use Rattle.lists.proofs.ListsKit.{in-map}
use Rattle.plane.proofs.PlaneKit.{direction-back, from_to-scaled, rising-direction, same_vector}
use Rattle.plane.proofs.SignKit.{lift, plus-times, same, ◌⊞◌, ◌⊟◌, ◌⊠◌}
use Rattle.plane_lists.proofs.WindingKit.{rising_in}

-- ---- close to an end of an edge, c / k of the way along it
way-there : (k x d : ℤ) → (k *ℤ x +ℤ d) -ℤ k *ℤ x ≡ d
way-there k x d = same (lift k ⊠ lift x ⊞ lift d ⊟ lift k ⊠ lift x) (lift d) (omega arith)

way-rest : (k c x y : ℤ) → k *ℤ y -ℤ (k *ℤ x +ℤ c *ℤ (y -ℤ x)) ≡ (k -ℤ c) *ℤ (y -ℤ x)
way-rest k c x y =
    same (lift k ⊠ lift y ⊟ (lift k ⊠ lift x ⊞ lift c ⊠ (lift y ⊟ lift x))) ((lift k ⊟ lift c) ⊠ (lift y ⊟ lift x)) (omega arith)

cross-none : (k c : ℤ) (v : Vector) → cross (scaled_point k v) (scaled_point c v) ≡ pos 0
cross-none k c v =
    let k' = lift k in let c' = lift c in let x = lift v.x in let y = lift v.y in
    same ((k' ⊠ x) ⊠ (c' ⊠ y) ⊟ (k' ⊠ y) ⊠ (c' ⊠ x)) (lift (pos 0)) (omega arith)

dot-along : (k c : ℤ) (v : Vector) → dot (scaled_point k v) (scaled_point c v) ≡ k *ℤ (c *ℤ dot v v)
dot-along k c v =
    let k' = lift k in let c' = lift c in let x = lift v.x in let y = lift v.y in
    same ((k' ⊠ x) ⊠ (c' ⊠ x) ⊞ (k' ⊠ y) ⊠ (c' ⊠ y)) (k' ⊠ (c' ⊠ (x ⊠ x ⊞ y ⊠ y))) (omega arith)

along : (k c : ℤ) (v : Vector) → sign k ≡ Plus → sign c ≡ Plus → IsNonZero v → sign (dot (scaled_point k v) (scaled_point c v)) ≡ Plus
along k c v hk hc d = ap sign (dot-along k c v) ∙ plus-times k (c *ℤ dot v v) hk ∙ plus-times c (dot v v) hc ∙ d

pub between-near : (k c : ℤ) → sign k ≡ Plus → sign c ≡ Plus → sign (k -ℤ c) ≡ Plus → (x y : Vector) → IsNonZero (from_to x y) →
    IsBetween (scaled_point k x) (scaled_point k y) (near k x (scaled_point c (from_to x y)))
between-near k c hk hc hr x y d =
    let v = from_to x y in let z = near k x (scaled_point c v) in
    let whole = from_to-scaled k hk x y in
    let there : from_to (scaled_point k x) z ≡ scaled_point c v =
    same_vector ((k *ℤ x.x +ℤ c *ℤ v.x) -ℤ k *ℤ x.x) ((k *ℤ x.y +ℤ c *ℤ v.y) -ℤ k *ℤ x.y) (c *ℤ v.x) (c *ℤ v.y) (way-there k x.x (c *ℤ v.x)) (way-there k x.y (c *ℤ v.y)) in
    let rest : from_to z (scaled_point k y) ≡ scaled_point (k -ℤ c) v =
    same_vector (k *ℤ y.x -ℤ (k *ℤ x.x +ℤ c *ℤ v.x)) (k *ℤ y.y -ℤ (k *ℤ x.y +ℤ c *ℤ v.y)) ((k -ℤ c) *ℤ v.x) ((k -ℤ c) *ℤ v.y) (way-rest k c x.x y.x) (way-rest k c x.y y.y) in
    record {
      on_line = ap (λ a. sign (cross a (from_to (scaled_point k x) z))) whole ∙ ap (λ a. sign (cross (scaled_point k v) a)) there ∙ ap sign (cross-none k c v);
      after_s = ap (λ a. sign (dot a (from_to (scaled_point k x) z))) whole ∙ ap (λ a. sign (dot (scaled_point k v) a)) there ∙ along k c v hk hc d;
      before_t = ap (λ a. sign (dot a (from_to z (scaled_point k y)))) whole ∙ ap (λ a. sign (dot (scaled_point k v) a)) rest ∙ along k (k -ℤ c) v hk hr d;
    }

-- an edge of a sided list has two ends
segment-direction : (e : Edge) (b : Bool) → IsRisingEdge (cond b e (reversed e)) → IsNonZero (from_to e.from e.to)
segment-direction e true h = rising-direction e.from e.to h
segment-direction e false h = direction-back e.to e.from (rising-direction e.to e.from h)

pub edge-direction : (L : List Edge) → IsSided L → (e : Edge) → In e L → IsNonZero (from_to e.from e.to)
edge-direction L sd e i = segment-direction e (is_rising e) (rising_in (segments_of L) (segment_of e) sd.plain (in-map segment_of L e i))
