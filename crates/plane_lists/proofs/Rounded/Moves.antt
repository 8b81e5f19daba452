-- What the two images of a closed list count at a point.
use Rattle.std.proofs.Common.{All, List, arith, subst, sym, ℕ, ◌%◌, ◌+◌, ◌≡◌}
use borrow.Author.Differences.{ints}
use lib.IntN.{ℤ}
use Rattle.lists.specs.Member.{In}
use Rattle.plane.specs.Edge.{Edge}
use Rattle.plane.specs.RayCrossing.{IsOffEdge, down_crossing, up_crossing}
use Rattle.plane.specs.Vector.{Vector, east, from_to}
use Rattle.plane_lists.specs.Lists.EdgeList.{IsBalanced, crossing_count, down_count, up_count, winding_number}
use Rattle.lists.proofs.ListsKit.{all-in, in-all, in-map, in-map-out, total, total-+, total-is, total-map, total-same}
use Rattle.plane.proofs.PlaneKit.{down_seen, up_seen}
use Rattle.plane_lists.proofs.WindingKit.{balanced-total, count-is}
use Rattle.plane_lists.specs.Rounded.MovedLaws.{AreMovedWithin}
use Rattle.plane_lists.specs.Rounded.Clear.{IsClearOfSquare}
use Rattle.plane_lists.specs.Rounded.Square.{HasNoPointNear, moved_edge, moved_edges}
use Rattle.plane_lists.proofs.Rounded.ClearEdges.{clear-of}
use Rattle.plane_lists.proofs.Rounded.Nears.{near-itself, near-left, some-side}
use Rattle.plane_lists.proofs.Rounded.OneSide.{left-counts, left-off}

module _ (h : ℤ) (f g : Vector → Vector) (es : List Edge) (near : AreMovedWithin h f g es) (p : Vector) (far : All (HasNoPointNear h p) (moved_edges f es)) where
  clear-at : (e : Edge) → In e es → IsClearOfSquare h p (moved_edge f e)
  clear-at e i =
      clear-of h (some-side h (f e.from) (g e.from) (near e i).0) p (moved_edge f e)
      (in-all (HasNoPointNear h p) (moved_edges f es) (moved_edge f e) far (in-map (moved_edge f) es e i))

  pub moved-off : All (IsOffEdge p) (moved_edges g es)
  moved-off =
      all-in (IsOffEdge p) (moved_edges g es) (λ w j.
      let r = in-map-out (moved_edge g) es w j in let c = clear-at r.0 r.1 in let n = near r.0 r.1 in
      subst (λ (w : Edge). IsOffEdge p w) (sym r.2)
      (left-off c.along p (moved_edge g r.0) (near-left h c.along p (f r.0.from) (g r.0.from) c.from_left n.0) (near-left h c.along p (f r.0.to) (g r.0.to) c.to_left n.1)))

  abbrev up : Edge → ℕ
  up e = up_seen east (from_to p) e

  abbrev down : Edge → ℕ
  down e = down_seen east (from_to p) e

  -- what the step from the one image of a point to the other counts
  abbrev up_step : Vector → ℕ
  up_step v = up_crossing east (from_to p (f v)) (from_to p (g v))

  abbrev down_step : Vector → ℕ
  down_step v = down_crossing east (from_to p (f v)) (from_to p (g v))

  abbrev ahead : Edge → ℕ
  ahead e = (up (moved_edge f e) + up_step e.to) + (down (moved_edge g e) + down_step e.from)

  abbrev back : Edge → ℕ
  back e = (down (moved_edge f e) + down_step e.to) + (up (moved_edge g e) + up_step e.from)

  -- the edge, its image and the two steps count nothing together
  round-edge : (e : Edge) → In e es → ahead e ≡ back e
  round-edge e i =
      let c = clear-at e i in let d = c.along in let n = near e i in
      let a = near-left h d p (f e.from) (f e.from) c.from_left (near-itself h (f e.from) (g e.from) n.0) in
      let b = near-left h d p (f e.to) (f e.to) c.to_left (near-itself h (f e.to) (g e.to) n.1) in
      let a' = near-left h d p (f e.from) (g e.from) c.from_left n.0 in
      let b' = near-left h d p (f e.to) (g e.to) c.to_left n.1 in
      let x = left-counts d p (moved_edge f e) a b in
      let x' = left-counts d p (moved_edge g e) a' b' in
      let y = left-counts d p (record { from = f e.from; to = g e.from }) a a' in
      let z = left-counts d p (record { from = f e.to; to = g e.to }) b b' in
      omega (arith, x, x', y, z)

  module _ (balanced : IsBalanced es) where
    totals : total up (moved_edges f es) + total down (moved_edges g es) ≡ total down (moved_edges f es) + total up (moved_edges g es)
    totals =
        let s = total-same ahead back es round-edge in
        let a = total-+ (λ (e : Edge). up (moved_edge f e) + up_step e.to) (λ (e : Edge). down (moved_edge g e) + down_step e.from) es in
        let b = total-+ (λ (e : Edge). down (moved_edge f e) + down_step e.to) (λ (e : Edge). up (moved_edge g e) + up_step e.from) es in
        let a1 = total-+ (λ (e : Edge). up (moved_edge f e)) (λ (e : Edge). up_step e.to) es in
        let a2 = total-+ (λ (e : Edge). down (moved_edge g e)) (λ (e : Edge). down_step e.from) es in
        let b1 = total-+ (λ (e : Edge). down (moved_edge f e)) (λ (e : Edge). down_step e.to) es in
        let b2 = total-+ (λ (e : Edge). up (moved_edge g e)) (λ (e : Edge). up_step e.from) es in
        let u = balanced-total up_step es balanced in let d = balanced-total down_step es balanced in
        omega (arith, s, a, b, a1, a2, b1, b2, u, d, total-map up (moved_edge f) es, total-map down (moved_edge f) es, total-map up (moved_edge g) es, total-map down (moved_edge g) es)

    counts : up_count east p (moved_edges f es) + down_count east p (moved_edges g es) ≡ down_count east p (moved_edges f es) + up_count east p (moved_edges g es)
    counts = omega (arith, totals, total-is up (moved_edges f es), total-is down (moved_edges f es), total-is up (moved_edges g es), total-is down (moved_edges g es))

    pub moved-winds : winding_number east p (moved_edges g es) ≡ winding_number east p (moved_edges f es)
    moved-winds = let c = counts in omega (arith, ints)

    pub moved-odd : crossing_count east p (moved_edges g es) % 2 ≡ crossing_count east p (moved_edges f es) % 2
    moved-odd =
        let t = totals in let a = count-is east (from_to p) (moved_edges f es) in let b = count-is east (from_to p) (moved_edges g es) in
        omega (arith, t, a, b)
