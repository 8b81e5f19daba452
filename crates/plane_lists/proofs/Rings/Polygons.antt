-- What polygons cover at points of the lattice.
use Rattle.std.proofs.Common.{List, ap, arith, sym, ℕ, ◌+◌, ◌≡◌, ◌≤◌}
use Rattle.std.specs.List.{count_by}
use lib.IntN.{pos}
use Rattle.plane_lists.specs.Rings.Cover.{covers}
use Rattle.plane_lists.specs.Rings.Nesting.{edges_of}
use Rattle.plane_lists.specs.Rings.Polygon.{ArePolygonsOfRings, IsPolygon, Polygon, polygon_edges}
use Rattle.plane_lists.specs.Rings.RingList.{IsRingList}
use Rattle.plane.specs.Bit.{bit}
use Rattle.plane.specs.Edge.{Edge}
use Rattle.plane.specs.Vector.{Vector, east, from_to}
use Rattle.plane_lists.specs.Lists.EdgeList.{crossing_count, winding_number}
use Rattle.plane_lists.specs.Lists.OddSide.{directed}
use Rattle.plane_lists.specs.Lists.Ring.{segments_of}
use Rattle.plane_lists.proofs.Rings.DirectEnclosure.{inside_of, insides_apart}
use Rattle.plane_lists.proofs.Rings.DirectRings.{is_outer_by, polygon_sum, polygons_count, rings, rings-anchors, rings-nest, rings-tell, winds_by}
use Rattle.plane_lists.proofs.Rings.Nests.{odd-bit}
use Rattle.plane_lists.proofs.Rings.WoundRings.{fold-direct, in-count, out-count}
use Rattle.plane.proofs.PlaneKit.{down_seen, up_seen}
use Rattle.plane_lists.proofs.WindingKit.{signed_parity, segments-crossings, sided-even, sided_direct}
use Rattle.lists.proofs.ListsKit.{total, total-is}

-- ---- the laws at points of the lattice
module _ (rs : List (List Edge)) (l : IsRingList rs) (p : Vector) where
  polygon-sum-at : (g : Polygon) → IsPolygon rs g → (w : ℕ) × (w ≤ 1) × (total (up_seen east (from_to p)) (polygon_edges g) ≡ total (down_seen east (from_to p)) (polygon_edges g) + w)
  polygon-sum-at g m =
      let n = rings-nest rs l in let o = is_outer_by rs l in let t = rings-tell rs l in let a = rings-anchors rs l in
      polygon_sum rs l (λ h. covers h p) (λ g h i j e k c x. inside_of (rings rs l) n o t a g h i j e k c p x) (λ h k i j c e f ie if' x y u v. insides_apart (rings rs l) n o t a h k i j c e f ie if' x y p u v) g m
      (up_seen east (from_to p)) (down_seen east (from_to p)) (λ r i h. out-count rs l o t a p r i h) (λ r i h. in-count rs l o t a p r i h)

  pub polygon_winds : (g : Polygon) → IsPolygon rs g → winding_number east p (polygon_edges g) ≡ pos (bit (covers (polygon_edges g) p))
  polygon_winds g m = let s = polygon-sum-at g m in (winds_by p (polygon_edges g) s.0 s.1 s.2).0

  polygon-counts : (g : Polygon) → IsPolygon rs g → total (up_seen east (from_to p)) (polygon_edges g) ≡ total (down_seen east (from_to p)) (polygon_edges g) + bit (covers (polygon_edges g) p)
  polygon-counts g m = let s = polygon-sum-at g m in let w = (winds_by p (polygon_edges g) s.0 s.1 s.2).1 in let e = s.2 in omega arith

  rings-count : total (up_seen east (from_to p)) (edges_of rs) ≡ total (down_seen east (from_to p)) (edges_of rs) + bit (covers (edges_of rs) p)
  rings-count =
      let es = edges_of rs in
      let s = signed_parity p (segments_of es) l.sided.plain (sided-even es l.sided.balanced) in
      let q = fold-direct (segments_of es) es (λ e i. sided_direct es l.sided e i) in
      let u = sym (total-is (up_seen east (from_to p)) (directed (segments_of es))) in let d = sym (total-is (down_seen east (from_to p)) (directed (segments_of es))) in
      let v = ap (λ (k : List Edge). total (up_seen east (from_to p)) k) q in let w = ap (λ (k : List Edge). total (down_seen east (from_to p)) k) q in
      let c = segments-crossings east p es in let o = odd-bit (crossing_count east p es) in
      omega arith

  pub polygons_cover : (gs : List Polygon) → ArePolygonsOfRings rs gs → count_by (λ (g : Polygon). covers (polygon_edges g) p) gs ≡ bit (covers (edges_of rs) p)
  polygons_cover gs a =
      polygons_count rs (up_seen east (from_to p)) (down_seen east (from_to p)) (λ (g : Polygon). covers (polygon_edges g) p) gs (bit (covers (edges_of rs) p)) a.whole (λ g i. polygon-counts g (a.each g i)) rings-count
