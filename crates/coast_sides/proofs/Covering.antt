-- Land and water cover the world.
use Rattle.std.proofs.Common.{◌≡◌, inl, inr, ℕ, zero, suc, ℤ, pos, ◌+◌, ◌%◌, ◌*ℤ◌, List, [], ◌∷◌, ◌++◌, map, refl, sym, ap, subst, ◌∙◌, arith}
use Rattle.std.specs.List.{cons_option}
use Rattle.std.proofs.lemmas.Int.{ints}
use Rattle.plane.specs.Edge as plane
use Rattle.plane.specs.Scale.{scaled_edge}
use Rattle.plane.specs.Vector.{east}
use Rattle.plane_lists.specs.Lists.EdgeList.{crossing_count}
use Rattle.plane_lists.specs.Lists.ScaledEdges.{scaled_edges}
use Rattle.osm_geom.specs.declared.edge.Carrier.TheVariants.{OfSeg}
use Rattle.osm_geom.specs.declared.edge.Edge.{Edge}
use Rattle.osm_lattice.specs.declared.seg.Seg.{Seg}
use Rattle.osm_lattice.specs.OrderLaws.{SegmentOrderTellsApart}
use Rattle.osm_sides.specs.Survivors.{plane_edges_of}
use Rattle.osm_geom.specs.InPlane.Sided.{signed_count_at}
use Rattle.coast_sides.specs.Land.{IsLand, parity_at}
use Rattle.coast_sides.specs.Water.{IsCoveredOnce, LandAndWaterCover, WaterCoversTheRest, segment_of_carrier, segments_under}
use Rattle.coast_sides.proofs.Clearing.{left_parity}

-- ---- the segments along which edges run

along : (segs : List Seg) (edges : List Edge) → map (λ (e : Edge). e.carrier) edges ≡ map OfSeg segs → segments_under edges ≡ segs
along [] [] e = refl
along [] (f ∷ edges) e = absurd (cc e)
along (s ∷ segs) [] e = absurd (cc e)
along (s ∷ segs) (f ∷ edges) e =
    let head : f.carrier ≡ OfSeg s = cc e in
    let tail : map (λ (e : Edge). e.carrier) edges ≡ map OfSeg segs = cc e in
    ap (λ c. cons_option (segment_of_carrier c) (segments_under edges)) head ∙ ap (λ (ss : List Seg). s ∷ ss) (along segs edges tail)

pub along_land : (segs : List Seg) (edges : List Edge) → (land : IsLand segs edges) → segments_under edges ≡ land.survivors
along_land segs edges land = along land.survivors edges land.directed.whole

-- ---- points of whole coordinates

times_one : (z : ℤ) → pos 1 *ℤ z ≡ z
times_one z = omega (arith, ints)

scaled_one : (e : plane.Edge) → scaled_edge (pos 1) e ≡ e
scaled_one e = λ i. record { from = record { x = times_one e.from.x i; y = times_one e.from.y i }; to = record { x = times_one e.to.x i; y = times_one e.to.y i } }

scaled_all : (es : List plane.Edge) → scaled_edges (pos 1) es ≡ es
scaled_all [] = refl
scaled_all (e ∷ es) = λ i. scaled_one e i ∷ scaled_all es i

one_by_one : (m n : ℕ) → m + n ≡ 1 → IsCoveredOnce (pos n) (pos m)
one_by_one zero n e = let is : n ≡ 1 = omega arith in inl (ap pos is, refl)
one_by_one (suc m) n e = let none : n ≡ 0 = omega arith in let is : suc m ≡ 1 = omega arith in inr (ap pos none, ap pos is)

pub land_water_cover : SegmentOrderTellsApart → WaterCoversTheRest → LandAndWaterCover
land_water_cover exact covers segs land water is_land is_water p within =
    let crossed : List Seg → ℕ = λ ss. crossing_count east p (plane_edges_of ss) % 2 in
    let whole : (ss : List Seg) → parity_at (pos 1) p ss ≡ pos (crossed ss) = λ ss. ap (λ es. pos (crossing_count east p es % 2)) (scaled_all (plane_edges_of ss)) in
    let left : (ss left : List Seg) → parity_at (pos 1) p left ≡ parity_at (pos 1) p ss → parity_at (pos 1) p ss ≡ pos (crossed left) = λ ss left e. sym e ∙ whole left in
    let runs = segments_under land in
    let of_land : signed_count_at (pos 1) p land ≡ pos (crossed runs) =
    is_land.parity (pos 1) refl p ∙ (left segs is_land.survivors (ap pos (left_parity exact segs is_land.survivors is_land.left (pos 1) p)) ∙ ap (λ (ss : List Seg). pos (crossed ss)) (sym (along_land segs land is_land))) in
    let of_water : signed_count_at (pos 1) p water ≡ pos (crossed is_water.survivors) =
    is_water.parity (pos 1) refl p ∙ left (runs ++ is_water.sides) is_water.survivors (ap pos (left_parity exact (runs ++ is_water.sides) is_water.survivors is_water.left (pos 1) p)) in
    let one = covers runs is_water.sides is_water.survivors is_water.are_sides is_water.left p within in
    subst (λ z. IsCoveredOnce z (signed_count_at (pos 1) p water)) (sym of_land) (subst (λ z. IsCoveredOnce (pos (crossed runs)) z) (sym of_water) (one_by_one (crossed is_water.survivors) (crossed runs) one))
