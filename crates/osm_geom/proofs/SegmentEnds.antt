-- The ends of a segment lie on it, are two, and are in the world.
use Rattle.std.proofs.Common.{◌≡◌, ◌≢◌, pos, ◌*ℤ◌, true, not, refl, ap, ◌∙◌, arith}
use Rattle.std.specs.declared.cmp.Ordering.TheVariants.{Equal}
use Rattle.std.proofs.lemmas.Int.{ints}
use Rattle.std.proofs.lemmas.Cmp.{tied_itself}
use Rattle.plane.specs.Edge.{Edge}
use Rattle.plane.specs.RayCrossing.{is_off}
use Rattle.plane.specs.Scale.{scaled_edge, scaled_point}
use Rattle.plane.specs.Vector.{Vector, dot, from_to}
use Rattle.plane.proofs.SignKit.{lift, same, ◌⊞◌, ◌⊟◌, ◌⊠◌}
use Rattle.plane.proofs.PlaneKit.{same_vector, dot-here, cross-here, cross-from-here}
use Rattle.osm_lattice.specs.declared.loc.Loc.{Loc}
use Rattle.osm_lattice.specs.declared.seg.Seg.{Seg}
use Rattle.osm_geom.specs.declared.point.Point.TheVariants.{Lattice}
use Rattle.osm_geom.specs.declared.edge.Carrier.TheVariants.{OfSeg}
use Rattle.osm_geom.specs.Carrier.{is_on}
use Rattle.osm_lattice.specs.Loc.{loc_cmp, vector_of}
use Rattle.osm_geom.specs.Point.{IsInWorld, whole_of}
use Rattle.osm_lattice.specs.Seg.{edge_of}
use Rattle.osm_lattice.proofs.LatticeKit.{loc_total}

-- what a lattice point is once multiplied by 1, from either side
once : (p : Loc) → whole_of (Lattice p) ≡ scaled_point (pos 1) (vector_of p)
once p = same_vector (p.x *ℤ pos 1) (p.y *ℤ pos 1) (pos 1 *ℤ p.x) (pos 1 *ℤ p.y) (omega (arith, ints)) (omega (arith, ints))

dot-from-here : (v w : Vector) → dot (from_to v v) w ≡ pos 0
dot-from-here v w =
    let p = lift v.x in let q = lift v.y in let r = lift w.x in let s = lift w.y in
    same ((p ⊟ p) ⊠ r ⊞ (q ⊟ q) ⊠ s) (lift (pos 0)) (omega arith)

first_on : (e : Edge) → not (is_off e.from e) ≡ true
first_on e = rw (cross-from-here e.from (from_to e.from e.to), dot-from-here e.from (from_to e.from e.to)) refl

second_on : (e : Edge) → not (is_off e.to e) ≡ true
second_on e = rw (cross-here (from_to e.to e.from) e.to, dot-here (from_to e.to e.from) e.to) refl

pub on_a : (s : Seg) → is_on (OfSeg s) (Lattice s.a) ≡ true
unfolding is_on
on_a s = ap (λ v. not (is_off v (scaled_edge (pos 1) (edge_of s)))) (once s.a) ∙ first_on (scaled_edge (pos 1) (edge_of s))

pub on_b : (s : Seg) → is_on (OfSeg s) (Lattice s.b) ≡ true
unfolding is_on
on_b s = ap (λ v. not (is_off v (scaled_edge (pos 1) (edge_of s)))) (once s.b) ∙ second_on (scaled_edge (pos 1) (edge_of s))

pub ends_apart : (s : Seg) → Lattice s.a ≢ Lattice s.b
ends_apart s e =
    let same : s.a ≡ s.b = cc in
    let tied : loc_cmp s.a s.b ≡ Equal = rw same (tied_itself loc_total s.b) in
    cc

pub ends_apart_back : (s : Seg) → Lattice s.b ≢ Lattice s.a
ends_apart_back s e = let back : Lattice s.a ≡ Lattice s.b = cc in ends_apart s back

pub in_world : (p : Loc) → IsInWorld (Lattice p)
in_world p = let x = p.x_in in let y = p.y_in in (omega arith, omega arith)

pub ruleset end_facts = (on_a, on_b, ends_apart, ends_apart_back, in_world)
