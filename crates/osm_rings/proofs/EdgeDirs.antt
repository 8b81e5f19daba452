-- The direction of an edge is one of those that are compared.
use Rattle.std.proofs.Common.{◌≡◌, ◌-ℤ◌, pos, true, false, Bool, cond, refl, ap, ◌∙◌, arith}
use Rattle.std.specs.declared.cmp.Ordering.TheVariants.{Equal}
use Rattle.std.proofs.lemmas.Int.{ints}
use Rattle.std.proofs.lemmas.Cmp.{tied_itself}
use Rattle.osm_lattice.specs.declared.seg.Seg.{Seg}
use Rattle.osm_lattice.specs.Loc.{loc_cmp, step}
use Rattle.osm_lattice.proofs.LatticeKit.{loc_from_fields, loc_total}
use Rattle.osm_geom.specs.declared.dir.Dir.{Dir}
use Rattle.osm_geom.specs.declared.edge.Carrier.{Carrier}
use Rattle.osm_geom.specs.declared.edge.Carrier.TheVariants.{OfSeg, Vertical, Horizontal}
use Rattle.osm_geom.specs.declared.edge.Edge.{Edge}
use Rattle.osm_geom.specs.Carrier.{rising_of}
use Rattle.osm_geom.specs.Dir.{vector_along}
use Rattle.osm_geom.specs.Edge.{direction_of, opposite, runs_up}

steps : (s : Seg) → (s.b.x -ℤ s.a.x ≡ pos 0) × (s.b.y -ℤ s.a.y ≡ pos 0) → ⊥
steps s (x, y) =
    let same = loc_from_fields s.a s.b (omega (arith, ints)) (omega (arith, ints)) in
    let tied : loc_cmp s.a s.b ≡ Equal = rw same (tied_itself loc_total s.b) in
    let up = s.rising in
    cc

rising-dir : (k : Carrier) → (d : Dir) × (vector_along d ≡ rising_of k)
unfolding step
rising-dir (OfSeg s) =
    let a = s.a.x_in in let b = s.b.x_in in let c = s.a.y_in in let d = s.b.y_in in
    (record { dx = s.b.x -ℤ s.a.x; dy = s.b.y -ℤ s.a.y; dx_in = omega (arith, ints); dy_in = omega (arith, ints); nonzero = steps s }, refl)
rising-dir (Vertical c) = (record { dx = pos 0; dy = pos 1; dx_in = omega arith; dy_in = omega arith; nonzero = λ h. cc }, refl)
rising-dir (Horizontal d) = (record { dx = pos 1; dy = pos 0; dx_in = omega arith; dy_in = omega arith; nonzero = λ h. cc }, refl)

back-dir : (d : Dir) → (e : Dir) × (vector_along e ≡ opposite (vector_along d))
back-dir d =
    let x = d.dx_in in let y = d.dy_in in
    (record { dx = pos 0 -ℤ d.dx; dy = pos 0 -ℤ d.dy; dx_in = omega (arith, ints); dy_in = omega (arith, ints); nonzero = λ h. d.nonzero (omega (arith, ints, h.0), omega (arith, ints, h.1)) }, refl)

pub edge-dir : (e : Edge) → (d : Dir) × (vector_along d ≡ direction_of e)
unfolding direction_of
edge-dir e = by (runs_up e)
  where
    forward : (d : Dir) × (vector_along d ≡ rising_of e.carrier)
    forward = rising-dir e.carrier

    back : (d : Dir) × (vector_along d ≡ opposite (vector_along forward.0))
    back = back-dir forward.0

    by : (b : Bool) → (d : Dir) × (vector_along d ≡ cond b (rising_of e.carrier) (opposite (rising_of e.carrier)))
    by true = forward
    by false = (back.0, back.1 ∙ ap opposite forward.1)
