-- The path along whole segments passes each point that an edge leaves.
use Rattle.std.proofs.Common.{◌≡◌, All, Bool, List, [], ◌∷◌, true, false, cond, map, refl, ap}
use Rattle.std.specs.List.{cons_option}
use Rattle.std.proofs.lemmas.List.Elements.{All-head, All-tail}
use Rattle.osm_geom.specs.declared.edge.Edge.{Edge}
use Rattle.osm_lattice.specs.declared.loc.Loc.{Loc}
use Rattle.osm_geom.specs.declared.point.Point.{Point}
use Rattle.osm_geom.specs.declared.point.Point.TheVariants.{Lattice}
use Rattle.osm_geom.specs.WholeSegment.{IsWholeSegment}
use Rattle.osm_nest.specs.declared.polygon.Polygon.{Polygon}
use Rattle.osm_nest.specs.Polygons.{rings_of}
use Rattle.osm_text.specs.Paths.{PassesAll, PathsPassAll, location_at, path_along}

leaves : (e : Edge) (w : IsWholeSegment e) → (at : Loc) × (e.from ≡ Lattice at)
leaves e w = either w.forward (w.from)
  where
    either : (forward : Bool) → e.from ≡ cond forward (Lattice w.segment.a) (Lattice w.segment.b) → (at : Loc) × (e.from ≡ Lattice at)
    either true is = (w.segment.a, is)
    either false is = (w.segment.b, is)

step : (e : Edge) (es : List Edge) (at : Loc) → e.from ≡ Lattice at → PassesAll es → map Lattice (cons_option (location_at e.from) (path_along es)) ≡ e.from ∷ map (λ (edge : Edge). edge.from) es
step e es at is rest = rw is (ap (λ (points : List Point). Lattice at ∷ points) rest)

pub passes : (es : List Edge) → All IsWholeSegment es → PassesAll es
passes [] all = refl
passes (e ∷ es) all =
    let there = leaves e (All-head IsWholeSegment e es all) in
    step e es there.0 there.1 (passes es (All-tail IsWholeSegment e es all))

pub all_pass : (polygons : List Polygon) → All (All IsWholeSegment) (rings_of polygons) → PathsPassAll polygons
all_pass polygons whole = λ k d inside. passes _ (whole k d inside)
