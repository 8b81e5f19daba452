-- Directed segments run along whole segments.
use Rattle.std.proofs.Common.{◌≡◌, List, [], ◌∷◌, All, Bool, true, false, cond, drop, get_or, length, map, refl, ap, ◌∙◌, arith}
use Rattle.std.proofs.lemmas.List.Elements.{All-cons, All-nil}
use Rattle.plane_lists.specs.Lists.OddSide as odd_side
use Rattle.osm_geom.specs.declared.edge.Carrier.TheVariants.{OfSeg}
use Rattle.osm_geom.specs.declared.edge.Edge.{Edge}
use Rattle.osm_lattice.specs.declared.loc.Loc.{Loc}
use Rattle.osm_geom.specs.declared.point.Point.TheVariants.{Lattice}
use Rattle.osm_lattice.specs.declared.seg.Seg.{Seg}
use Rattle.osm_lattice.specs.Seg.{edge_of}
use Rattle.osm_geom.specs.WholeSegment.{IsWholeSegment}
use Rattle.osm_sides.specs.Directions.{AreDirected, first_end, last_end}
use Rattle.osm_sides.specs.Survivors.{plane_edges_of}

chosen : (b : Bool) (p q : Loc) → Lattice (cond b p q) ≡ cond b (Lattice p) (Lattice q)
chosen true p q = refl
chosen false p q = refl

whole_by : (all segs : List Seg) (es : List Edge) → map (λ (e : Edge). e.carrier) es ≡ map OfSeg segs → map (λ (e : Edge). e.from) es ≡ map (first_end all) segs → map (λ (e : Edge). e.to) es ≡ map (last_end all) segs → All IsWholeSegment es
whole_by all [] [] c f l = All-nil IsWholeSegment
whole_by all [] (e ∷ es) c f l = let n = ap length c in absurd (omega arith)
whole_by all (s ∷ segs) [] c f l = let n = ap length c in absurd (omega arith)
whole_by all (s ∷ segs) (e ∷ es) c f l = All-cons IsWholeSegment e es
    (record {
      segment = s;
      forward = odd_side.runs_up_by_odd_side (plane_edges_of all) (edge_of s);
      carrier = ap (λ xs. get_or xs 0 e.carrier) c;
      from = ap (λ xs. get_or xs 0 e.from) f ∙ chosen (odd_side.runs_up_by_odd_side (plane_edges_of all) (edge_of s)) s.a s.b;
      to = ap (λ xs. get_or xs 0 e.to) l ∙ chosen (odd_side.runs_up_by_odd_side (plane_edges_of all) (edge_of s)) s.b s.a;
    })
    (whole_by all segs es (ap (drop 1) c) (ap (drop 1) f) (ap (drop 1) l))

pub directed_is_whole : (segs : List Seg) (es : List Edge) → AreDirected segs es → All IsWholeSegment es
directed_is_whole segs es d = whole_by segs segs es d.whole d.firsts d.lasts
