-- What printed positions, rings and polygons spell.
use Rattle.std.proofs.Common.{All, List, [], ap, ap₂, append_assoc, arith, codes, get_or, inl, inr, length, map, refl, subst, sym, take, ℕ, ◌++◌, ◌∙◌, ◌∷◌, ◌≡◌, ◌≢◌}
use Rattle.std.specs.List.{join_with_byte}
use Rattle.std.proofs.lemmas.List.{map-append}
use Rattle.lists.specs.Member.{In}
use Rattle.lists.proofs.ListsKit.{in-all, in-map, map-map}
use Rattle.osm_geom.specs.WholeSegment.{IsWholeSegment}
use Rattle.osm_geom.specs.declared.edge.Edge.{Edge}
use Rattle.osm_geom.specs.declared.point.Point.TheVariants.{Lattice}
use Rattle.osm_lattice.specs.declared.loc.Loc.{Loc}
use Rattle.osm_lattice.specs.Loc.{vector_of}
use Rattle.osm_lattice.proofs.LatticeKit.{x_small, y_small}
use Rattle.osm_nest.specs.declared.polygon.Polygon.{Polygon}
use Rattle.osm_nest.specs.Polygons.{polygon_times, rings_in, rings_of}
use Rattle.osm_nest.proofs.BegunPolygons.{in-rings}
use Rattle.osm_notation.specs.Coordinates.{point_text}
use Rattle.osm_geom.proofs.EdgesKit.{lattice_point}
use Rattle.osm_text.specs.GeoJson.{position_json}
use Rattle.osm_text.specs.Paths.{path_along, paths_in, paths_of}
use Rattle.osm_text.proofs.WholePaths.{passes}
use Rattle.plane.specs.Edge as plane
use Rattle.plane.specs.Vector.{Vector}
use Rattle.osm_geom.specs.InPlane.Multiple.{edge_times, edges_times, point_times}
use Rattle.plane_lists.specs.Valid.Valid.{IsLinearRing}
use Rattle.plane_lists.specs.Lists.Ring.{IsPath}
use Rattle.one_output.specs.ValidAreas.Spelled.{Notation, SpellsList, SpellsMultiPolygon, SpellsPolygon, SpellsPosition, SpellsRing, SpellsRow, closing_bracket, edges_along, geo_json, opening, well_known}
use Rattle.one_output.specs.ValidAreas.ValidArea.{IsValidArea}
use Rattle.one_output.proofs.ValidAreas.Numerals.{units_spelled}

-- ---- lists

-- texts parted by commas spell what each of them spells
row-spelled : {X A : Type 0} (Spells : List ℕ → A → Type 0) (text : X → List ℕ) (value : X → A) (x : X) (xs : List X) →
    ((y : X) → In y (x ∷ xs) → Spells (text y) (value y)) → SpellsRow Spells (join_with_byte 44 (map text (x ∷ xs))) (map value (x ∷ xs))
row-spelled Spells text value x [] h = h x (inl refl)
row-spelled Spells text value x (y ∷ ys) h = (
  text x,
  join_with_byte 44 (map text (y ∷ ys)),
  sym (append_assoc (text x) (codes ",") (join_with_byte 44 (map text (y ∷ ys)))),
  h x (inl refl),
  row-spelled Spells text value y ys (λ z i. h z (inr i)),
)

-- ---- points and edges

-- the edges of a path run from each of the points that they leave to the next
along-starts : (es : List plane.Edge) (a b : Vector) → IsPath a es b → edges_along (map (λ (e : plane.Edge). e.from) es ++ b ∷ []) ≡ es
along-starts [] a b h = refl
along-starts (e ∷ []) a b h = ap (λ (p : Vector). record { from = e.from; to = p } ∷ []) (sym h.1)
along-starts (e ∷ f ∷ es) a b h =
    ap₂ (λ (p : Vector) (rest : List plane.Edge). record { from = e.from; to = p } ∷ rest) h.1.0 (along-starts (f ∷ es) e.to b h.1)

-- edges along whole segments leave the points of their path
starts-are : (r : List Edge) → All IsWholeSegment r → map (λ (e : plane.Edge). e.from) (edges_times 1 r) ≡ map vector_of (path_along r)
starts-are r whole =
    map-map (λ (e : plane.Edge). e.from) (edge_times 1) r
    ∙ sym (map-map (point_times 1) (λ (e : Edge). e.from) r)
    ∙ ap (map (point_times 1)) (sym (passes r whole))
    ∙ map-map (point_times 1) Lattice (path_along r)
    ∙ all-lattice (path_along r)
  where
    all-lattice : (ps : List Loc) → map (λ (p : Loc). point_times 1 (Lattice p)) ps ≡ map vector_of ps
    all-lattice [] = refl
    all-lattice (p ∷ ps) = ap₂ (λ (v : Vector) (vs : List Vector). v ∷ vs) (lattice_point p) (all-lattice ps)

-- ---- in both notations

abbrev pub position_text : Notation → Loc → List ℕ
position_text geo_json p = position_json p
position_text well_known p = point_text p

position-spelled : (n : Notation) (p : Loc) → SpellsPosition n (position_text n p) (vector_of p)
position-spelled geo_json p = (_, _, refl, units_spelled p.x (x_small p), units_spelled p.y (y_small p))
position-spelled well_known p = (_, _, refl, units_spelled p.x (x_small p), units_spelled p.y (y_small p))

module _ (n : Notation) where
  abbrev pub list_text : List (List ℕ) → List ℕ
  list_text texts = opening n ++ join_with_byte 44 texts ++ closing_bracket n

  abbrev pub ring_text : List Loc → List ℕ
  ring_text ring = list_text (map (position_text n) (ring ++ take 1 ring))

  abbrev pub polygon_text : List (List Loc) → List ℕ
  polygon_text rings = list_text (map ring_text rings)

  abbrev pub area_text : List (List (List Loc)) → List ℕ
  area_text polygons = list_text (map polygon_text polygons)

  list-spelled : {X Y A : Type 0} (Spells : List ℕ → A → Type 0) (text : Y → List ℕ) (part : X → Y) (value : X → A) (x : X) (xs : List X) →
      ((y : X) → In y (x ∷ xs) → Spells (text (part y)) (value y)) → SpellsList n Spells (list_text (map text (map part (x ∷ xs)))) (map value (x ∷ xs))
  list-spelled Spells text part value x xs h = (
    join_with_byte 44 (map text (map part (x ∷ xs))),
    refl,
    subst (λ texts. SpellsRow Spells (join_with_byte 44 texts) (map value (x ∷ xs))) (sym (map-map text part (x ∷ xs)))
        (row-spelled Spells (λ y. text (part y)) value x xs h),
  )

  positions-spelled : (p : Loc) (ps : List Loc) → SpellsList n (SpellsPosition n) (ring_text (p ∷ ps)) (vector_of p ∷ map vector_of ps ++ vector_of p ∷ [])
  positions-spelled p ps = (
    _,
    refl,
    subst (λ vs. SpellsRow (SpellsPosition n) (join_with_byte 44 (map (position_text n) (p ∷ ps ++ p ∷ []))) (vector_of p ∷ vs)) (map-append vector_of ps (p ∷ []))
        (row-spelled (SpellsPosition n) (position_text n) vector_of p (ps ++ p ∷ []) (λ q i. position-spelled n q)),
  )

  -- ---- rings

  ring-by : (es : List plane.Edge) → IsLinearRing es → (ps : List Loc) → map (λ (e : plane.Edge). e.from) es ≡ map vector_of ps → SpellsRing n (ring_text ps) es
  ring-by [] ring ps h = absurd (let long = ring.long in omega arith)
  ring-by (e ∷ es) ring [] h = absurd (let same = ap length h in omega arith)
  ring-by (e ∷ es) ring (p ∷ ps) h = record {
    first = vector_of p;
    others = map vector_of ps;
    positions = positions-spelled p ps;
    edges =
        sym (along-starts (e ∷ es) ring.closed.start ring.closed.start ring.closed.path)
        ∙ ap₂ (λ (vs : List Vector) (last : Vector). edges_along (vs ++ last ∷ [])) h (sym ring.closed.path.0 ∙ ap (λ (vs : List Vector). get_or vs 0 e.from) h);
  }

  ring-spelled : (r : List Edge) → All IsWholeSegment r → IsLinearRing (edges_times 1 r) → SpellsRing n (ring_text (path_along r)) (edges_times 1 r)
  ring-spelled r whole ring = ring-by (edges_times 1 r) ring (path_along r) (starts-are r whole)

  -- ---- polygons

  polygon-spelled : (polygons : List Polygon) → IsValidArea polygons → (p : Polygon) → In p polygons → SpellsPolygon n (polygon_text (paths_in p)) (polygon_times 1 p)
  polygon-spelled polygons area p i =
      list-spelled (SpellsRing n) ring_text path_along (edges_times 1) p.outer p.inners
      (λ r j. ring-spelled r (in-all (All IsWholeSegment) (rings_of polygons) r area.whole (in-rings polygons p r i j))
      ((area.valid.polygons (polygon_times 1 p) (in-map (polygon_times 1) polygons p i)).boundary.linear_rings (edges_times 1 r) (in-map (edges_times 1) (rings_in p) r j)))

  pub area-spelled : (polygons : List Polygon) → polygons ≢ [] → IsValidArea polygons → SpellsMultiPolygon n (area_text (paths_of polygons)) (map (polygon_times 1) polygons)
  area-spelled [] some area = absurd (some refl)
  area-spelled (p ∷ ps) some area = list-spelled (SpellsPolygon n) polygon_text paths_in (polygon_times 1) p ps (polygon-spelled (p ∷ ps) area)
