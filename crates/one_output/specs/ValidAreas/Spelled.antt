-- Polygons as texts spell them: the coordinates of GeoJSON (RFC 7946), and well-known text (OGC 06-103r4).
-- A coordinate x is the number of units of 1e-7 degree.
use Rattle.std.specs.Prelude.{List, [], codes, ℕ, ◌++◌, ◌∷◌, ◌≡◌}
use Rattle.plane_lists.specs.Rings.Polygon.{Polygon}
use Rattle.plane.specs.Edge.{Edge}
use Rattle.plane.specs.Vector.{Vector}
use Rattle.plane_lists.specs.Valid.Valid.{IsValidMultiPolygon}
use Rattle.one_output.specs.ValidAreas.Numeral.{SpellsUnits}

pub data Notation : Type 0 where
  geo_json : Notation
  well_known : Notation

-- ---- lists

abbrev pub opening : Notation → List ℕ
opening geo_json = codes "["
opening well_known = codes "("

abbrev pub closing_bracket : Notation → List ℕ
closing_bracket geo_json = codes "]"
closing_bracket well_known = codes ")"

-- at least one item, with a comma between neighbours
abbrev pub SpellsRow : {A : Type 0} → (List ℕ → A → Type 0) → List ℕ → List A → Type 0
SpellsRow Spells text [] = ⊥
SpellsRow Spells text (item ∷ []) = Spells text item
SpellsRow Spells text (item ∷ next ∷ items) =
    (first : List ℕ) × (rest : List ℕ) × (text ≡ first ++ codes "," ++ rest) × Spells first item × SpellsRow Spells rest (next ∷ items)

-- such a row in brackets
abbrev pub SpellsList : {A : Type 0} → Notation → (List ℕ → A → Type 0) → List ℕ → List A → Type 0
SpellsList notation Spells text items = (row : List ℕ) × (text ≡ opening notation ++ row ++ closing_bracket notation) × SpellsRow Spells row items

-- ---- positions, rings, polygons

-- a position: [x,y] in GeoJSON, x y in well-known text
abbrev pub SpellsPosition : Notation → List ℕ → Vector → Type 0
SpellsPosition geo_json text p = (x : List ℕ) × (y : List ℕ) × (text ≡ codes "[" ++ x ++ codes "," ++ y ++ codes "]") × SpellsUnits x p.x × SpellsUnits y p.y
SpellsPosition well_known text p = (x : List ℕ) × (y : List ℕ) × (text ≡ x ++ codes " " ++ y) × SpellsUnits x p.x × SpellsUnits y p.y

-- the edges from each position to the next
abbrev pub edges_along : List Vector → List Edge
edges_along [] = []
edges_along (p ∷ []) = []
edges_along (p ∷ q ∷ positions) = record { from = p; to = q } ∷ edges_along (q ∷ positions)

-- a ring: its positions in order, the first again at the end
pub record SpellsRing (notation : Notation) (text : List ℕ) (ring : List Edge) : Type 0 where
  pub first : Vector
  pub others : List Vector
  pub positions : SpellsList notation (SpellsPosition notation) text (first ∷ others ++ first ∷ [])
  pub edges : ring ≡ edges_along (first ∷ others ++ first ∷ [])

-- a polygon: its rings, the exterior one first
abbrev pub SpellsPolygon : Notation → List ℕ → Polygon → Type 0
SpellsPolygon notation text polygon = SpellsList notation (SpellsRing notation) text (polygon.outer ∷ polygon.inner)

abbrev pub SpellsMultiPolygon : Notation → List ℕ → List Polygon → Type 0
SpellsMultiPolygon notation text polygons = SpellsList notation (SpellsPolygon notation) text polygons

-- the text spells polygons that are a valid MultiPolygon
abbrev pub SpellsValidArea : Notation → List ℕ → Type 0
SpellsValidArea notation text = (polygons : List Polygon) × SpellsMultiPolygon notation text polygons × IsValidMultiPolygon polygons
