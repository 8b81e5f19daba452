-- Plain words of `coastline`, and what they say.
use Rattle.std.specs.Prelude.{◌≡◌, ℕ, true, false, List, [], ◌∷◌, Some, codes, ⊤}
use Rattle.osm_words.specs.PlainWords.{Form, letter, long, plain_words, begins_with_dash, ArePlainWords, said_with}
use Rattle.osm_words.specs.Job.{CoastlineSettings}
use Rattle.osm_words.specs.CoastlineWords.{distance_named, overlap_named, points_named}
use Rattle.osm_words.specs.declared.settings.OutputPolygons.{OutputPolygons}
use Rattle.osm_words.specs.declared.settings.OutputPolygons.TheVariants.{Land, Water, Both, Neither}

-- an option, with its value in range; numbers and degrees as they are written, and what they are
pub data CoastlineOption : Type 0 where
  close_distance : List ℕ → ℕ → CoastlineOption
  max_points : List ℕ → ℕ → CoastlineOption
  bbox_overlap : List ℕ → ℕ → CoastlineOption
  polygons : OutputPolygons → CoastlineOption
  output : List ℕ → CoastlineOption
  overwrite : CoastlineOption
  cut_crossings : CoastlineOption

-- ---- how options are written

abbrev pub polygons_text : OutputPolygons → List ℕ
polygons_text Land = codes "land"
polygons_text Water = codes "water"
polygons_text Both = codes "both"
polygons_text Neither = codes "none"

-- A value stands in the next word. The output and `--cut-crossings` have no letter and are written by their long forms.
abbrev pub option_words : Form → CoastlineOption → List (List ℕ)
option_words letter (close_distance written units) = codes "-c" ∷ written ∷ []
option_words letter (max_points written points) = codes "-m" ∷ written ∷ []
option_words letter (bbox_overlap written units) = codes "-b" ∷ written ∷ []
option_words letter (polygons p) = codes "-p" ∷ polygons_text p ∷ []
option_words letter (output name) = codes "--output" ∷ name ∷ []
option_words letter overwrite = codes "-f" ∷ []
option_words letter cut_crossings = codes "--cut-crossings" ∷ []
option_words long (close_distance written units) = codes "--close-distance" ∷ written ∷ []
option_words long (max_points written points) = codes "--max-points" ∷ written ∷ []
option_words long (bbox_overlap written units) = codes "--bbox-overlap" ∷ written ∷ []
option_words long (polygons p) = codes "--output-polygons" ∷ polygons_text p ∷ []
option_words long (output name) = codes "--output" ∷ name ∷ []
option_words long overwrite = codes "--overwrite" ∷ []
option_words long cut_crossings = codes "--cut-crossings" ∷ []

-- the words of a run
abbrev pub coastline_words : List (Form × CoastlineOption) → List ℕ → List (List ℕ)
coastline_words options file = codes "coastline" ∷ plain_words option_words options file

-- ---- which of them are plain

abbrev pub name_of : CoastlineOption → List ℕ
name_of (close_distance written units) = codes "close-distance"
name_of (max_points written points) = codes "max-points"
name_of (bbox_overlap written units) = codes "bbox-overlap"
name_of (polygons p) = codes "polygons"
name_of (output name) = codes "output"
name_of overwrite = codes "overwrite"
name_of cut_crossings = codes "cut-crossings"

abbrev pub HasPlainValue : CoastlineOption → Type 0
HasPlainValue (close_distance written units) = (begins_with_dash written ≡ false) × (distance_named written ≡ Some units)
HasPlainValue (max_points written points) = (begins_with_dash written ≡ false) × (points_named written ≡ Some points)
HasPlainValue (bbox_overlap written units) = (begins_with_dash written ≡ false) × (overlap_named written ≡ Some units)
HasPlainValue (polygons p) = ⊤
HasPlainValue (output name) = begins_with_dash name ≡ false
HasPlainValue overwrite = ⊤
HasPlainValue cut_crossings = ⊤

-- Each option occurs at most once, and numbers and units are those of what is written. No value begins with a dash.
-- The file's name doesn't either, or it is a lone dash.
abbrev pub ArePlainCoastline : List (Form × CoastlineOption) → List ℕ → Type 0
ArePlainCoastline options file = ArePlainWords name_of HasPlainValue options file

-- ---- what they say

-- without options: gaps below a degree are closed, pieces have up to 1,000 points and overlap by twice a ten-thousandth of a degree, they are those of land, and no crossing is cut
abbrev pub default_settings : List ℕ → CoastlineSettings
default_settings file = record {
  file = file;
  output = codes "-";
  overwrite = false;
  close_distance = 10000000;
  max_points = 1000;
  bbox_overlap = 1000;
  polygons = Land;
  cut_crossings = false;
}

abbrev pub with_option : CoastlineOption → CoastlineSettings → CoastlineSettings
with_option (close_distance written units) s = record s { close_distance = units }
with_option (max_points written points) s = record s { max_points = points }
with_option (bbox_overlap written units) s = record s { bbox_overlap = units }
with_option (polygons p) s = record s { polygons = p }
with_option (output name) s = record s { output = name }
with_option overwrite s = record s { overwrite = true }
with_option cut_crossings s = record s { cut_crossings = true }

abbrev pub said_coastline : List (Form × CoastlineOption) → List ℕ → CoastlineSettings
said_coastline options file = said_with with_option (default_settings file) options
