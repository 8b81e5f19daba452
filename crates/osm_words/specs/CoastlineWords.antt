-- What the words of `coastline` ask for: what `clap` finds in them, and then the ranges of the values.
use Rattle.std.specs.Prelude.{ℕ, ◌==◌, ◌&&◌, ◌||◌, Bool, nat_le, option_and_then, List, [], Option, Some, None, Result, Ok, Err, codes, if◌then◌else◌, unwrap_or}
use Rattle.std.specs.Str.{bytes_eq}
use Rattle.clap.specs.Words.{Row, fault_of, first_of, matches_of}
use Rattle.osm_words.specs.Job.{CoastlineSettings}
use Rattle.osm_words.specs.CoastlineCommand.{coastline_app}
use Rattle.osm_words.specs.Degrees.{degrees_named}
use Rattle.osm_words.specs.Number.{number_named}
use Rattle.osm_words.specs.Parsed.{is_set, unless_refused}
use Rattle.osm_words.specs.declared.settings.OutputPolygons.{OutputPolygons}
use Rattle.osm_words.specs.declared.settings.OutputPolygons.TheVariants.{Land, Water, Both, Neither}
use Rattle.osm_words.specs.declared.fault.WordsFault.{WordsFault}
use Rattle.osm_words.specs.declared.fault.WordsFault.TheVariants.{OutOfRange}

-- ---- the ranges of the values

abbrev pub polygons_named : List ℕ → Option OutputPolygons
polygons_named word =
    if bytes_eq word (codes "land") then Some Land
    else if bytes_eq word (codes "water") then Some Water
    else if bytes_eq word (codes "both") then Some Both
    else if bytes_eq word (codes "none") then Some Neither else None

-- from 0 to 360 degrees, in units of 1e-7
abbrev pub distance_named : List ℕ → Option ℕ
distance_named = degrees_named 3600000000

-- none, or from 4 to 1,000,000
abbrev pub is_most_points : ℕ → Bool
is_most_points points = points == 0 || nat_le 4 points && nat_le points 1000000

abbrev pub where_most_points : ℕ → Option ℕ
where_most_points points = if is_most_points points then Some points else None

abbrev pub points_named : List ℕ → Option ℕ
points_named word = option_and_then where_most_points (number_named word)

-- from 0 to 10 degrees, in units of 1e-7
abbrev pub overlap_named : List ℕ → Option ℕ
overlap_named = degrees_named 100000000

-- the most points of a value; 1,000 where there is none
abbrev pub points_said : Option (List ℕ) → Option ℕ
points_said None = Some 1000
points_said (Some word) = points_named word

-- the overlap of a value; a ten-thousandth of a degree where there is none
abbrev pub overlap_said : Option (List ℕ) → Option ℕ
overlap_said None = Some 1000
overlap_said (Some written) = overlap_named written

-- the close distance of a value; a degree where there is none
abbrev pub distance_said : Option (List ℕ) → Option ℕ
distance_said None = Some 10000000
distance_said (Some written) = distance_named written

-- the polygons of a value; those of land where there is none
abbrev pub polygons_said : Option (List ℕ) → Option OutputPolygons
polygons_said None = Some Land
polygons_said (Some word) = polygons_named word

-- ---- what was found

-- The output is `-` where none was found. The parser asks for a file, so there is always one.
abbrev pub settings_with : ℕ → ℕ → ℕ → OutputPolygons → List Row → CoastlineSettings
settings_with close_distance max_points bbox_overlap polygons rows = record {
  file = unwrap_or (first_of (codes "file") rows) [];
  output = unwrap_or (first_of (codes "output") rows) (codes "-");
  overwrite = is_set (codes "overwrite") rows;
  close_distance = close_distance;
  max_points = max_points;
  bbox_overlap = bbox_overlap;
  polygons = polygons;
  cut_crossings = is_set (codes "cut-crossings") rows;
}

-- The first value out of its range refuses the words: `c`, `m`, `b`, `p` in this order, of the codes 99, 109, 98, 112.
abbrev pub in_range : Option ℕ → Option ℕ → Option ℕ → Option OutputPolygons → List Row → Result CoastlineSettings WordsFault
in_range None max_points bbox_overlap polygons rows = Err (OutOfRange 99)
in_range (Some close_distance) None bbox_overlap polygons rows = Err (OutOfRange 109)
in_range (Some close_distance) (Some max_points) None polygons rows = Err (OutOfRange 98)
in_range (Some close_distance) (Some max_points) (Some bbox_overlap) None rows = Err (OutOfRange 112)
in_range (Some close_distance) (Some max_points) (Some bbox_overlap) (Some polygons) rows =
    Ok (settings_with close_distance max_points bbox_overlap polygons rows)

abbrev pub settings_said : List Row → Result CoastlineSettings WordsFault
settings_said rows =
    in_range (distance_said (first_of (codes "close-distance") rows)) (points_said (first_of (codes "max-points") rows))
    (overlap_said (first_of (codes "bbox-overlap") rows)) (polygons_said (first_of (codes "polygons") rows)) rows

-- ---- the words

-- what the words ask of `coastline`, its name first, or why they aren't taken
abbrev pub coastline_asked : List (List ℕ) → Result CoastlineSettings WordsFault
coastline_asked words = unless_refused (fault_of coastline_app words) (settings_said (matches_of coastline_app words))
