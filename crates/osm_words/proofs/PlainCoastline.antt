-- Plain words of `coastline` are taken, and give what they say. No public contract cites it.
use Rattle.std.proofs.Common.{◌≡◌, ◌++◌, ◌∙◌, List, [], ◌∷◌, Some, Ok, codes, refl, ap, ap₂}
use Rattle.std.specs.Prelude.{unwrap_or}
use Rattle.clap.specs.Words.{Row, Text, first_of, matches_of}
use Rattle.osm_words.specs.CoastlineCommand.{coastline_app}
use Rattle.osm_words.specs.Job.{CoastlineSettings, coastline}
use Rattle.osm_words.specs.CoastlineWords.{coastline_asked, distance_said, in_range, overlap_said, points_said, polygons_named, polygons_said, settings_said, settings_with}
use Rattle.osm_words.specs.Parsed.{is_set, unless_refused}
use Rattle.osm_words.specs.Words.{as_job, job_asked}
use Rattle.osm_words.specs.PlainWords.{Form, HavePlainValues, plain_words}
use Rattle.osm_words.specs.PlainCoastline.{ArePlainCoastline, CoastlineOption, coastline_words, polygons_text, close_distance, max_points, bbox_overlap, polygons, output, overwrite, cut_crossings, HasPlainValue, name_of, option_words, said_coastline, with_option}
use Rattle.osm_words.specs.declared.settings.OutputPolygons.{OutputPolygons}
use Rattle.osm_words.specs.declared.settings.OutputPolygons.TheVariants.{Land, Water, Both, Neither}
use Rattle.osm_words.proofs.Walk.{Ends, ends, row_for, rows_with}
use Rattle.osm_words.proofs.Taken.{given, taken, value_in}
use Rattle.osm_words.proofs.PlainAnswers.{SaysFlag, SaysText, flag_read, text_read}
use Rattle.osm_words.proofs.CoastlineOptions.{coastline_ends_well, coastline_file, coastline_options, top, value_text}

abbrev option_rows : List (Form × CoastlineOption) → List Row
option_rows options = rows_with top coastline_options options

-- ---- what the words say

record Say (rows : List Row) (s : CoastlineSettings) : Type 0 where
  close_distance : distance_said (value_in top (codes "close-distance") rows) ≡ Some s.close_distance
  max_points : points_said (value_in top (codes "max-points") rows) ≡ Some s.max_points
  bbox_overlap : overlap_said (value_in top (codes "bbox-overlap") rows) ≡ Some s.bbox_overlap
  polygons : polygons_said (value_in top (codes "polygons") rows) ≡ Some s.polygons
  output : SaysText top rows (codes "output") (codes "-") s.output
  overwrite : SaysFlag top rows (codes "overwrite") s.overwrite
  cut_crossings : SaysFlag top rows (codes "cut-crossings") s.cut_crossings
  file : SaysText top rows (codes "file") [] s.file

polygons_read : (p : OutputPolygons) → polygons_named (polygons_text p) ≡ Some p
polygons_read Land = refl
polygons_read Water = refl
polygons_read Both = refl
polygons_read Neither = refl

say_more : (c : CoastlineOption) (rows : List Row) (s : CoastlineSettings) → HasPlainValue c → Say rows s → Say (row_for (name_of c) (value_text c) ∷ rows) (with_option c s)
say_more (close_distance written units) rows s plain more = record { close_distance = plain.1; max_points = more.max_points; bbox_overlap = more.bbox_overlap; polygons = more.polygons; output = more.output; overwrite = more.overwrite; cut_crossings = more.cut_crossings; file = more.file }
say_more (max_points written points) rows s plain more = record { close_distance = more.close_distance; max_points = plain.1; bbox_overlap = more.bbox_overlap; polygons = more.polygons; output = more.output; overwrite = more.overwrite; cut_crossings = more.cut_crossings; file = more.file }
say_more (bbox_overlap written units) rows s plain more = record { close_distance = more.close_distance; max_points = more.max_points; bbox_overlap = plain.1; polygons = more.polygons; output = more.output; overwrite = more.overwrite; cut_crossings = more.cut_crossings; file = more.file }
say_more (polygons p) rows s plain more = record { close_distance = more.close_distance; max_points = more.max_points; bbox_overlap = more.bbox_overlap; polygons = polygons_read p; output = more.output; overwrite = more.overwrite; cut_crossings = more.cut_crossings; file = more.file }
say_more (output name) rows s plain more = record { close_distance = more.close_distance; max_points = more.max_points; bbox_overlap = more.bbox_overlap; polygons = more.polygons; output = refl; overwrite = more.overwrite; cut_crossings = more.cut_crossings; file = more.file }
say_more overwrite rows s plain more = record { close_distance = more.close_distance; max_points = more.max_points; bbox_overlap = more.bbox_overlap; polygons = more.polygons; output = more.output; overwrite = refl; cut_crossings = more.cut_crossings; file = more.file }
say_more cut_crossings rows s plain more = record { close_distance = more.close_distance; max_points = more.max_points; bbox_overlap = more.bbox_overlap; polygons = more.polygons; output = more.output; overwrite = more.overwrite; cut_crossings = refl; file = more.file }

say : (options : List (Form × CoastlineOption)) (file : Text) → HavePlainValues HasPlainValue options → Say (option_rows options ++ row_for (codes "file") file ∷ []) (said_coastline options file)
say [] file plain = record { close_distance = refl; max_points = refl; bbox_overlap = refl; polygons = refl; output = refl; overwrite = refl; cut_crossings = refl; file = refl }
say (option ∷ others) file plain = say_more option.1 (option_rows others ++ row_for (codes "file") file ∷ []) (said_coastline others file) plain.0 (say others file plain.1)

-- rows in which each name has the value of `found` give what `found` says
read_by : (rows found : List Row) (s : CoastlineSettings) → Say found s → ((name : Text) → first_of name rows ≡ value_in top name found) → settings_said rows ≡ Ok s
read_by rows found s says same =
    let distance_is : distance_said (first_of (codes "close-distance") rows) ≡ Some s.close_distance = ap distance_said (same (codes "close-distance")) ∙ says.close_distance in
    let points_are : points_said (first_of (codes "max-points") rows) ≡ Some s.max_points = ap points_said (same (codes "max-points")) ∙ says.max_points in
    let overlap_is : overlap_said (first_of (codes "bbox-overlap") rows) ≡ Some s.bbox_overlap = ap overlap_said (same (codes "bbox-overlap")) ∙ says.bbox_overlap in
    let polygons_are : polygons_said (first_of (codes "polygons") rows) ≡ Some s.polygons = ap polygons_said (same (codes "polygons")) ∙ says.polygons in
    let output_is : unwrap_or (first_of (codes "output") rows) (codes "-") ≡ s.output = text_read top rows found same (codes "output") (codes "-") s.output says.output in
    let overwrite_is : is_set (codes "overwrite") rows ≡ s.overwrite = flag_read top rows found same (codes "overwrite") s.overwrite says.overwrite in
    let cut_is : is_set (codes "cut-crossings") rows ≡ s.cut_crossings = flag_read top rows found same (codes "cut-crossings") s.cut_crossings says.cut_crossings in
    let file_is : unwrap_or (first_of (codes "file") rows) [] ≡ s.file = text_read top rows found same (codes "file") [] s.file says.file in
    let all : settings_with s.close_distance s.max_points s.bbox_overlap s.polygons rows ≡ s = (λ i. record {
      file = file_is i;
      output = output_is i;
      overwrite = overwrite_is i;
      close_distance = s.close_distance;
      max_points = s.max_points;
      bbox_overlap = s.bbox_overlap;
      polygons = s.polygons;
      cut_crossings = cut_is i;
    }) in
    (λ i. in_range (distance_is i) (points_are i) (overlap_is i) (polygons_are i) rows) ∙ ap Ok all

-- plain words of `coastline` are taken with what they say
plain_coastline : (options : List (Form × CoastlineOption)) (file : Text) → ArePlainCoastline options file → coastline_asked (coastline_words options file) ≡ Ok (said_coastline options file)
plain_coastline options file plain =
    let words = plain_words option_words options file in
    let used = option_rows options in
    let end : Ends top (codes "file") words used file = ends top coastline_options (codes "file") coastline_file options file plain.once plain.values plain.file_name in
    let rows = matches_of coastline_app (coastline_words options file) in
    let found : settings_said rows ≡ Ok (said_coastline options file) =
    read_by rows (used ++ row_for (codes "file") file ∷ []) (said_coastline options file) (say options file plain.values) (given top [] (codes "file") coastline_ends_well words used file end) in
    ap₂ unless_refused (taken top [] (codes "file") coastline_ends_well words used file tt end) found

pub plain_coastline_asked : (options : List (Form × CoastlineOption)) (file : Text) → ArePlainCoastline options file
    → job_asked (coastline_words options file) ≡ Ok (coastline (said_coastline options file))
plain_coastline_asked options file plain = ap (as_job coastline) (plain_coastline options file plain)
