-- The options of `coastline`: its command of `clap` takes each. No public contract cites it.
use Rattle.std.proofs.Common.{◌≡◌, Bool, not, ◌||◌, ap, false, [], codes, refl, List}
use Rattle.std.specs.Str.{bytes_eq}
use Rattle.clap.specs.Words.{Row, Shape, Text, built}
use Rattle.clap.specs.Kinds.{check_kinds}
use Rattle.clap.specs.Walk.{has_row}
use Rattle.clap.proofs.OnLiterals.{clap_on_literals}
use Rattle.osm_words.specs.CoastlineCommand.{coastline_app}
use Rattle.osm_words.specs.PlainWords.{Form, begins_with_dash, letter, long}
use Rattle.osm_words.specs.PlainCoastline.{CoastlineOption, HasPlainValue, polygons_text, close_distance, max_points, bbox_overlap, polygons, output, overwrite, cut_crossings, name_of, option_words}
use Rattle.osm_words.specs.declared.settings.OutputPolygons.{OutputPolygons}
use Rattle.osm_words.specs.declared.settings.OutputPolygons.TheVariants.{Land, Water, Both, Neither}
use Rattle.osm_words.proofs.Taken.{EndsWell}
use Rattle.osm_words.proofs.Walk.{Moves, Named, Options, Pending, Ready}
use Rattle.osm_words.proofs.Walk.{by_letter, by_long, flag_moves, option_moves, row_for}
use Rattle.osm_words.proofs.SharedOptions.{IsOption, IsPositional, named, takes_value}

abbrev pub top : Shape
top = (built coastline_app).top

abbrev pub value_text : CoastlineOption → Text
value_text (close_distance written units) = written
value_text (max_points written points) = written
value_text (bbox_overlap written units) = written
value_text (polygons p) = polygons_text p
value_text (output name) = name
value_text overwrite = codes "true"
value_text cut_crossings = codes "true"

polygons_plain : (p : OutputPolygons) → begins_with_dash (polygons_text p) ≡ false
polygons_plain Land = refl
polygons_plain Water = refl
polygons_plain Both = refl
polygons_plain Neither = refl

distance_option : IsOption top (codes "close-distance")
distance_option = record { one = record { settles = λ word rows. refl; passes = λ word rows. refl }; ends = λ word used. refl }

points_option : IsOption top (codes "max-points")
points_option = record { one = record { settles = λ word rows. refl; passes = λ word rows. refl }; ends = λ word used. refl }

overlap_option : IsOption top (codes "bbox-overlap")
overlap_option = record { one = record { settles = λ word rows. refl; passes = λ word rows. refl }; ends = λ word used. refl }

polygons_option : IsOption top (codes "polygons")
polygons_option = record { one = record { settles = λ word rows. refl; passes = λ word rows. refl }; ends = λ word used. refl }

output_option : IsOption top (codes "output")
output_option = record { one = record { settles = λ word rows. refl; passes = λ word rows. refl }; ends = λ word used. refl }

pub moves : (form : Form) (c : CoastlineOption) (rows : List Row) (pending : Pending) (used : List Row) → Ready top rows pending used → has_row (name_of c) used ≡ false
    → HasPlainValue c → Moves top (option_words form c) (row_for (name_of c) (value_text c)) rows pending used
unfolding clap_on_literals
moves letter (close_distance written units) rows pending used ready new plain = option_moves top (codes "-c") (codes "close-distance") written rows pending used ready new (takes_value top (codes "close-distance") distance_option written plain.0) refl refl
moves long (close_distance written units) rows pending used ready new plain = option_moves top (codes "--close-distance") (codes "close-distance") written rows pending used ready new (takes_value top (codes "close-distance") distance_option written plain.0) refl refl
moves letter (max_points written points) rows pending used ready new plain = option_moves top (codes "-m") (codes "max-points") written rows pending used ready new (takes_value top (codes "max-points") points_option written plain.0) refl refl
moves long (max_points written points) rows pending used ready new plain = option_moves top (codes "--max-points") (codes "max-points") written rows pending used ready new (takes_value top (codes "max-points") points_option written plain.0) refl refl
moves letter (bbox_overlap written units) rows pending used ready new plain = option_moves top (codes "-b") (codes "bbox-overlap") written rows pending used ready new (takes_value top (codes "bbox-overlap") overlap_option written plain.0) refl refl
moves long (bbox_overlap written units) rows pending used ready new plain = option_moves top (codes "--bbox-overlap") (codes "bbox-overlap") written rows pending used ready new (takes_value top (codes "bbox-overlap") overlap_option written plain.0) refl refl
moves letter (polygons p) rows pending used ready new plain = option_moves top (codes "-p") (codes "polygons") (polygons_text p) rows pending used ready new (takes_value top (codes "polygons") polygons_option (polygons_text p) (polygons_plain p)) refl refl
moves long (polygons p) rows pending used ready new plain = option_moves top (codes "--output-polygons") (codes "polygons") (polygons_text p) rows pending used ready new (takes_value top (codes "polygons") polygons_option (polygons_text p) (polygons_plain p)) refl refl
moves letter (output name) rows pending used ready new plain = option_moves top (codes "--output") (codes "output") name rows pending used ready new (takes_value top (codes "output") output_option name plain) refl refl
moves long (output name) rows pending used ready new plain = option_moves top (codes "--output") (codes "output") name rows pending used ready new (takes_value top (codes "output") output_option name plain) refl refl
moves letter overwrite rows pending used ready new plain = flag_moves top (codes "-f") (codes "overwrite") by_letter rows pending used ready new refl refl refl
moves long overwrite rows pending used ready new plain = flag_moves top (codes "--overwrite") (codes "overwrite") by_long rows pending used ready new refl refl refl
moves letter cut_crossings rows pending used ready new plain = flag_moves top (codes "--cut-crossings") (codes "cut-crossings") by_long rows pending used ready new refl refl refl
moves long cut_crossings rows pending used ready new plain = flag_moves top (codes "--cut-crossings") (codes "cut-crossings") by_long rows pending used ready new refl refl refl

abbrev pub coastline_options : Options top
coastline_options = record {
  Choice = CoastlineOption;
  name_of = name_of;
  value_of = value_text;
  words_of = option_words;
  HasPlainValue = HasPlainValue;
  moves = moves;
}

-- ---- the file

not_file : (c : CoastlineOption) → bytes_eq (name_of c) (codes "file") ≡ false
not_file (close_distance written units) = refl
not_file (max_points written points) = refl
not_file (bbox_overlap written units) = refl
not_file (polygons p) = refl
not_file (output name) = refl
not_file overwrite = refl
not_file cut_crossings = refl

file_name : IsPositional top 1 (codes "file")
file_name = record {
  one = record { settles = λ word rows. refl; passes = λ word rows. refl };
  goes = λ word rows pending. refl;
  asks = λ rows pending. refl;
}

pub coastline_file : Named top coastline_options 1 (codes "file")
coastline_file = named top 1 (codes "file") file_name coastline_options not_file

-- the command asks for nothing but the file
pub coastline_ends_well : EndsWell top [] (codes "file")
coastline_ends_well = record {
  ready = coastline_file.ready;
  defaults = (refl, (refl, (refl, (refl, (refl, (refl, (refl, (refl, tt))))))));
  checks = λ rows before given. ap (λ (is : Bool). check_kinds false false (not is || false)) given;
}
