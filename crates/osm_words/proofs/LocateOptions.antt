-- The options of `locate`: its command of `clap` takes each, and its two names. No public contract cites it.
use Rattle.std.proofs.Common.{◌≡◌, Bool, not, ◌||◌, ap₂, false, List, [], ◌∷◌, codes, refl}
use Rattle.std.specs.Str.{bytes_eq}
use Rattle.clap.specs.Words.{Row, Shape, Text, built}
use Rattle.clap.specs.Kinds.{check_kinds}
use Rattle.clap.specs.Walk.{has_row}
use Rattle.clap.proofs.OnLiterals.{clap_on_literals}
use Rattle.osm_words.specs.LocateCommand.{locate_app}
use Rattle.osm_words.specs.PlainWords.{Form, letter, long}
use Rattle.osm_words.specs.PlainLocate.{LocateOption, HasPlainValue, keep_untagged, area_keys, linear_keys, output, overwrite, name_of, option_words}
use Rattle.osm_words.proofs.Taken.{EndsWell}
use Rattle.osm_words.proofs.Walk.{Moves, Named, Options, Pending, Ready}
use Rattle.osm_words.proofs.Walk.{by_letter, by_long, flag_moves, option_moves, row_for}
use Rattle.osm_words.proofs.SharedOptions.{IsOption, IsPositional, named, takes_value}

abbrev pub top : Shape
top = (built locate_app).top

abbrev pub value_text : LocateOption → Text
value_text keep_untagged = codes "true"
value_text (area_keys written keys) = written
value_text (linear_keys written keys) = written
value_text (output name) = name
value_text overwrite = codes "true"

area_option : IsOption top (codes "area-keys")
area_option = record { one = record { settles = λ word rows. refl; passes = λ word rows. refl }; ends = λ word used. refl }

linear_option : IsOption top (codes "linear-keys")
linear_option = record { one = record { settles = λ word rows. refl; passes = λ word rows. refl }; ends = λ word used. refl }

output_option : IsOption top (codes "output")
output_option = record { one = record { settles = λ word rows. refl; passes = λ word rows. refl }; ends = λ word used. refl }

pub moves : (form : Form) (c : LocateOption) (rows : List Row) (pending : Pending) (used : List Row) → Ready top rows pending used
    → has_row (name_of c) used ≡ false → HasPlainValue c → Moves top (option_words form c) (row_for (name_of c) (value_text c)) rows pending used
unfolding clap_on_literals
moves letter keep_untagged rows pending used ready new plain =
    flag_moves top (codes "-n") (codes "keep-untagged") by_letter rows pending used ready new refl refl refl
moves long keep_untagged rows pending used ready new plain =
    flag_moves top (codes "--keep-untagged") (codes "keep-untagged") by_long rows pending used ready new refl refl refl
moves letter (area_keys written keys) rows pending used ready new plain =
    option_moves top (codes "--area-keys") (codes "area-keys") written rows pending used ready new (takes_value top (codes "area-keys") area_option written plain.0) refl refl
moves long (area_keys written keys) rows pending used ready new plain =
    option_moves top (codes "--area-keys") (codes "area-keys") written rows pending used ready new (takes_value top (codes "area-keys") area_option written plain.0) refl refl
moves letter (linear_keys written keys) rows pending used ready new plain =
    option_moves top (codes "--linear-keys") (codes "linear-keys") written rows pending used ready new (takes_value top (codes "linear-keys") linear_option written plain.0) refl refl
moves long (linear_keys written keys) rows pending used ready new plain =
    option_moves top (codes "--linear-keys") (codes "linear-keys") written rows pending used ready new (takes_value top (codes "linear-keys") linear_option written plain.0) refl refl
moves letter (output name) rows pending used ready new plain =
    option_moves top (codes "-o") (codes "output") name rows pending used ready new (takes_value top (codes "output") output_option name plain) refl refl
moves long (output name) rows pending used ready new plain =
    option_moves top (codes "--output") (codes "output") name rows pending used ready new (takes_value top (codes "output") output_option name plain) refl refl
moves letter overwrite rows pending used ready new plain =
    flag_moves top (codes "-O") (codes "overwrite") by_letter rows pending used ready new refl refl refl
moves long overwrite rows pending used ready new plain =
    flag_moves top (codes "--overwrite") (codes "overwrite") by_long rows pending used ready new refl refl refl

abbrev pub locate_options : Options top
locate_options = record {
  Choice = LocateOption;
  name_of = name_of;
  value_of = value_text;
  words_of = option_words;
  HasPlainValue = HasPlainValue;
  moves = moves;
}

-- ---- the two names

not_file : (c : LocateOption) → bytes_eq (name_of c) (codes "file") ≡ false
not_file keep_untagged = refl
not_file (area_keys written keys) = refl
not_file (linear_keys written keys) = refl
not_file (output name) = refl
not_file overwrite = refl

file_name : IsPositional top 1 (codes "file")
file_name = record {
  one = record { settles = λ word rows. refl; passes = λ word rows. refl };
  goes = λ word rows pending. refl;
  asks = λ rows pending. refl;
}

pub locate_file : Named top locate_options 1 (codes "file")
locate_file = named top 1 (codes "file") file_name locate_options not_file

not_points : (c : LocateOption) → bytes_eq (name_of c) (codes "points") ≡ false
not_points keep_untagged = refl
not_points (area_keys written keys) = refl
not_points (linear_keys written keys) = refl
not_points (output name) = refl
not_points overwrite = refl

points_name : IsPositional top 2 (codes "points")
points_name = record {
  one = record { settles = λ word rows. refl; passes = λ word rows. refl };
  goes = λ word rows pending. refl;
  asks = λ rows pending. refl;
}

pub locate_points : Named top locate_options 2 (codes "points")
locate_points = named top 2 (codes "points") points_name locate_options not_points

-- the command asks for nothing but the two names
pub locate_ends_well : EndsWell top (codes "file" ∷ []) (codes "points")
locate_ends_well = record {
  ready = locate_points.ready;
  defaults = (refl, (refl, (refl, (refl, (refl, (refl, (refl, tt)))))));
  checks = λ rows before given. ap₂ (λ (first second : Bool). check_kinds false false (not first || (not second || false))) before.0 given;
}
