-- The options of `coast-filter`: its command of `clap` takes each. No public contract cites it.
use Rattle.std.proofs.Common.{◌≡◌, Bool, not, ◌||◌, ap, false, [], codes, refl, List}
use Rattle.std.specs.Str.{bytes_eq}
use Rattle.clap.specs.Words.{Row, Shape, Text, built}
use Rattle.clap.specs.Kinds.{check_kinds}
use Rattle.clap.specs.Walk.{has_row}
use Rattle.clap.proofs.OnLiterals.{clap_on_literals}
use Rattle.osm_words.specs.FilterCommand.{filter_app}
use Rattle.osm_words.specs.PlainWords.{Form, letter, long}
use Rattle.osm_words.specs.PlainFilter.{FilterOption, HasPlainValue, output, overwrite, name_of, option_words}
use Rattle.osm_words.proofs.Taken.{EndsWell}
use Rattle.osm_words.proofs.Walk.{Moves, Named, Options, Pending, Ready}
use Rattle.osm_words.proofs.Walk.{by_letter, by_long, flag_moves, option_moves, row_for}
use Rattle.osm_words.proofs.SharedOptions.{IsOption, IsPositional, named, takes_value}

abbrev pub top : Shape
top = (built filter_app).top

abbrev pub value_text : FilterOption → Text
value_text (output name) = name
value_text overwrite = codes "true"

output_option : IsOption top (codes "output")
output_option = record { one = record { settles = λ word rows. refl; passes = λ word rows. refl }; ends = λ word used. refl }

pub moves : (form : Form) (c : FilterOption) (rows : List Row) (pending : Pending) (used : List Row) → Ready top rows pending used
    → has_row (name_of c) used ≡ false → HasPlainValue c → Moves top (option_words form c) (row_for (name_of c) (value_text c)) rows pending used
unfolding clap_on_literals
moves letter (output name) rows pending used ready new plain =
    option_moves top (codes "-o") (codes "output") name rows pending used ready new (takes_value top (codes "output") output_option name plain) refl refl
moves long (output name) rows pending used ready new plain =
    option_moves top (codes "--output") (codes "output") name rows pending used ready new (takes_value top (codes "output") output_option name plain) refl refl
moves letter overwrite rows pending used ready new plain =
    flag_moves top (codes "-O") (codes "overwrite") by_letter rows pending used ready new refl refl refl
moves long overwrite rows pending used ready new plain =
    flag_moves top (codes "--overwrite") (codes "overwrite") by_long rows pending used ready new refl refl refl

abbrev pub filter_options : Options top
filter_options = record {
  Choice = FilterOption;
  name_of = name_of;
  value_of = value_text;
  words_of = option_words;
  HasPlainValue = HasPlainValue;
  moves = moves;
}

-- ---- the file

not_file : (c : FilterOption) → bytes_eq (name_of c) (codes "file") ≡ false
not_file (output name) = refl
not_file overwrite = refl

file_name : IsPositional top 1 (codes "file")
file_name = record {
  one = record { settles = λ word rows. refl; passes = λ word rows. refl };
  goes = λ word rows pending. refl;
  asks = λ rows pending. refl;
}

pub filter_file : Named top filter_options 1 (codes "file")
filter_file = named top 1 (codes "file") file_name filter_options not_file

-- the command asks for nothing but the file
pub filter_ends_well : EndsWell top [] (codes "file")
filter_ends_well = record {
  ready = filter_file.ready;
  defaults = (refl, (refl, (refl, tt)));
  checks = λ rows before given. ap (λ (is : Bool). check_kinds false false (not is || false)) given;
}
