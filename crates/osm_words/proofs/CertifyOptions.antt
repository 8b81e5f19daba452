-- The options of `certify`: its command of `clap` takes each, and its two names. No public contract cites it.
use Rattle.std.proofs.Common.{◌≡◌, Bool, not, ◌||◌, ap₂, false, List, [], ◌∷◌, codes, refl}
use Rattle.std.specs.Str.{bytes_eq}
use Rattle.clap.specs.Words.{Row, Shape, Text, built}
use Rattle.clap.specs.Kinds.{check_kinds}
use Rattle.clap.specs.Walk.{has_row}
use Rattle.clap.proofs.OnLiterals.{clap_on_literals}
use Rattle.osm_words.specs.CertifyCommand.{certify_app}
use Rattle.osm_words.specs.PlainWords.{Form, letter, long}
use Rattle.osm_words.specs.PlainCertify.{CertifyOption, HasPlainValue, keep_untagged, ids, area_keys, linear_keys, name_of, option_words}
use Rattle.osm_words.specs.PlainExport.{ids_text}
use Rattle.osm_words.proofs.ExportOptions.{ids_plain}
use Rattle.osm_words.proofs.Taken.{EndsWell}
use Rattle.osm_words.proofs.Walk.{Moves, Named, Options, Pending, Ready}
use Rattle.osm_words.proofs.Walk.{by_letter, by_long, flag_moves, option_moves, row_for}
use Rattle.osm_words.proofs.SharedOptions.{IsOption, IsPositional, named, takes_value}

abbrev pub top : Shape
top = (built certify_app).top

abbrev pub value_text : CertifyOption → Text
value_text keep_untagged = codes "true"
value_text (ids i) = ids_text i
value_text (area_keys written keys) = written
value_text (linear_keys written keys) = written

ids_option : IsOption top (codes "ids")
ids_option = record { one = record { settles = λ word rows. refl; passes = λ word rows. refl }; ends = λ word used. refl }

area_option : IsOption top (codes "area-keys")
area_option = record { one = record { settles = λ word rows. refl; passes = λ word rows. refl }; ends = λ word used. refl }

linear_option : IsOption top (codes "linear-keys")
linear_option = record { one = record { settles = λ word rows. refl; passes = λ word rows. refl }; ends = λ word used. refl }

pub moves : (form : Form) (c : CertifyOption) (rows : List Row) (pending : Pending) (used : List Row) → Ready top rows pending used
    → has_row (name_of c) used ≡ false → HasPlainValue c → Moves top (option_words form c) (row_for (name_of c) (value_text c)) rows pending used
unfolding clap_on_literals
moves letter keep_untagged rows pending used ready new plain =
    flag_moves top (codes "-n") (codes "keep-untagged") by_letter rows pending used ready new refl refl refl
moves long keep_untagged rows pending used ready new plain =
    flag_moves top (codes "--keep-untagged") (codes "keep-untagged") by_long rows pending used ready new refl refl refl
moves letter (ids i) rows pending used ready new plain =
    option_moves top (codes "-u") (codes "ids") (ids_text i) rows pending used ready new (takes_value top (codes "ids") ids_option (ids_text i) (ids_plain i)) refl refl
moves long (ids i) rows pending used ready new plain =
    option_moves top (codes "--add-unique-id") (codes "ids") (ids_text i) rows pending used ready new (takes_value top (codes "ids") ids_option (ids_text i) (ids_plain i)) refl refl
moves letter (area_keys written keys) rows pending used ready new plain =
    option_moves top (codes "--area-keys") (codes "area-keys") written rows pending used ready new (takes_value top (codes "area-keys") area_option written plain.0) refl refl
moves long (area_keys written keys) rows pending used ready new plain =
    option_moves top (codes "--area-keys") (codes "area-keys") written rows pending used ready new (takes_value top (codes "area-keys") area_option written plain.0) refl refl
moves letter (linear_keys written keys) rows pending used ready new plain =
    option_moves top (codes "--linear-keys") (codes "linear-keys") written rows pending used ready new (takes_value top (codes "linear-keys") linear_option written plain.0) refl refl
moves long (linear_keys written keys) rows pending used ready new plain =
    option_moves top (codes "--linear-keys") (codes "linear-keys") written rows pending used ready new (takes_value top (codes "linear-keys") linear_option written plain.0) refl refl

abbrev pub certify_options : Options top
certify_options = record {
  Choice = CertifyOption;
  name_of = name_of;
  value_of = value_text;
  words_of = option_words;
  HasPlainValue = HasPlainValue;
  moves = moves;
}

-- ---- the two names

not_file : (c : CertifyOption) → bytes_eq (name_of c) (codes "file") ≡ false
not_file keep_untagged = refl
not_file (ids i) = refl
not_file (area_keys written keys) = refl
not_file (linear_keys written keys) = refl

file_name : IsPositional top 1 (codes "file")
file_name = record {
  one = record { settles = λ word rows. refl; passes = λ word rows. refl };
  goes = λ word rows pending. refl;
  asks = λ rows pending. refl;
}

pub certify_file : Named top certify_options 1 (codes "file")
certify_file = named top 1 (codes "file") file_name certify_options not_file

not_text : (c : CertifyOption) → bytes_eq (name_of c) (codes "text") ≡ false
not_text keep_untagged = refl
not_text (ids i) = refl
not_text (area_keys written keys) = refl
not_text (linear_keys written keys) = refl

text_name : IsPositional top 2 (codes "text")
text_name = record {
  one = record { settles = λ word rows. refl; passes = λ word rows. refl };
  goes = λ word rows pending. refl;
  asks = λ rows pending. refl;
}

pub certify_text : Named top certify_options 2 (codes "text")
certify_text = named top 2 (codes "text") text_name certify_options not_text

-- the command asks for nothing but the two names
pub certify_ends_well : EndsWell top (codes "file" ∷ []) (codes "text")
certify_ends_well = record {
  ready = certify_text.ready;
  defaults = (refl, (refl, (refl, (refl, (refl, (refl, tt))))));
  checks = λ rows before given. ap₂ (λ (first second : Bool). check_kinds false false (not first || (not second || false))) before.0 given;
}
