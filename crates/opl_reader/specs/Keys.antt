-- KEYS, the value of an option: keys separated by commas.
use Rattle.std.specs.Prelude.{ℕ, ◌<◌, ◌≤◌, Bool, not, ◌&&◌, nat_lt, nat_le, if◌then◌else◌, List, [], ◌∷◌, length, Option, Some, None, option_and_then, option_map}
use Rattle.std.specs.List.{list_all, slice_split}
use Rattle.opl_reader.specs.Parts.{LacksSeparators, PartedByCommas}
use Rattle.opl_reader.specs.Strings.{IsString}
use Rattle.opl_reader.specs.Items.{Each}
use Rattle.opl_reader.specs.StringReading.{string_of}
use Rattle.opl_reader.specs.ItemReading.{is_comma}
use Rattle.opl_reader.specs.LineReading.{is_separator}

-- ---- which bytes write which keys

-- A key isn't empty, and is written as a string; a space and a tab are written as escapes.
pub record IsKey (bytes key : List ℕ) : Type 0 where
  pub one_word : LacksSeparators bytes
  pub string : IsString bytes key
  pub some : 0 < length key

-- at most 64 keys separated by commas; some may be equal
pub record AreKeys (bytes : List ℕ) (keys : List (List ℕ)) : Type 0 where
  pub parts : List (List ℕ)
  pub parted : PartedByCommas bytes parts
  pub written : Each IsKey parts keys
  pub few : length keys ≤ 64

-- ---- the same as functions of the bytes

-- neither a space nor a tab
abbrev pub is_inner : ℕ → Bool
is_inner b = not (is_separator b)

unfoldable pub key_said : List ℕ → Option (List ℕ)
key_said bytes = if nat_lt 0 (length bytes) && list_all is_inner bytes then string_of bytes else None

-- the key of each part, if each is one
abbrev pub each_said : List (List ℕ) → Option (List (List ℕ))
each_said [] = Some []
each_said (part ∷ parts) = option_and_then (λ key. option_map (λ keys. key ∷ keys) (each_said parts)) (key_said part)

unfoldable pub keys_said : List ℕ → Option (List (List ℕ))
keys_said bytes = if nat_le (length (slice_split is_comma bytes)) 64 then each_said (slice_split is_comma bytes) else None
