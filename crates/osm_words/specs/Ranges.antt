-- The ranges of values that several commands share.
use Rattle.std.specs.Prelude.{ℕ, Bool, ◌&&◌, List, Option, Some, None, Result, Ok, Err, codes, if◌then◌else◌, option_map}
use Rattle.std.specs.Str.{bytes_eq}
use Rattle.opl_reader.specs.Keys.{keys_said}
use Rattle.osm_objects.specs.declared.area.UniqueId.{UniqueId}
use Rattle.osm_objects.specs.declared.area.UniqueId.TheVariants.{Counter, TypeId}
use Rattle.osm_words.specs.declared.fault.WordsFault.{WordsFault}
use Rattle.osm_words.specs.declared.fault.WordsFault.TheVariants.{OutOfRange}

abbrev pub ids_named : List ℕ → Option UniqueId
ids_named word =
    if bytes_eq word (codes "counter") then Some Counter
    else if bytes_eq word (codes "type_id") then Some TypeId else None

-- the ids of a value; where there is none, areas get none
abbrev pub ids_said : Option (List ℕ) → Option (Option UniqueId)
ids_said None = Some None
ids_said (Some word) = option_map (λ ids. Some ids) (ids_named word)

-- the keys of a value; where there is none, no list is given
abbrev pub keys_asked : Option (List ℕ) → Option (Option (List (List ℕ)))
keys_asked None = Some None
keys_asked (Some written) = option_map (λ keys. Some keys) (keys_said written)

-- both names are a lone dash
abbrev pub are_both_dashes : List ℕ → List ℕ → Bool
are_both_dashes file second = bytes_eq file (codes "-") && bytes_eq second (codes "-")

-- Standard input is read once: settings in which both names are a lone dash are refused as `t`, of the code 116.
abbrev pub unless_both_dashes : {S : Type 0} → List ℕ → List ℕ → S → Result S WordsFault
unless_both_dashes file second settings = if are_both_dashes file second then Err (OutOfRange 116) else Ok settings
