-- What a line of a text of points tells.
use Rattle.std.specs.Prelude.{ℕ, Bool, true, ◌==◌, nat_lt, not, ◌&&◌, is_none, List, [], ◌∷◌, length, filter, slice_index, pos, Option, None, option_and_then, if◌then◌else◌}
use Rattle.std.specs.List.{slice_split}
use Rattle.osm_lattice.specs.declared.loc.Loc.{Loc}
use Rattle.osm_elements.specs.Places.{latitude, longitude}
use Rattle.osm_elements.specs.Places.{location_from}
use Rattle.opl_reader.specs.LineReading.{is_separator}
use Rattle.opl_reader.specs.NumberReading.{decimal_of}
use Rattle.opl_reader.specs.Parts.{without_cr}

-- the texts between separators
abbrev pub words_in : List ℕ → List (List ℕ)
words_in text = filter (λ word. nat_lt 0 (length word)) (slice_split is_separator text)

-- the words of a line; a CR at its end is no part of them
abbrev pub words_of : List ℕ → List (List ℕ)
words_of line = words_in (without_cr line)

-- It has no words, or its first word begins with `#`, 35.
abbrev pub is_empty_or_comment : List (List ℕ) → Bool
is_empty_or_comment [] = true
is_empty_or_comment (first ∷ others) = slice_index first 0 == 35

-- the location of a longitude and a latitude, each a decimal of degrees; more or fewer words have none
abbrev pub location_in_words : List (List ℕ) → Option Loc
location_in_words [] = None
location_in_words (x ∷ []) = None
location_in_words (x ∷ (y ∷ [])) =
    location_from (option_and_then longitude (decimal_of (pos 1800000000) x)) (option_and_then latitude (decimal_of (pos 900000000) y))
location_in_words (x ∷ (y ∷ (z ∷ more))) = None

-- the point that a line tells; one that is passed over tells none
abbrev pub point_told : List ℕ → Option Loc
point_told line = if is_empty_or_comment (words_of line) then None else location_in_words (words_of line)

-- It isn't passed over, and tells no point.
abbrev pub is_bad : List ℕ → Bool
is_bad line = not (is_empty_or_comment (words_of line)) && is_none (location_in_words (words_of line))
