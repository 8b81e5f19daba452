-- Words that only contracts of private functions cite: one step of a reading.
use Rattle.std.specs.Prelude.{◌≡◌, ℕ, ◌+◌, ◌-◌, ◌^◌, ◌<◌, ◌≤◌, nat_le, min, Bool, true, false, ◌==◌, if◌then◌else◌, List, [], ◌∷◌, ◌++◌, length, take, slice_index_or, Option, Some, None, Result, Ok}
use Rattle.std.specs.BTreeSet.{BTreeSet, contains_text}
use Rattle.std.specs.Char.{is_ascii_digit}
use Rattle.std.specs.List.{slice_split, position_or_len, list_all, list_any}
use Rattle.std.specs.Str.Parse.{digits_value}
use Rattle.std.specs.Str.{bytes_eq}
use Rattle.std.specs.declared.string.String.{String}
use Rattle.osm_elements.specs.declared.object.Ref.{Ref}
use Rattle.osm_elements.specs.declared.object.Tag.{Tag}
use Rattle.osm_elements.specs.declared.object.Member.{Member}
use Rattle.opl_reader.specs.declared.fault.LineFault.{LineFault}
use Rattle.opl_reader.specs.declared.fault.LineError.{LineError}
use Rattle.opl_reader.specs.declared.fault.LineError.TheVariants as line
use Rattle.opl_reader.specs.declared.feed.FeedError.{FeedError}
use Rattle.opl_reader.specs.declared.feed.FeedError.TheVariants.{Line, OutOfMemory}
use Rattle.opl_reader.specs.Parts.{Part, part}
use Rattle.opl_reader.specs.Reading.{◌>>=◌}
use Rattle.opl_reader.specs.ItemReading.{is_comma, tag_at, ref_spelled, member_at}
use Rattle.opl_reader.specs.LineReading.{is_passed_over}

-- a value, at most the greatest number of the machine
abbrev pub capped : ℕ → ℕ
capped n = min n (2 ^ 64 - 1)

-- the text begins with `count` digits that have this value
pub record LeadingDigits (bytes : List ℕ) (value count : ℕ) : Type 0 where
  pub digits : list_all is_ascii_digit (take count bytes) ≡ true
  pub worth : value ≡ digits_value 10 (take count bytes)
  pub few : count ≤ 18

-- at most a space, as a separator is
abbrev pub is_low : ℕ → Bool
is_low b = nat_le b 32

-- ---- items

-- the text of a value that isn't empty
abbrev pub all_left : List ℕ → Option (List ℕ)
all_left text = if length text == 0 then None else Some text

-- the items in what is left
abbrev pub left_parts : Option (List ℕ) → List (List ℕ)
left_parts None = []
left_parts (Some rest) = slice_split is_comma rest

-- the length of what is left, with the comma before it
abbrev pub left_len : Option (List ℕ) → ℕ
left_len None = 0
left_len (Some rest) = length rest + 1

-- the first `len` bytes are the first item, and it is this reference
pub record BeginsWithRef (rest : List ℕ) (reference : Ref) (len : ℕ) : Type 0 where
  pub inside : len ≤ length rest
  pub ends : position_or_len is_comma rest ≡ len
  pub read : ref_spelled (take len rest) ≡ Some reference

-- the first `len` bytes are the first item, which is read as this, and `left` is left after its comma
pub record IsFirstRef (rest : List ℕ) (reference : Option Ref) (len : ℕ) (left : Option (List ℕ)) : Type 0 where
  pub item : List ℕ
  pub parts : slice_split is_comma rest ≡ item ∷ left_parts left
  pub read : reference ≡ ref_spelled item
  pub long : length item ≡ len
  pub whole : len + left_len left ≡ length rest

-- the tags with one more, unless one with its key is there
abbrev pub kept_with : List Tag → Tag → List Tag
kept_with tags t = if list_any (λ u. bytes_eq u.key t.key) tags then tags else tags ++ t ∷ []

-- the tag with this key and this value
abbrev pub tag : List ℕ → List ℕ → Tag
tag key value = record { key = key; value = value }

-- the tags with the one that an item spells, or the item's fault
abbrev pub kept_at : List Tag → ℕ → List ℕ → Result (List Tag) LineFault
kept_at tags place item = tag_at place item >>= λ t. Ok (kept_with tags t)

-- the members with the one that an item spells, or the item's fault
abbrev pub with_member_at : List Member → ℕ → List ℕ → Result (List Member) LineFault
with_member_at members place item = member_at place item >>= λ m. Ok (members ++ m ∷ [])

-- the set has the keys of these tags
abbrev pub HasKeysOf : {Y : Type 0} → BTreeSet (String Y) → List Tag → Type 0
HasKeysOf keys tags = (key : List ℕ) → contains_text keys key ≡ list_any (λ t. bytes_eq t.key key) tags

-- ---- fields

-- the flags mark these letters and no others
abbrev pub Marks : List Bool → List ℕ → Type 0
Marks seen letters = (length seen ≡ 256) × ((k : ℕ) → k < 256 → slice_index_or seen k false ≡ list_any (λ s. s == k) letters)

-- a part, if it isn't empty, before the fields after it
abbrev pub with_part : ℕ → List ℕ → List Part → List Part
with_part place [] fields = fields
with_part place (b ∷ bytes) fields = part place (b ∷ bytes) ∷ fields

-- whether the first of these fields lets the line be passed over
abbrev pub begins_passed : List Part → Bool
begins_passed [] = true
begins_passed (first ∷ others) = is_passed_over first

-- ---- pieces

-- the error of the line of this number
abbrev pub of_line : ℕ → LineError → FeedError
of_line number (line.Fault fault) = Line number fault
of_line number line.OutOfMemory = OutOfMemory
