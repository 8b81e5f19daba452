-- Texts in one block, each after its length, or as one byte if it is usual.
-- They are alternating keys and values of tags, or the roles of members.
use Rattle.std.specs.Prelude.{◌≡◌, ◌≤◌, ℕ, zero, suc, ◌+◌, ◌-◌, ◌*◌, ◌/◌, ◌%◌, nat_lt, if◌then◌else◌, List, [], ◌∷◌, ◌++◌, length, take, drop, slice_index, slice_index_or, map}
use Rattle.std.specs.Str.{IsUtf8}
use Rattle.osm_elements.specs.declared.object.Tag.{Tag}
use Rattle.osm_elements.specs.declared.object.Member.{Member}
use Rattle.osm_elements.specs.declared.object.ObjectRef.{ObjectRef}
use Rattle.osm_elements.specs.Seen.{member_of}
use Rattle.osm_elements.specs.declared.usual.TheConstants.{USUAL}

-- the usual text that a byte from 192 to 254 codes
unfoldable pub usual_text : ℕ → List ℕ
usual_text code = slice_index_or (map (λ t. t.now) USUAL) (code - 192) []

-- A length below 192 is one byte; any other is the byte 255 and four digits in base 256, the lowest first.
unfoldable pub length_bytes : ℕ → List ℕ
length_bytes n = if nat_lt n 192 then n ∷ [] else 255 ∷ n % 256 ∷ n / 256 % 256 ∷ n / 65536 % 256 ∷ n / 16777216 ∷ []

-- how many bytes in front are a length or code a text
unfoldable pub head_len : List ℕ → ℕ
head_len bytes = if nat_lt (slice_index bytes 0) 255 then 1 else 5

-- how many bytes of the text follow them: none if a byte from 192 on codes it
unfoldable pub text_len : List ℕ → ℕ
text_len bytes = if nat_lt (slice_index bytes 0) 192 then slice_index bytes 0 else if nat_lt (slice_index bytes 0) 255 then 0 else slice_index bytes 1 + 256 * slice_index bytes 2 + 65536 * slice_index bytes 3 + 16777216 * slice_index bytes 4

-- the text after a first byte, or the one that this byte codes
unfoldable pub text_by : ℕ → List ℕ → List ℕ
text_by first behind = if nat_lt first 192 then behind else if nat_lt first 255 then usual_text first else behind

-- the text in front
abbrev pub first_text : List ℕ → List ℕ
first_text bytes = text_by (slice_index bytes 0) (take (text_len bytes) (drop (head_len bytes) bytes))

-- the bytes after it
abbrev pub after_text : List ℕ → List ℕ
after_text bytes = drop (text_len bytes) (drop (head_len bytes) bytes)

-- whatever follows these bytes, they give the text and no more
pub record Tell (text bytes : List ℕ) : Type 0 where
  pub first : (more : List ℕ) → first_text (bytes ++ more) ≡ text
  pub after : (more : List ℕ) → after_text (bytes ++ more) ≡ more
  pub room : (more : List ℕ) → head_len (bytes ++ more) + text_len (bytes ++ more) ≤ length (bytes ++ more)

-- bytes that give the text were added
pub record IsTextAdded (before text after : List ℕ) : Type 0 where
  pub bytes : List ℕ
  pub is : after ≡ before ++ bytes
  pub tell : Tell text bytes

-- a key was added, and then a value
pub record BothAdded (before key value after : List ℕ) : Type 0 where
  pub between : List ℕ
  pub of_key : IsTextAdded before key between
  pub of_value : IsTextAdded between value after

-- a whole text of characters is in front, after its length
pub record BeginsWithText (bytes : List ℕ) : Type 0 where
  pub room : head_len bytes + text_len bytes ≤ length bytes
  pub utf8 : IsUtf8 (first_text bytes)

-- this many tags, one after the other
abbrev pub tags_in : ℕ → List ℕ → List Tag
tags_in zero bytes = []
tags_in (suc count) bytes = record { key = first_text bytes; value = first_text (after_text bytes) } ∷ tags_in count (after_text (after_text bytes))

-- the bytes are this many keys and values, and nothing else
abbrev pub AreKeysAndValues : ℕ → List ℕ → Type 0
AreKeysAndValues zero bytes = bytes ≡ []
AreKeysAndValues (suc count) bytes = BeginsWithText bytes × BeginsWithText (after_text bytes) × AreKeysAndValues count (after_text (after_text bytes))

-- members of these kinds and ids, with roles one after the other
abbrev pub members_in : List ObjectRef → List ℕ → List Member
members_in [] bytes = []
members_in (target ∷ targets) bytes = member_of target (first_text bytes) ∷ members_in targets (after_text bytes)

-- the bytes are a role for each of these, and nothing else
abbrev pub HaveRoles : List ObjectRef → List ℕ → Type 0
HaveRoles [] bytes = bytes ≡ []
HaveRoles (target ∷ targets) bytes = BeginsWithText bytes × HaveRoles targets (after_text bytes)
