-- Which line spells which object, and which line is passed over.
use Rattle.std.specs.Prelude.{◌≡◌, ℕ, ◌⊎◌, List, [], ◌∷◌, ℤ, Some}
use Rattle.std.specs.Str.{IsUtf8}
use Rattle.osm_elements.specs.declared.object.ObjectKind.{ObjectKind}
use Rattle.osm_elements.specs.declared.object.Object.{Object}
use Rattle.osm_elements.specs.declared.object.Object.TheVariants as object
use Rattle.osm_elements.specs.declared.object.Tag.{Tag}
use Rattle.opl_reader.specs.declared.content.Content.{Content}
use Rattle.opl_reader.specs.Parts.{Part, part, without_cr, Parted}
use Rattle.opl_reader.specs.Numbers.{IsId}
use Rattle.opl_reader.specs.Items.{kind_by_letter}
use Rattle.opl_reader.specs.Fields.{nothing, object_of, Told}

-- A line of UTF-8, whose first field is a letter and an id, and whose other fields make the content.
pub record Spells (line : List ℕ) (o : Object) : Type 0 where
  pub place : ℕ
  pub letter : ℕ
  pub digits : List ℕ
  pub others : List Part
  pub kind : ObjectKind
  pub id : ℤ
  pub content : Content
  pub utf8 : IsUtf8 (without_cr line)
  pub fields : Parted 0 (without_cr line) (part place (letter ∷ digits) ∷ others)
  pub kind_is : kind_by_letter letter ≡ Some kind
  pub id_is : IsId digits id
  pub told : Told kind [] others nothing content
  pub is : object_of kind id content ≡ o

-- the first field begins a comment or a changeset
pub record IsAside (line : List ℕ) : Type 0 where
  pub place : ℕ
  pub letter : ℕ
  pub rest : List ℕ
  pub others : List Part
  pub fields : Parted 0 (without_cr line) (part place (letter ∷ rest) ∷ others)
  pub passed : (letter ≡ 35) ⊎ (letter ≡ 99)

-- The line has no fields, or it is a comment or a changeset.
abbrev pub IsPassedOver : List ℕ → Type 0
IsPassedOver line = Parted 0 (without_cr line) [] ⊎ IsAside line

-- the tags of an object
abbrev pub tags_of : Object → List Tag
tags_of (object.Node id live tags place) = tags
tags_of (object.Way id live tags refs) = tags
tags_of (object.Relation id live tags members) = tags
