-- What the field tables say about letters.
use Rattle.std.specs.Prelude.{◌≡◌, ℕ, ◌||◌, ◌==◌, if◌then◌else◌, List, Option, Some, None, option_and_then}
use Rattle.osm_tables.specs.declared.Row.{Row}
use Rattle.osm_tables.specs.declared.TheConstants.{NODE_FIELDS, WAY_FIELDS, RELATION_FIELDS}
use Rattle.osm_tables.specs.Tables.{code_of}
use Rattle.osm_elements.specs.declared.object.ObjectKind.{ObjectKind}
use Rattle.osm_elements.specs.declared.object.ObjectKind.TheVariants.{Node, Way, Relation}
use Rattle.opl_reader.specs.declared.field.Meaning.{Meaning}
use Rattle.opl_reader.specs.declared.field.Meaning.TheVariants.{Count, Flag, Anything, Name, X, Y, Tagged, Referring, Having}
use Rattle.opl_reader.specs.Fields.{letter_of}

-- the table of a kind of object
abbrev pub table_of : ObjectKind → List Row
table_of Node = NODE_FIELDS
table_of Way = WAY_FIELDS
table_of Relation = RELATION_FIELDS

-- what a code of the tables means; 0 for no field
abbrev pub meaning_of : ℕ → Option Meaning
meaning_of code = if code == 1 then Some Tagged else (if code == 2 || code == 4 || code == 7 then Some Count else (if code == 3 then Some Flag else (if code == 5 then Some Anything else (if code == 6 then Some Name else (if code == 8 then Some X else (if code == 9 then Some Y else (if code == 10 then Some Referring else (if code == 11 then Some Having else None))))))))

-- A letter means what the code in its row means, and nothing if it has no row.
abbrev pub TablesHaveTheLetters : Type 0
TablesHaveTheLetters = (kind : ObjectKind) (letter : ℕ) → letter_of kind letter ≡ option_and_then meaning_of (code_of (table_of kind) letter)
