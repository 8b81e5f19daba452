-- Which objects a line can spell as this crate writes them.
use Rattle.std.specs.Prelude.{◌≡◌, ◌≤◌, List, ℤ, nat_abs, true, All}
use Rattle.std.specs.Str.{IsUtf8}
use Rattle.osm_elements.specs.declared.object.Tag.{Tag}
use Rattle.osm_elements.specs.declared.object.Ref.{Ref}
use Rattle.osm_elements.specs.declared.object.Member.{Member}
use Rattle.osm_elements.specs.declared.object.Object.{Object}
use Rattle.osm_elements.specs.declared.object.Object.TheVariants as object
use Rattle.opl_reader.specs.Items.{HaveDifferentKeys}

-- a number that an id may be: its magnitude is at most 2^62 - 1
abbrev pub IsIdNumber : ℤ → Type 0
IsIdNumber id = nat_abs id ≤ 4611686018427387903

-- the key and the value are texts of characters
abbrev pub IsTagOfTexts : Tag → Type 0
IsTagOfTexts t = IsUtf8 t.key × IsUtf8 t.value

-- texts of characters, and no key twice
abbrev pub AreTags : List Tag → Type 0
AreTags tags = All IsTagOfTexts tags × HaveDifferentKeys tags

abbrev pub IsRefInRange : Ref → Type 0
IsRefInRange r = IsIdNumber r.node

abbrev pub AreRefs : List Ref → Type 0
AreRefs refs = All IsRefInRange refs

abbrev pub IsMemberInRange : Member → Type 0
IsMemberInRange m = IsIdNumber m.id × IsUtf8 m.role

abbrev pub AreMembers : List Member → Type 0
AreMembers members = All IsMemberInRange members

-- Its ids are in range, its texts are texts of characters, and no key occurs twice.
abbrev pub IsWellFormed : Object → Type 0
IsWellFormed (object.Node id live tags place) = IsIdNumber id × AreTags tags
IsWellFormed (object.Way id live tags refs) = IsIdNumber id × AreTags tags × AreRefs refs
IsWellFormed (object.Relation id live tags members) = IsIdNumber id × AreTags tags × AreMembers members

-- it isn't deleted
abbrev pub IsLive : Object → Type 0
IsLive (object.Node id live tags place) = live ≡ true
IsLive (object.Way id live tags refs) = live ≡ true
IsLive (object.Relation id live tags members) = live ≡ true

-- a live object that a line can spell
abbrev pub IsWritable : Object → Type 0
IsWritable o = IsLive o × IsWellFormed o
