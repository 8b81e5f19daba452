-- Tags and members that are lent.
use Rattle.std.specs.Prelude.{ℕ, List}
use Rattle.osm_elements.specs.declared.tags.TagRef.{TagRef}
use Rattle.osm_elements.specs.declared.members.MemberRef.{MemberRef}
use Rattle.osm_elements.specs.declared.object.Tag.{Tag}
use Rattle.osm_elements.specs.declared.object.Member.{Member}
use Rattle.osm_elements.specs.declared.object.ObjectRef.{ObjectRef}

abbrev pub tag_seen : TagRef → Tag
tag_seen t = record { key = t.key.now; value = t.value.now }

abbrev pub member_seen : MemberRef → Member
member_seen m = record { kind = m.kind; id = m.id; role = m.role.now }

-- the member of this kind and id that has this role
abbrev pub member_of : ObjectRef → List ℕ → Member
member_of target role = record { kind = target.kind; id = target.id; role = role }
