-- One object: its kind and id, and whether it is live.
use Rattle.std.specs.Prelude.{Bool, true, false, ◌&&◌, ℤ}
use Rattle.std.specs.Ordering.{int_eq}
use Rattle.osm_elements.specs.declared.object.ObjectKind.{ObjectKind}
use Rattle.osm_elements.specs.declared.object.ObjectKind.TheVariants.{Node, Way, Relation}
use Rattle.osm_elements.specs.declared.object.ObjectRef.{ObjectRef}
use Rattle.osm_elements.specs.declared.object.Object.{Object}
use Rattle.osm_elements.specs.declared.object.Object.TheVariants as object

abbrev pub kind_of : Object → ObjectKind
kind_of (object.Node id live tags place) = Node
kind_of (object.Way id live tags refs) = Way
kind_of (object.Relation id live tags members) = Relation

abbrev pub id_of : Object → ℤ
id_of (object.Node id live tags place) = id
id_of (object.Way id live tags refs) = id
id_of (object.Relation id live tags members) = id

-- it isn't deleted
abbrev pub is_live : Object → Bool
is_live (object.Node id live tags place) = live
is_live (object.Way id live tags refs) = live
is_live (object.Relation id live tags members) = live

abbrev pub ref_of : Object → ObjectRef
ref_of o = record { kind = kind_of o; id = id_of o }

abbrev pub same_kind : ObjectKind → ObjectKind → Bool
same_kind Node Node = true
same_kind Way Way = true
same_kind Relation Relation = true
same_kind a b = false

-- the object has this kind and id
abbrev pub is_at : ObjectRef → Object → Bool
is_at of o = same_kind of.kind (kind_of o) && int_eq of.id (id_of o)
