-- The live objects of an input, in order, and what is found among them.
use Rattle.std.specs.Prelude.{◌≡◌, Bool, ◌&&◌, if◌then◌else◌, List, [], ◌∷◌, ◌++◌, find, ℤ, Option, None, Some, option_and_then, is_some}
use Rattle.std.specs.Option.{option_or}
use Rattle.osm_lattice.specs.declared.loc.Loc.{Loc}
use Rattle.osm_elements.specs.declared.object.Tag.{Tag}
use Rattle.osm_elements.specs.declared.object.Member.{Member}
use Rattle.osm_elements.specs.declared.object.Ref.{Ref}
use Rattle.osm_elements.specs.declared.object.ObjectKind.TheVariants.{Node, Way, Relation}
use Rattle.osm_elements.specs.declared.object.ObjectRef.{ObjectRef}
use Rattle.osm_elements.specs.declared.object.Object.{Object}
use Rattle.osm_elements.specs.declared.object.Object.TheVariants as object
use Rattle.osm_objects.specs.Object.{is_live, ref_of, is_at}

-- ---- look-ups

-- the object of this kind and id
abbrev pub object_at : List Object → ObjectRef → Option Object
object_at objects of = find (is_at of) objects

abbrev pub place_in : Object → Option Loc
place_in (object.Node id live tags place) = place
place_in (object.Way id live tags refs) = None
place_in (object.Relation id live tags members) = None

-- the location of the node of this id
abbrev pub location_of : List Object → ℤ → Option Loc
location_of objects id = option_and_then place_in (object_at objects (record { kind = Node; id = id }))

-- the location of a reference: its own if it has one, and otherwise that of the node of its id
abbrev pub place_of : List Object → Ref → Option Loc
place_of objects reference = option_or reference.at (location_of objects reference.node)

-- a node's tags and location
pub record NodeParts : Type 0 where
  pub tags : List Tag
  pub place : Option Loc

abbrev pub node_in : Object → Option NodeParts
node_in (object.Node id live tags place) = Some (record { tags = tags; place = place })
node_in (object.Way id live tags refs) = None
node_in (object.Relation id live tags members) = None

-- the node of this id
abbrev pub node_of : List Object → ℤ → Option NodeParts
node_of objects id = option_and_then node_in (object_at objects (record { kind = Node; id = id }))

-- a way's tags and references
pub record WayParts : Type 0 where
  pub tags : List Tag
  pub refs : List Ref

abbrev pub way_in : Object → Option WayParts
way_in (object.Node id live tags place) = None
way_in (object.Way id live tags refs) = Some (record { tags = tags; refs = refs })
way_in (object.Relation id live tags members) = None

-- the way of this id
abbrev pub way_of : List Object → ℤ → Option WayParts
way_of objects id = option_and_then way_in (object_at objects (record { kind = Way; id = id }))

-- a relation's tags and members
pub record RelationParts : Type 0 where
  pub tags : List Tag
  pub members : List Member

abbrev pub relation_in : Object → Option RelationParts
relation_in (object.Node id live tags place) = None
relation_in (object.Way id live tags refs) = None
relation_in (object.Relation id live tags members) = Some (record { tags = tags; members = members })

-- the relation of this id
abbrev pub relation_of : List Object → ℤ → Option RelationParts
relation_of objects id = option_and_then relation_in (object_at objects (record { kind = Relation; id = id }))

-- ---- one more object

-- a live object comes last, and a deleted one adds nothing
abbrev pub with_object : List Object → Object → List Object
with_object objects o = if is_live o then objects ++ o ∷ [] else objects

-- it is live, and one of its kind and id is there
abbrev pub is_duplicate : List Object → Object → Bool
is_duplicate objects o = is_live o && is_some (object_at objects (ref_of o))

-- no two have one kind and id: none comes again after its place
abbrev pub AreApart : List Object → Type 0
AreApart [] = Unit {0}
AreApart (o ∷ objects) = (object_at objects (ref_of o) ≡ None) × AreApart objects
