-- What a candidate lacks.
use Rattle.std.specs.Prelude.{Bool, ◌&&◌, List, [], ◌∷◌, map, filter, ℤ, Option, None, Some, is_none}
use Rattle.std.specs.List.{flat_map}
use Rattle.std.specs.Ordering.{int_eq}
use Rattle.osm_elements.specs.declared.object.ObjectKind.TheVariants.{Node, Way}
use Rattle.osm_elements.specs.declared.object.Ref.{Ref}
use Rattle.osm_elements.specs.declared.object.ObjectRef.{ObjectRef}
use Rattle.osm_elements.specs.declared.object.Object.{Object}
use Rattle.osm_objects.specs.Object.{same_kind}
use Rattle.osm_objects.specs.Objects.{WayParts, way_of, place_of}
use Rattle.lists.specs.Once.{each_once}
use Rattle.osm_area.specs.MemberWays.{member_ways}

-- the same kind and id
abbrev pub same_ref : ObjectRef → ObjectRef → Bool
same_ref r s = same_kind r.kind s.kind && int_eq r.id s.id

-- the nodes of the references without a location, in order
abbrev pub nodes_missing : List Object → List Ref → List ObjectRef
nodes_missing objects refs = map (λ r. record { kind = Node; id = r.node }) (filter (λ r. is_none (place_of objects r)) refs)

-- what a way lacks: itself, if it isn't held, and otherwise nodes
abbrev pub missing_from : List Object → ℤ → Option WayParts → List ObjectRef
missing_from objects id None = record { kind = Way; id = id } ∷ []
missing_from objects id (Some way) = nodes_missing objects way.refs

abbrev pub way_missing : List Object → ℤ → List ObjectRef
way_missing objects id = missing_from objects id (way_of objects id)

-- what the member ways lack, one way after the other, each once, at its first place
abbrev pub missing : List Object → ObjectRef → List ObjectRef
missing objects candidate = each_once same_ref (flat_map (way_missing objects) (member_ways objects candidate))
