-- The ways that a candidate consists of.
use Rattle.std.specs.Prelude.{List, [], ◌∷◌, map, filter, count_by, nat_le, ℤ}
use Rattle.std.specs.Option.{option_map_or}
use Rattle.std.specs.Ordering.{int_eq}
use Rattle.osm_elements.specs.declared.object.Member.{Member}
use Rattle.osm_elements.specs.declared.object.ObjectKind.TheVariants.{Node, Way, Relation}
use Rattle.osm_elements.specs.declared.object.ObjectRef.{ObjectRef}
use Rattle.osm_elements.specs.declared.object.ObjectKind.{ObjectKind}
use Rattle.osm_elements.specs.declared.object.Object.{Object}
use Rattle.osm_objects.specs.Object.{same_kind}
use Rattle.osm_objects.specs.Objects.{relation_of}
use Rattle.lists.specs.Once.{each_once}

-- the ways among members, in order
abbrev pub ways_among : List Member → List ℤ
ways_among members = map (λ m. m.id) (filter (λ m. same_kind m.kind Way) members)

-- the ways that an object of this kind and id names, in order: a way names itself, and a relation its way members
abbrev pub ways_named_by : List Object → ObjectKind → ℤ → List ℤ
ways_named_by objects Node id = []
ways_named_by objects Way id = id ∷ []
ways_named_by objects Relation id = option_map_or (λ r. ways_among r.members) (relation_of objects id) []

abbrev pub named_ways : List Object → ObjectRef → List ℤ
named_ways objects candidate = ways_named_by objects candidate.kind candidate.id

-- the ways that a candidate names, each once, at its first mention
abbrev pub member_ways : List Object → ObjectRef → List ℤ
member_ways objects candidate = each_once int_eq (named_ways objects candidate)

-- the ways that it names at least twice
abbrev pub ways_named_twice : List Object → ObjectRef → List ℤ
ways_named_twice objects candidate =
    filter (λ way. nat_le 2 (count_by (int_eq way) (named_ways objects candidate))) (member_ways objects candidate)
