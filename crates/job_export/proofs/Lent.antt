-- The tags of a way that is lent are those of its area.
use Rattle.std.proofs.Common.{◌≡◌, List, ℤ, Option, None, Some, ap}
use Rattle.std.specs.Option.{option_and_then}
use Rattle.osm_elements.specs.declared.object.Object.{Object}
use Rattle.osm_elements.specs.declared.object.Object.TheVariants as object
use Rattle.osm_elements.specs.declared.object.ObjectKind.TheVariants.{Way}
use Rattle.osm_objects.specs.Candidates.{area_tags}
use Rattle.osm_objects.specs.Objects.{WayParts, object_at, way_in, way_of}
use Rattle.osm_area.specs.Feature.{feature_tags}

by_parts : (found : Option Object) (parts : WayParts) → Some parts ≡ option_and_then way_in found → parts.tags ≡ feature_tags found
unfolding area_tags
by_parts None parts is = absurd (cc)
by_parts (Some (object.Node id live tags place)) parts is = absurd (cc)
by_parts (Some (object.Way id live tags refs)) parts is = let same : parts ≡ record { tags = tags; refs = refs } = cc in ap (λ (p : WayParts). p.tags) same
by_parts (Some (object.Relation id live tags members)) parts is = absurd (cc)

pub way_tags : (objects : List Object) (id : ℤ) (parts : WayParts) → Some parts ≡ way_of objects id → parts.tags ≡ feature_tags (object_at objects (record { kind = Way; id = id }))
way_tags objects id parts is = by_parts (object_at objects (record { kind = Way; id = id })) parts is
