-- Why an object isn't added.
use Rattle.std.specs.Prelude.{◌≡◌, true, false, List}
use Rattle.osm_elements.specs.declared.object.Object.{Object}
use Rattle.osm_objects.specs.Object.{is_live, kind_of, id_of}
use Rattle.osm_objects.specs.Objects.{is_duplicate}
use Rattle.osm_objects.specs.declared.error.AddError.{AddError}
use Rattle.osm_objects.specs.declared.error.AddError.TheVariants.{Duplicate, OutOfMemory}

-- A duplicate, and nothing else, is refused as one, by its kind and id.
-- Memory runs out only for a live object: a deleted one is never refused.
abbrev pub Refuses : List Object → Object → AddError → Type 0
Refuses objects o (Duplicate kind id) = (is_duplicate objects o ≡ true) × (kind ≡ kind_of o) × (id ≡ id_of o)
Refuses objects o OutOfMemory = (is_live o ≡ true) × (is_duplicate objects o ≡ false)
