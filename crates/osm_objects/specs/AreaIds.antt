-- Ids of areas.
use Rattle.std.specs.Prelude.{ℕ, ◌+◌, ◌*◌, ◌^◌, nat_lt, Bool, if◌then◌else◌, ℤ, pos, negsuc, neg_ℤ, unsigned_abs, Option, None, Some}
use Rattle.osm_elements.specs.declared.object.ObjectKind.{ObjectKind}
use Rattle.osm_elements.specs.declared.object.ObjectKind.TheVariants.{Node, Way, Relation}
use Rattle.osm_elements.specs.declared.object.ObjectRef.{ObjectRef}

-- an id lies within +-(2 ^ 62 - 1)
abbrev pub is_id : ℤ → Bool
is_id id = nat_lt (unsigned_abs id) (2 ^ 62)

-- the number of a magnitude, with the sign of an id
abbrev pub with_sign_of : ℤ → ℕ → ℤ
with_sign_of (pos n) magnitude = pos magnitude
with_sign_of (negsuc n) magnitude = neg_ℤ (pos magnitude)

-- 2 * id of a way's area and 2 * id + 1 of a relation's, on the magnitude; a node has none
abbrev pub area_number : ObjectKind → ℤ → Option ℤ
area_number Node id = None
area_number Way id = Some (with_sign_of id (2 * unsigned_abs id))
area_number Relation id = Some (with_sign_of id (2 * unsigned_abs id + 1))

unfoldable pub area_id : ObjectRef → Option ℤ
area_id of = if is_id of.id then area_number of.kind of.id else None
