-- All objects except the plain nodes, and how one is found by kind and id. Only private clauses cite this.
use Rattle.std.specs.Prelude.{◌≡◌, ◌<◌, ◌≤◌, ℕ, Bool, List, length, slice_index_or, Option, Some}
use Rattle.std.specs.declared.cmp.Ordering.{Ordering}
use Rattle.osm_elements.specs.declared.object.ObjectRef.{ObjectRef}
use Rattle.osm_elements.specs.declared.object.Object.{Object}
use Rattle.osm_elements.specs.contracts.object.ObjectRefOrd.TheImpl as ref_ord
use Rattle.osm_objects.specs.Object.{ref_of, is_at}
use Rattle.osm_objects.specs.declared.held.Placed.{Placed}
use Rattle.osm_objects.specs.Held.{object_from}

-- the object
abbrev pub object_held : Placed → Object
object_held placed = object_from placed.id placed.held

-- its kind and id
abbrev pub ref_held : Placed → ObjectRef
ref_held placed = ref_of (object_held placed)

-- it has this kind and id
abbrev pub is_held_at : ObjectRef → Placed → Bool
is_held_at of placed = is_at of (object_held placed)

-- the order of the objects of a sorted input: by kind, then by id
abbrev pub ref_cmp : ObjectRef → ObjectRef → Ordering
ref_cmp = ref_ord.ghosts.cmp

-- each object from a place on has its place in the map
abbrev pub TellPlaces : (ObjectRef → Option ℕ) → ℕ → List Placed → Type 0
TellPlaces told from list = (j : ℕ) (d : Placed) → from ≤ j → j < length list → told (ref_held (slice_index_or list j d)) ≡ Some j
