-- Roles, as far as they concern rings. No public contract cites them.
use Rattle.std.specs.Prelude.{Bool, ◌||◌, if◌then◌else◌, List, bytes_eq, codes, ℕ, ℤ, Option, None, Some}
use Rattle.std.specs.List.{list_any}
use Rattle.std.specs.Ordering.{is_eq}
use Rattle.osm_lattice.specs.declared.seg.Seg.{Seg}
use Rattle.osm_lattice.specs.Seg.{seg_cmp}
use Rattle.osm_elements.specs.declared.object.Member.{Member}
use Rattle.osm_objects.specs.declared.problem.Note.{Note}
use Rattle.osm_objects.specs.declared.problem.Note.TheVariants.{InnerInOuter, OuterInInner}
use Rattle.osm_area.specs.declared.roles.Role.{Role}
use Rattle.osm_area.specs.declared.roles.Role.TheVariants.{Inner, Outer, Other}

unfoldable pub role_named : List ℕ → Role
role_named role = if bytes_eq role (codes "inner") then Inner else if bytes_eq role (codes "outer") then Outer else Other

abbrev pub names_a_ring : Member → Bool
names_a_ring member = bytes_eq member.role (codes "inner") || bytes_eq member.role (codes "outer")

abbrev pub note_on : Role → ℤ → (in_outer in_inner : Bool) → Option Note
note_on Inner way in_outer in_inner = if in_outer then Some (InnerInOuter way) else None
note_on Outer way in_outer in_inner = if in_inner then Some (OuterInInner way) else None
note_on Other way in_outer in_inner = None

-- the segment is one of these
abbrev pub has_segment : List Seg → Seg → Bool
has_segment segs s = list_any (λ t. is_eq (seg_cmp t s)) segs
