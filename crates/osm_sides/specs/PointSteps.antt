-- Which segments have a location on them: those that pass through it at its height, and those whose level part has it.
-- No public contract cites this.
use Rattle.std.specs.Prelude.{Bool, IsPermutation, List, cond, map, nat_le, pos, unsigned_abs, ℕ, ℤ, ◌&&◌, ◌*◌, ◌+◌, ◌+ℤ◌, ◌≡◌}
use Rattle.std.specs.List.Sorted.{IsSorted}
use Rattle.std.specs.Ordering.{nat_cmp}
use Rattle.plane.specs.Sign.{is_null}
use Rattle.osm_lattice.specs.declared.loc.Loc.{Loc}
use Rattle.osm_lattice.specs.declared.seg.Seg.{Seg}
use Rattle.osm_lattice.specs.Line.{side_of_line}
use Rattle.osm_sides.specs.SideTests.{level, span}
use Rattle.osm_sides.specs.declared.levels.Levels.{Levels}

-- ---- segments that have a location on them
-- t spans the height of p and has it on its line
abbrev pub passes_through : Loc → Seg → Bool
passes_through p t = span p t && is_null (side_of_line p t)

-- a number that grows in the order of locations
abbrev pub place_number : Loc → ℕ
place_number p = unsigned_abs (p.y +ℤ pos 900_000_000) * 4_294_967_296 + unsigned_abs (p.x +ℤ pos 1_800_000_000)

-- a horizontal segment is level as a whole, and any other only at its upper end
abbrev pub level_from : Seg → Loc
level_from s = cond (level s) s.a s.b

-- p is on the level part of s
abbrev pub is_level_on : Loc → Seg → Bool
is_level_on p s = nat_le (place_number (level_from s)) (place_number p) && nat_le (place_number p) (place_number s.b)

-- where the level parts of segments begin, and where they end, each in order
pub record AreLevels (segs : List Seg) (levels : Levels) : Type 0 where
  pub begin : IsPermutation (map (λ s. place_number (level_from s)) segs) levels.begins.items
  pub begins_rise : IsSorted nat_cmp levels.begins.items
  pub end : IsPermutation (map (λ (s : Seg). place_number s.b) segs) levels.ends.items
  pub ends_rise : IsSorted nat_cmp levels.ends.items
