-- The sector lemma, as statements.
use Rattle.std.specs.Prelude.{◌+◌, ◌≡◌}
use lib.IntN.{pos, ◌-ℤ◌}
use Rattle.plane.specs.RayCrossing.{IsOff, down_crossing, ray_crossing, up_crossing}
use Rattle.plane.specs.Sector.{in_sector}
use Rattle.plane.specs.Vector.{IsNonZero, Vector}

-- Take a step off the origin.
-- Its signed crossing of the ray in the direction d, less that of the ray in the direction e, is how it enters the sector
-- from d to e.
abbrev pub SectorLemma : Type 0
SectorLemma =
    (d e a b : Vector) → IsNonZero d → IsNonZero e → IsOff a b →
    ray_crossing d a b -ℤ ray_crossing e a b ≡ pos (in_sector d e b) -ℤ pos (in_sector d e a)

-- the same in natural numbers, which can be added up over a list
abbrev pub CountedSectorLemma : Type 0
CountedSectorLemma =
    (d e a b : Vector) → IsNonZero d → IsNonZero e → IsOff a b →
    up_crossing d a b + down_crossing e a b + in_sector d e a ≡ up_crossing e a b + down_crossing d a b + in_sector d e b
