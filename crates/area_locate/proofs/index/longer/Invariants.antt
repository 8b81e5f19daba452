-- Stretches of the parts so far.
use Rattle.std.proofs.Common.{All, List, length, ◌-◌}
use Rattle.osm_lattice.specs.declared.loc.Loc.{Loc}
use Rattle.area_locate.specs.Index.{IsStretch}
use Rattle.area_locate.proofs.index.longer.Given as goal

abbrev pub invariant-loop-from : goal.invariant-loop-from
invariant-loop-from l = (points : List Loc) → All (IsStretch points) l.stretches → All (IsStretch points) l.longer.items

abbrev pub decreases-loop-from : goal.decreases-loop-from
decreases-loop-from l = length l.stretches - l.from
