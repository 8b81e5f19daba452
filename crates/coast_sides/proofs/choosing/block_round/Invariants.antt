use Rattle.std.proofs.Common.{List, ◌++◌, All, Contains, take}
use Rattle.std.specs.BTreeSet.{contains}
use Rattle.osm_lattice.specs.declared.seg.Seg.{Seg}
use Rattle.osm_lattice.specs.Seg.{seg_cmp}
use Rattle.coast_sides.specs.ChoiceSteps.{AreBlocked, knows}
use Rattle.coast_sides.proofs.choosing.block_round.Given as goal

abbrev pub invariant-loop-seg : goal.invariant-loop-seg
invariant-loop-seg l =
    (segs held : List Seg) → All (Contains segs) l.round → AreBlocked segs held (knows l.initial.foes) (contains seg_cmp l.initial.blocked)
    → AreBlocked segs (held ++ take l.seg-index l.round) (knows l.foes) (contains seg_cmp l.blocked)
