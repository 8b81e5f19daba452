use Rattle.std.proofs.Common.{◌≡◌, ◌||◌, take}
use Rattle.std.specs.BTreeSet.{contains}
use Rattle.std.specs.List.{list_any}
use Rattle.osm_lattice.specs.declared.seg.Seg.{Seg}
use Rattle.osm_lattice.specs.Seg.{seg_cmp}
use Rattle.coast_sides.specs.ChoiceSteps.{is_same_segment}
use Rattle.coast_sides.proofs.foes.add_all.Given as goal

abbrev pub invariant-loop-seg : goal.invariant-loop-seg
invariant-loop-seg l = (s : Seg) → contains seg_cmp l.segs s ≡ (contains seg_cmp l.initial.segs s || list_any (λ t. is_same_segment t s) (take l.seg-index l.more))
