-- What is left has names that rise and no conflicts of its own, and of it the kept rings are chosen.
use Rattle.std.proofs.Common.{List, subst, sym}
use Rattle.coast_rings.specs.declared.ring.CoastRing.{CoastRing}
use Rattle.coast_sides.specs.Choice.{AreChosen}
use Rattle.coast_sides.specs.CutSorting.{NamesOfRingsRise}
use Rattle.coast_sides.specs.Segments.{all_segments}
use Rattle.coast_sides.specs.Sorting.{AreConflicts}
use Rattle.coast_sides.proofs.CutDowns.{comes_from, names_still_rise}
use Rattle.coast_sides.proofs.KeptRings.{chosen_clear}
use Rattle.coast_sides.proofs.cutting.cut_and_sort_out.Goals as goal

pub chosen-requires : goal.chosen-requires
chosen-requires c =
    let down = c.in_ok-pairs.down in
    subst NamesOfRingsRise (sym c.as_slice.ensures) (names_still_rise c.args.rings.now down.left down.cuts c.in_ok-pairs.ensures.down c.requires)

pub returns-clause-sorted : goal.returns-clause-sorted
returns-clause-sorted c = record {
  left = c.in_ok-pairs.down.left;
  cut = c.in_ok-pairs.ensures.down;
  chosen = subst (λ (rs : List CoastRing). AreChosen rs c.in_ok-kept.kept c.in_ok-kept.left_out) c.as_slice.ensures c.in_ok-kept.ensures;
  pairs = subst (AreConflicts (all_segments c.args.rings.now)) (sym c.from_vec.ensures) c.in_ok-pairs.ensures.pairs;
}

pub returns-clause-clear : goal.returns-clause-clear
returns-clause-clear c =
    let down = c.in_ok-pairs.down in
    let kept = c.in_ok-kept.kept in
    let left_out = c.in_ok-kept.left_out in
    let chosen = subst (λ (rs : List CoastRing). AreChosen rs kept left_out) c.as_slice.ensures c.in_ok-kept.ensures in
    chosen_clear c.conflicts_are_symmetric.ensures down.left kept left_out (names_still_rise c.args.rings.now down.left down.cuts c.in_ok-pairs.ensures.down c.requires)
    (λ r m. (comes_from c.args.rings.now down.left down.cuts c.in_ok-pairs.ensures.down r m).clear) chosen
