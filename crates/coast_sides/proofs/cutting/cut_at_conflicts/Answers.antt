-- The segments that were found are those of the conflicts.
use Rattle.std.proofs.Common.{List, subst, ap, ◌∙◌}
use Rattle.std.specs.List.{list_any}
use Rattle.osm_lattice.specs.declared.seg.Seg.{Seg}
use Rattle.coast_sides.specs.Sorting.{AreConflicts, is_in_pair}
use Rattle.coast_sides.proofs.cutting.cut_at_conflicts.Goals as goal

pub cut_down-requires : goal.cut_down-requires
cut_down-requires c = record {
  pairs = c.in_ok-pairs.pairs.items;
  conflicts = subst (λ (ss : List Seg). AreConflicts ss c.in_ok-pairs.pairs.items) c.in_ok-segs.ensures c.in_ok-pairs.ensures;
  are = λ s. c.in_ok-crossed.ensures s ∙ ap (list_any (is_in_pair s)) c.deref.ensures.value;
}

pub returns-clause-pairs : goal.returns-clause-pairs
returns-clause-pairs c = subst (λ (ss : List Seg). AreConflicts ss c.in_ok-pairs.pairs.items) c.in_ok-segs.ensures c.in_ok-pairs.ensures
