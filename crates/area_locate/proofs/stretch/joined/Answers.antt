-- One more part, if it begins where the others end.
use Rattle.std.proofs.Common.{subst, sym, ℕ}
use Rattle.area_locate.specs.Index.{AreEntries, IsStretch}
use Rattle.area_locate.proofs.EntryLists.{entries_joined}
use Rattle.area_locate.proofs.stretch.joined.Goals.{then-part-end+in_ok-extend_from_slice, else-part-end}
use Rattle.area_locate.proofs.stretch.joined.Goals as goal

pub loop-part-preserved : goal.loop-part-preserved
loop-part-preserved c points are =
    let part = c.part-item.result in let so_far = c.loop-part.invariant points are in
    let is = subst (IsStretch points) (sym c.part-item.is) (are c.loop-part.part-index part c.loop-part-test.true) in
    elim c.if-part-end.branch [
      | then-part-end+in_ok-extend_from_slice w ↦
          rw (w.end-is, w.entries-is) (entries_joined points c.map_or-first.result c.loop-part.entries.items w.deref.result.now w.extend_from_slice.new.self.items c.loop-part.end part.end w.in_ok-extend_from_slice.ensures.items so_far (subst (λ (n : ℕ). AreEntries points n part.end w.deref.result.now) w.if-part-end.true (subst (AreEntries points part.first part.end) (sym w.deref.ensures.value) is.whole)))
      | else-part-end w ↦ rw (w.end-is, w.entries-is) so_far
    ]
