use Rattle.std.proofs.Common.{Contains, subst, sym}
use Rattle.std.proofs.lemmas.Result.{IfOk-weaker}
use Rattle.osm_segments.proofs.ranges.rows.part_by_run.Goals as goal

pub returns : goal.returns
returns c =
    IfOk-weaker c.part_each.result _ _
    (λ p parted s k. parted s (subst (λ xs. Contains xs s) (sym c.deref-2.ensures.value) k))
    c.part_each.ensures
