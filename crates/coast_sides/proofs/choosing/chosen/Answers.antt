-- The rings with one of the names are those that are kept.
use Rattle.std.specs.BTreeSet.{contains}
use Rattle.std.specs.Ordering.{int_cmp}
use Rattle.coast_sides.proofs.KeptRings.{named_chosen}
use Rattle.coast_sides.proofs.ListSteps.{IfOk-both}
use Rattle.coast_sides.proofs.choosing.chosen.Goals as goal

pub returns : goal.returns
returns c = IfOk-both c.parted_by_name.result _ _ _
    (λ parts named others. named_chosen c.args.rings.now parts.0 parts.1 (contains int_cmp c.in_ok-names.names) c.in_ok-names.ensures named others)
    c.parted_by_name.ensures.named c.parted_by_name.ensures.others
