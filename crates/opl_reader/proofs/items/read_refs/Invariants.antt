use Rattle.std.proofs.Common.{◌≡◌}
use Rattle.std.specs.Prelude.{slice_get}
use Rattle.std.specs.Option.{option_copied}
use Rattle.opl_reader.specs.ItemReading.{ref_at}
use Rattle.opl_reader.specs.Steps.{left_len}
use Rattle.opl_reader.proofs.ItemLemmas.{ItemsTo}
use Rattle.opl_reader.proofs.items.read_refs.Given as goal

abbrev pub invariant-loop-left : goal.invariant-loop-left
invariant-loop-left l = ItemsTo ref_at l.refs l.at l.left l.place l.text × (l.first ≡ slice_get l.refs 0)

abbrev pub decreases-loop-left : goal.decreases-loop-left
decreases-loop-left l = left_len (option_copied l.left)
