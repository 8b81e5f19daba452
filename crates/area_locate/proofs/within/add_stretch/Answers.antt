-- All that lie in the rectangle are between its sides.
use Rattle.std.proofs.Common.{rules, w32}
use Rattle.std.proofs.lemmas.Int.{to_z-of_z}
use Rattle.std.proofs.lemmas.Result.{on_ok_weaker}
use Rattle.area_locate.specs.Index.{HasEntry, IsFromTo}
use Rattle.area_locate.proofs.FoundPlaces.{adds_fewer, entries_inside, stretch_entries}
use Rattle.area_locate.proofs.within.add_stretch.Goals as goal

pub add_entries-requires : goal.add_entries-requires
add_entries-requires c = entries_inside c.args.envelope.now c.args.points.now c.args.stretch.now c.requires c.between-entries.result.now c.between-entries.ensures.of_all

pub returns : goal.returns
returns c =
    let envelope = c.args.envelope.now in let points = c.args.points.now in let stretch = c.args.stretch.now in let entries = c.between-entries.result.now in
    on_ok_weaker c.add_entries.result (adds_fewer envelope points (HasEntry entries) (IsFromTo stretch.first stretch.end) c.args.found.now.items c.add_entries.new.found.items
    (stretch_entries envelope points stretch c.requires entries _ _ (to_z-of_z w32 envelope.left (search rules)) (to_z-of_z w32 envelope.right (search rules)) c.between-entries.ensures.whole)) c.add_entries.ensures
