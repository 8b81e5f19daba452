-- One more id.
use Rattle.std.proofs.Common.{FitsSigned, w64, ℤ, pos, get_or, ◌∙◌, rules}
use Rattle.std.proofs.lemmas.Int.{to_z-of_z}
use Rattle.coast_join.proofs.Sorting.{placed_more}
use Rattle.coast_join.proofs.by_id.ids_with_places.Goals as goal

pub loop-place-preserved : goal.loop-place-preserved
loop-place-preserved c =
    let id : ℤ = get_or c.args.ids.now c.loop-place.place (pos 0) in
    let fits : FitsSigned w64 (get_or c.args.ids.now c.loop-place.place (pos 0)) = search rules in
    let same = to_z-of_z w64 id fits in
    c.in_ok-push.ensures.items ∙ placed_more c.args.ids.now c.loop-place.place _ c.loop-place.placed.items same c.loop-place.invariant
