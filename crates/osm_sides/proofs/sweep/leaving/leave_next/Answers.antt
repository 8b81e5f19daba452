-- The search for the place leaves the status as it is.
use Rattle.std.proofs.Common.{false, length, slice_index_or, subst, sym, ◌+◌, ◌<◌, ◌∙◌, ◌≡◌}
use Rattle.plane_lists.specs.Statuses.Leaving.{Remains}
use Rattle.plane_lists.proofs.StatusKit.{all_are_taken_out, next_is_taken_out}
use Rattle.osm_sides.specs.Sweep.{ends_above}
use Rattle.osm_sides.proofs.sweep.leaving.leave_next.Goals as goal
use Rattle.lists.proofs.ListsKit.{same_get}

pub returns-in-Some : goal.returns-in-Some
returns-in-Some c old remains =
    let ends = c.args.ends.now in let next = c.args.next in let s = c.index-ends-next.result in let status = c.place_in_status.new.status in let place = c.in-Some.place in
    let stays = ends_above c.args.at.y in let same = sym c.place_in_status.ensures.kept in
    let inside : place < length status = subst (λ xs. place < length xs) same c.in-Some.ensures.inside in
    let ended = subst (λ t. stays t ≡ false) (sym c.index-ends-next.is) (c.requires.ended s) in
    subst (Remains stays ends (next + 1) old) (sym c.remove.ensures.removed)
    (next_is_taken_out stays ends next old status s (subst (Remains stays ends next old) same remains) c.requires.inside (λ d. same_get ends next d s c.requires.inside ∙ sym c.index-ends-next.is) ended place inside
    (λ d. same_get status place d s inside ∙ subst (λ xs. slice_index_or xs place s ≡ s) same c.in-Some.ensures.at))

pub returns-in-None : goal.returns-in-None
returns-in-None c old remains =
    let ends = c.args.ends.now in let next = c.args.next in let s = c.index-ends-next.result in let status = c.place_in_status.new.status in
    let stays = ends_above c.args.at.y in
    let ended = subst (λ t. stays t ≡ false) (sym c.index-ends-next.is) (c.requires.ended s) in
    subst (Remains stays ends (next + 1) old) (sym c.leave_all.ensures)
    (all_are_taken_out stays ends next old status s (subst (Remains stays ends next old) (sym c.place_in_status.ensures.kept) remains) c.requires.inside (λ d. same_get ends next d s c.requires.inside ∙ sym c.index-ends-next.is) ended)
