-- The search for the place leaves the status as it is.
use Rattle.std.proofs.Common.{length, slice_index_or, subst, sym, ◌<◌, ◌≡◌}
use Rattle.osm_segments.specs.Sweep.{IsFollowed}
use Rattle.osm_segments.proofs.Sweeps.{followed}
use Rattle.osm_segments.proofs.sweep.steps.go_on.Goals as goal

pub returns-else-not-fits_between-clause-followed : goal.returns-else-not-fits_between-clause-followed
returns-else-not-fits_between-clause-followed c _ =
    let s = c.args.s in let t = c.args.t in let place = c.in-Some.place in let same = c.place_in_status.ensures.kept in let status = c.place_in_status.new.status in
    subst (λ xs. IsFollowed s t xs c.set.new.self) same
    (followed s t status c.set.new.self place (subst (λ xs. place < length xs) (sym same) c.in-Some.ensures.inside) (subst (λ xs. slice_index_or xs place s ≡ s) (sym same) c.in-Some.ensures.at)
    (c.closes.ensures c.if-not-closes.false) (c.fits_between.ensures.before c.if-not-fits_between.false) (c.fits_between.ensures.after c.if-not-fits_between.false) c.set.ensures)
