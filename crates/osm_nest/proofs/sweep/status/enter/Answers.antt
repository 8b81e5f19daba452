-- By the neighbours at the place.
use Rattle.std.proofs.Common.{inl, subst}
use Rattle.lists.specs.Member.{In}
use Rattle.osm_nest.proofs.FilteredLists.{in-insert}
use Rattle.osm_nest.proofs.StatusSteps.{put-kept}
use Rattle.osm_nest.proofs.sweep.status.enter.Goals as goal

pub returns-then-not-fits_at-clause-members : goal.returns-then-not-fits_at-clause-members
returns-then-not-fits_at-clause-members c e i = inl i

pub returns-clause-put : goal.returns-clause-put
returns-clause-put c fits =
    let at = c.args.at.now in let x = c.args.item.now in let old = c.args.status.now in let place = c.search-place.result in
    put-kept at x old c.insert.new.self place c.search-place.ensures c.requires
    (c.fits_at.ensures.before c.if-not-fits_at.false x) (c.fits_at.ensures.after c.if-not-fits_at.false x) c.in_ok-insert.ensures.inserted

pub returns-clause-members : goal.returns-clause-members
returns-clause-members c e i = in-insert c.args.status.now c.search-place.result c.args.item.now e (subst (In e) c.in_ok-insert.ensures.inserted i)
