-- What is taken out doesn't span the height.
use Rattle.std.proofs.Common.{ap, filter, rules, subst, sym, ◌∙◌}
use Rattle.lists.specs.Member.{In}
use Rattle.lists.proofs.ListsKit.{in-filter}
use Rattle.osm_nest.specs.SweptEdges.{is_within}
use Rattle.osm_nest.proofs.FilteredLists.{filter-narrower, filter-remove, in-remove}
use Rattle.osm_nest.proofs.sweep.status.take_out.Goals as goal

pub returns-then-is_past-clause-within : goal.returns-then-is_past-clause-within
returns-then-is_past-clause-within c =
    let w = is_within c.args.at.now in let old = c.args.status.now in let place = c.place_of-place.result in let d = c.remove.result in
    ap (filter w) c.remove.ensures.removed
    ∙ filter-remove w old place d (c.is_past.ensures.inside c.if-is_past.true) (c.is_past.ensures.past c.if-is_past.true d)

pub returns-then-is_past-clause-members : goal.returns-then-is_past-clause-members
returns-then-is_past-clause-members c e i = in-remove c.args.status.now c.place_of-place.result e (subst (In e) c.remove.ensures.removed i)

pub returns-clause-within : goal.returns-clause-within
returns-clause-within c =
    let w = is_within c.args.at.now in
    ap (filter w) (c.retain.ensures w (λ x told says. search rules)) ∙ sym (filter-narrower w w c.args.status.now (λ x i h. h))

pub returns-clause-members : goal.returns-clause-members
returns-clause-members c e i =
    let w = is_within c.args.at.now in
    in-filter w c.args.status.now e (subst (In e) (c.retain.ensures w (λ x told says. search rules)) i)
