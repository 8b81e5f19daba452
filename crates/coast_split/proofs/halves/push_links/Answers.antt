use Rattle.std.proofs.Common.{All, subst}
use Rattle.std.proofs.lemmas.List.Elements.{All-head, All-tail}
use Rattle.coast_split.specs.Walk.{IsEndOnLine}
use Rattle.coast_split.proofs.halves.push_links.Goals as goal

pub push_links_from-requires-clause-first_end : goal.push_links_from-requires-clause-first_end
push_links_from-requires-clause-first_end c =
    All-head (IsEndOnLine c.args.cut) c.in-Some.first.now c.in-Some.rest.now (subst (All (IsEndOnLine c.args.cut)) c.in-Some.ensures.cases.0 c.requires)

pub push_links_from-requires-clause-rest_ends : goal.push_links_from-requires-clause-rest_ends
push_links_from-requires-clause-rest_ends c =
    All-tail (IsEndOnLine c.args.cut) c.in-Some.first.now c.in-Some.rest.now (subst (All (IsEndOnLine c.args.cut)) c.in-Some.ensures.cases.0 c.requires)
