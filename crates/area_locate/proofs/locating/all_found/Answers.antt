-- Each point stands among the points in order.
use Rattle.std.proofs.Common.{sym}
use Rattle.std.proofs.lemmas.List.Sorted.{Contains-permutation}
use Rattle.area_locate.proofs.locating.all_found.Goals as goal

pub hits_of_point-requires-clause-there : goal.hits_of_point-requires-clause-there
hits_of_point-requires-clause-there c = Contains-permutation c.args.points.now c.args.sorted.now c.at-item.result c.requires.moved (c.loop-at.at-index, c.loop-at-test.true, sym c.at-item.is)
