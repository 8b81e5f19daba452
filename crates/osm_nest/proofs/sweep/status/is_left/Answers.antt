-- By the reaches of the edges.
use Rattle.std.proofs.Common.{sym}
use Rattle.osm_nest.proofs.Reaches.{left-by-reach, right-by-reach}
use Rattle.osm_nest.proofs.sweep.status.is_left.Goals as goal

pub returns-then-is_west_of : goal.returns-then-is_west_of
returns-then-is_west_of c =
    let f = c.args.f.now in let g = c.args.g.now in
    sym (left-by-reach f.edge.now g.edge.now c.args.at.now c.requires.first c.requires.second f.reach.west f.reach.east g.reach.west g.reach.east f.reaches g.reaches (c.is_west_of.ensures c.if-is_west_of.true))

pub returns-then-is_west_of-2 : goal.returns-then-is_west_of-2
returns-then-is_west_of-2 c =
    let f = c.args.f.now in let g = c.args.g.now in
    sym (right-by-reach g.edge.now f.edge.now c.args.at.now c.requires.second c.requires.first g.reach.west g.reach.east f.reach.west f.reach.east g.reaches f.reaches (c.is_west_of-2.ensures c.if-is_west_of-2.true))
