-- All others are found.
use Rattle.std.proofs.Common.{ap, arith}
use Rattle.std.proofs.lemmas.List.{take_all}
use Rattle.lists.specs.Rising.{count_of}
use Rattle.osm_lattice.specs.Seg.{seg_cmp}
use Rattle.coast_sides.proofs.taking_away.segments_kept.Goals as goal

pub returns-then-take_away-others : goal.returns-then-take_away-others
returns-then-take_away-others c s =
    let others = c.args.others.now in let found = c.take_away.result in
    let counts = c.take_away.ensures.counts s in
    let told = ap (count_of seg_cmp s) c.from_vec.ensures in
    let all = c.requires s in
    let whole = ap (count_of seg_cmp s) (take_all found others (let h = c.if-take_away-others.true in omega arith)) in
    omega arith
