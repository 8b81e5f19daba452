use Rattle.std.proofs.Common.{arith, ap}
use Rattle.osm_lattice.specs.declared.loc.Loc.{Loc}
use Rattle.osm_lattice.specs.declared.seg.Seg.{Seg}
use Rattle.osm_lattice.specs.Loc.{vector_of}
use Rattle.osm_sides.proofs.Statuses.{whole_row}
use Rattle.osm_sides.proofs.SweptHeights.{row-level}
use Rattle.osm_sides.proofs.sweep.rows.enter_row.Goals as goal

pub enter_each-requires-clause-row : goal.enter_each-requires-clause-row
enter_each-requires-clause-row c =
    let row = c.end_of_row-to.ensures in
    row-level c.args.segs.now c.requires.outline.rising c.args.from c.end_of_row-to.result c.args.at.y c.requires.inside (λ d. ap (λ (p : Loc). p.y) (c.requires.first d)) row.begun row.within

pub returns : goal.returns
returns c =
    let segs = c.args.segs.now in let row = c.end_of_row-to.ensures in
    record {
      more = row.more;
      within = row.within;
      level = row-level segs c.requires.outline.rising c.args.from c.end_of_row-to.result c.args.at.y c.requires.inside (λ (d : Seg). ap (λ (p : Loc). p.y) (c.requires.first d)) row.begun row.within;
      swept = whole_row segs c.requires.outline.rising c.requires.outline.clear (vector_of c.args.at) c.end_of_row-to.result c.enter_each.new.status row.begun row.later c.in_ok-enter_each.ensures;
    }
