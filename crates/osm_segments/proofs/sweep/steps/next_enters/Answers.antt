use Rattle.std.proofs.Common.{arith, get_or, length, sym, ◌<◌, ◌∙◌}
use Rattle.osm_segments.proofs.Sweeps.{leaves-by}
use Rattle.osm_segments.proofs.sweep.steps.next_enters.Goals as goal
use Rattle.lists.proofs.ListsKit.{same_get}

pub returns-clause-leaves : goal.returns-clause-leaves
returns-clause-leaves c unmet =
    let segs = c.args.segs.now in let next = c.args.next in let s = get_or segs next c.index-segs-next.result in
    let inside : next < length segs = omega arith in
    leaves-by segs c.requires next c.args.end.b s (same_get segs next c.index-segs-next.result s inside) inside (sym c.is_before.ensures ∙ unmet)
