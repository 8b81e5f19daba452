use Rattle.std.proofs.Common.{arith}
use Rattle.osm_segments.proofs.OutlineFaults.{even_found, none_found}
use Rattle.osm_segments.proofs.outline.has_odd_node.Goals as goal

pub returns : goal.returns
returns c =
    let nodes = c.in_ok-nodes.nodes in
    even_found c.args.segs.now nodes.items _ c.in_ok-nodes.ensures (none_found nodes.items nodes.len c.is_empty.result (let whole = nodes.ok in omega arith) c.is_empty.ensures)
