-- One more node, named or not.
use Rattle.std.proofs.Common.{FitsSigned, w64, get_or, pos, rules, ◌∙◌, sym}
use Rattle.std.proofs.lemmas.Int.{to_z-of_z}
use Rattle.coast_filter.specs.ByIds.{node_text}
use Rattle.coast_filter.proofs.Naming.{any-turned, one_picked, none_picked}
use Rattle.coast_filter.proofs.filtering.put_named.Goals as goal
use Rattle.coast_filter.proofs.filtering.put_named.Goals.{then-is_among+in_ok-put_held_node, else-is_among}

pub loop-node-preserved : goal.loop-node-preserved
loop-node-preserved c =
    let nodes = c.args.nodes.now in
    let i = c.loop-node.node-index in
    let f = node_text c.args.store.now in
    let names = c.args.names.now in
    let fits : FitsSigned w64 (get_or nodes i (pos 0)) = search rules in
    let same = to_z-of_z w64 (get_or nodes i (pos 0)) fits in
    elim c.if-is_among.branch [
      | then-is_among+in_ok-put_held_node w ↦
          one_picked f names nodes i _ c.loop-node-test.true same c.args.text.now.items c.loop-node.text.items c.if-is_among.text.items (any-turned _ names ∙ sym c.is_among.ensures ∙ w.if-is_among.true) c.loop-node.invariant
          (search rules)
      | else-is_among w ↦
          none_picked f names nodes i _ c.loop-node-test.true same c.args.text.now.items c.if-is_among.text.items (any-turned _ names ∙ sym c.is_among.ensures ∙ w.if-is_among.false) (search rules)
    ]
