use Rattle.std.proofs.Common.{◌∙◌, ◌++◌, ◌∷◌, [], List, ap, map, rules, w64, ℤ}
use Rattle.std.specs.Prelude.{FitsSigned}
use Rattle.std.proofs.lemmas.Int.{to_z-of_z}
use Rattle.std.proofs.lemmas.List.{take_all}
use Rattle.osm_objects.specs.declared.plain.PlainNode.{PlainNode}
use Rattle.osm_objects.proofs.ListedLemmas.{one_more}
use Rattle.osm_objects.proofs.plain.push_ids.Goals as goal

pub loop-node-preserved : goal.loop-node-preserved
loop-node-preserved c =
    let id = c.node-item.result.id in
    let fits : FitsSigned w64 id = search rules in
    c.in_ok-push.ensures.items ∙ ap (λ (z : ℤ). c.loop-node.ids.items ++ z ∷ []) (to_z-of_z w64 id fits)
    ∙ one_more (λ (n : PlainNode). n.id) c.args.ids.now.items c.loop-node.ids.items c.args.nodes.now c.loop-node.node-index c.node-item.result c.loop-node-test.true c.node-item.is c.loop-node.invariant

pub returns : goal.returns
returns c =
    c.loop-node.invariant
    ∙ ap (λ (nodes : List PlainNode). c.args.ids.now.items ++ map (λ (n : PlainNode). n.id) nodes) (take_all c.loop-node.node-index c.args.nodes.now c.loop-node-test.false)
