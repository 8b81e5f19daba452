-- One more node.
use Rattle.std.proofs.Common.{◌++◌, ◌∷◌, [], ap, ◌∙◌}
use Rattle.osm_elements.specs.declared.object.Object.{Object}
use Rattle.osm_sample.specs.Objects.{upper_node}
use Rattle.osm_sample.proofs.OneMore.{made_more}
use Rattle.osm_sample.proofs.coast.add_upper_nodes.Goals as goal

pub loop-s-preserved : goal.loop-s-preserved
loop-s-preserved c =
    let now = c.loop-s.objects.items in
    made_more (upper_node c.args.n) c.loop-s.s c.args.objects.now.items now c.push.new.self.items c.loop-s.invariant
    (c.in_ok-push.ensures.items ∙ ap (λ (object : Object). now ++ object ∷ []) c.upper_node.ensures)
