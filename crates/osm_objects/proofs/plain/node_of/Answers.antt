use Rattle.std.proofs.Common.{◌∙◌, ap, sym, option_map}
use Rattle.osm_objects.specs.Plain.{node_from}
use Rattle.osm_objects.proofs.LookupLemmas.{no_node_of, node_there}
use Rattle.osm_objects.proofs.plain.node_of.Goals as goal

pub returns-then-ne : goal.returns-then-ne
returns-then-ne c = sym (no_node_of c.args.of c.args.nodes.now (sym c.ne.ensures ∙ c.if-ne.true))

pub returns : goal.returns
returns c = ap (option_map node_from) c.by_id.ensures ∙ node_there c.args.of c.args.nodes.now (sym c.ne.ensures ∙ c.if-ne.false)
