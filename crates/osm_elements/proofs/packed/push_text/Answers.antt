use Rattle.osm_elements.proofs.PackedLemmas.{usual_added, whole_added}
use Rattle.osm_elements.proofs.packed.push_text.Goals as goal

pub returns-in-Some-clause-ok : goal.returns-in-Some-clause-ok
returns-in-Some-clause-ok c = usual_added c.args.texts.now c.args.text.now c.push.new.self c.in-Some.code c.push.result c.in-Some.ensures.code.0 c.in-Some.ensures.code.1 c.in-Some.ensures.text c.push.ensures.ok

pub returns-clause-ok : goal.returns-clause-ok
returns-clause-ok c = whole_added c.args.texts.now c.args.text.now c.push_whole.new.texts c.push_whole.result c.push_whole.ensures.ok
