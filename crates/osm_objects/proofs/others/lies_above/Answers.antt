use Rattle.std.proofs.Common.{◌∙◌, sym}
use Rattle.osm_objects.proofs.OthersLemmas.{none_beyond_last, one_beyond_last}
use Rattle.osm_objects.proofs.others.lies_above.Goals as goal

pub returns-in-Some-clause-rises : goal.returns-in-Some-clause-rises
returns-in-Some-clause-rises c = λ is. one_beyond_last c.args.sorted.now c.args.of c.requires c.in-Some.last.now c.in-Some.ensures.value (sym c.is_below.ensures ∙ is)

pub returns-in-Some-clause-none : goal.returns-in-Some-clause-none
returns-in-Some-clause-none c = λ is. none_beyond_last c.args.sorted.now c.args.of c.requires c.in-Some.last.now c.in-Some.ensures.value (sym c.is_below.ensures ∙ is)
