use Rattle.std.proofs.Common.{rules, w64}
use Rattle.std.specs.Prelude.{FitsSigned}
use Rattle.std.proofs.lemmas.Int.{to_z-of_z}
use Rattle.osm_objects.proofs.RisingLemmas.{none_above_last}
use Rattle.osm_objects.proofs.plain.lies_above.Goals as goal

pub returns-in-Some : goal.returns-in-Some
returns-in-Some c = λ is.
    let fits : FitsSigned w64 c.in-Some.last.now.id = search rules in
    let also : FitsSigned w64 c.args.of.id = search rules in
    none_above_last c.args.of.id c.args.nodes.now c.in-Some.last.now c.requires c.in-Some.ensures.value (rw to_z-of_z at (rw to_z-of_z at is))
