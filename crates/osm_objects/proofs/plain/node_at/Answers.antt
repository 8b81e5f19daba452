use Rattle.std.proofs.Common.{◌≡◌, ap, sym, rules, to_z, w64}
use Rattle.std.specs.Prelude.{FitsSigned}
use Rattle.std.proofs.lemmas.Int.{to_z-of_z}
use Rattle.osm_objects.proofs.RisingLemmas.{found_at}
use Rattle.osm_objects.proofs.plain.node_at.Goals as goal

pub returns-in-Some : goal.returns-in-Some
returns-in-Some c =
    let fits : FitsSigned w64 c.in-Some.node.now.id = search rules in
    let also : FitsSigned w64 c.args.of.id = search rules in
    let same : c.in-Some.node.now.id ≡ c.args.of.id = rw to_z-of_z at (rw to_z-of_z at (ap (to_z w64) c.if-node-of.true)) in
    found_at c.args.of.id c.args.nodes.now c.args.place c.in-Some.node.now c.requires c.in-Some.ensures.lookup.3.0 c.in-Some.ensures.lookup.3.1 (sym same)
