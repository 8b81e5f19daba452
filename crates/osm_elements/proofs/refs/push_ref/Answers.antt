use Rattle.std.proofs.Common.{◌≡◌, rules}
use Rattle.osm_elements.specs.Compact.{difference}
use Rattle.osm_elements.specs.Held.{compared_id}
use Rattle.osm_elements.proofs.HeldLemmas.{ref_pushed}
use Rattle.osm_elements.proofs.refs.push_ref.Goals as goal

pub returns-clause-ok : goal.returns-clause-ok
returns-clause-ok c =
    let by : c.difference-by.result ≡ difference (compared_id c.args.first) c.args.reference.node = search rules in
    ref_pushed c.args.bytes.now c.push_marked.new.bytes c.push_place.new.bytes c.args.first c.args.reference c.mark_of.result c.difference-by.result c.place_from.result c.mark_of.ensures.mark by c.place_from.ensures c.in_ok-push_marked.ensures.ok c.in_ok-push_place.ensures.ok
