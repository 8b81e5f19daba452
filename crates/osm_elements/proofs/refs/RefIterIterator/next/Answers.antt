use Rattle.std.proofs.Common.{◌<◌, length, rules}
use Rattle.osm_elements.proofs.HeldLemmas.{next_told}
use Rattle.osm_elements.proofs.refs.RefIterIterator.next.Goals as goal

pub returns-clause-steps : goal.returns-clause-steps
returns-clause-steps c =
    let some : 0 < length c.self.inside.bytes.now = search rules in
    next_told c.self.inside.first c.self.inside.bytes.now c.first_ref.result.1.now c.args.self.now c.first_ref.result.0 c.unwrap_or.result c.self.view_is some c.first_ref.ensures.reference c.first_ref.ensures.behind c.unwrap_or.ensures

pub returns-clause-goes : goal.returns-clause-goes
returns-clause-goes c =
    let some : 0 < length c.self.inside.bytes.now = search rules in
    let e = next_told c.self.inside.first c.self.inside.bytes.now c.first_ref.result.1.now c.args.self.now c.first_ref.result.0 c.unwrap_or.result c.self.view_is some c.first_ref.ensures.reference c.first_ref.ensures.behind c.unwrap_or.ensures in
    search (rules, e)
