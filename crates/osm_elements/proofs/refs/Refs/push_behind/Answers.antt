use Rattle.std.proofs.Common.{◌≡◌, ◌++◌, rules, w64, FitsSigned}
use Rattle.std.specs.Prelude.{slice_get}
use Rattle.osm_elements.specs.Held.{ref_bytes}
use Rattle.osm_elements.proofs.HeldLemmas.{pushed_is, pushed_are}
use Rattle.osm_elements.proofs.refs.Refs.push_behind.Goals as goal

pub invariant_of-self-else-is_err : goal.invariant_of-self-else-is_err
invariant_of-self-else-is_err c =
    let fits : FitsSigned w64 c.args.reference.node = search rules in
    let pushed : c.push_ref.new.bytes ≡ c.self.inside.bytes ++ ref_bytes (slice_get c.args.self.now 0) c.args.reference = search rules in
    pushed_are c.self.inside.bytes c.push_ref.new.bytes c.args.self.now c.args.reference c.self.invariant c.self.view_is fits pushed

pub returns-clause-ok : goal.returns-clause-ok
returns-clause-ok c =
    let fits : FitsSigned w64 c.args.reference.node = search rules in
    let pushed : c.push_ref.new.bytes ≡ c.self.inside.bytes ++ ref_bytes (slice_get c.args.self.now 0) c.args.reference = search rules in
    pushed_is c.self.inside.bytes c.push_ref.new.bytes c.args.self.now c.args.reference c.self.invariant c.self.view_is fits pushed
