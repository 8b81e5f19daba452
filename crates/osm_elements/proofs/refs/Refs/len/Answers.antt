use Rattle.std.proofs.Common.{◌≡◌, ◌+◌, ◌<◌, ◌≤◌, ◌^◌, None, ℕ, List, length, ap, subst, arith, rules}
use Rattle.std.proofs.Math.Facts.{Fits-of_lt}
use Rattle.osm_elements.specs.declared.object.Ref.{Ref}
use Rattle.osm_elements.specs.Held.{refs_behind}
use Rattle.osm_elements.proofs.HeldLemmas.{few, fewer_bytes, one_fewer}
use Rattle.osm_elements.proofs.refs.Refs.len.Goals as goal

pub overflow_add-len : goal.overflow_add-len
overflow_add-len c =
    let bytes = c.self.inside.bytes in
    let small : length c.as_slice-rest.result.now < 2 ^ 64 = search rules in
    let same : length c.as_slice-rest.result.now ≡ length bytes = ap (λ (b : List ℕ). length b) c.as_slice-rest.ensures in
    let most : length c.args.self.now ≤ length bytes = subst (λ (rs : List Ref). length rs ≤ length bytes) c.self.view_is (few None bytes) in
    let whole : c.loop-rest.len + length (refs_behind None c.loop-rest.rest.now) ≡ length c.args.self.now = c.loop-rest.invariant in
    Fits-of_lt (omega arith)

pub loop-rest-smaller : goal.loop-rest-smaller
loop-rest-smaller c =
    let some : 0 < length c.loop-rest.rest.now = search rules in
    rw c.after_ref-rest.ensures (fewer_bytes c.loop-rest.rest.now some)

pub loop-rest-preserved : goal.loop-rest-preserved
loop-rest-preserved c =
    let some : 0 < length c.loop-rest.rest.now = search rules in
    let whole : c.loop-rest.len + length (refs_behind None c.loop-rest.rest.now) ≡ length c.args.self.now = c.loop-rest.invariant in
    let fewer = one_fewer c.loop-rest.rest.now some in
    rw c.after_ref-rest.ensures (omega arith)
