-- The ring of two locations.
use Rattle.std.proofs.Common.{◌≡◌, of_z, refl, rules, to_z, w64}
use Rattle.std.proofs.lemmas.Int.{to_z-of_z}
use Rattle.coast_sides.proofs.CutRings.{left_behind}
use Rattle.coast_sides.proofs.rounds.add_ring.Goals as goal

pub returns : goal.returns
returns c = λ ring named.
    let same : to_z w64 (of_z w64 c.args.name) ≡ c.args.name = to_z-of_z w64 c.args.name (search rules) in
    left_behind _ ring c.args.path c.args.left.now c.push.new.self c.in_ok-push.ensures.ok (cc) refl
