-- The segment before those that are right of the location tells.
use Rattle.std.proofs.Common.{ap, arith, count_by, nat_lt, not, refl, sym, ◌∙◌, ◌≡◌}
use Rattle.std.proofs.lemmas.Bool.{lt-ltb}
use Rattle.osm_sides.specs.PointSteps.{passes_through}
use Rattle.osm_sides.proofs.PassedPoints.{none_passes, told_last, told_none}
use Rattle.osm_sides.proofs.places.is_passed.Goals as goal

pub returns-then-from-gt0 : goal.returns-then-from-gt0
returns-then-from-gt0 c =
    let r = c.requires in
    told_last c.args.p r.status.0 c.args.status.now r.status.1 c.args.from r.within r.before r.after c.get.result (λ d. c.get.ensures d) (lt-ltb 0 c.args.from c.if-from-gt0.true) c.has_on_right.result c.has_on_right.ensures

pub returns-else-from-gt0 : goal.returns-else-from-gt0
returns-else-from-gt0 c =
    let r = c.requires in
    told_none c.args.from (omega (arith, c.if-from-gt0.false)) ∙ sym (told_none _ (none_passes c.args.p r.status.0 c.args.status.now r.status.1 c.args.from r.within r.before r.after (λ d some. absurd (let none = c.if-from-gt0.false in omega (arith, none, some)))))
