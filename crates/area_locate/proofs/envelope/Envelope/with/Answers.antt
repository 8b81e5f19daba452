-- The least of two numbers is at most each, the greatest at least.
use Rattle.std.proofs.Common.{rules, w32}
use Rattle.std.proofs.lemmas.Int.{to_z-of_z}
use Rattle.area_locate.proofs.Enclosing.{at_least, at_most, through}
use Rattle.area_locate.proofs.envelope.Envelope.with.Goals as goal

pub returns-clause-new : goal.returns-clause-new
returns-clause-new c = record {
  left = at_least (to_z-of_z w32 c.min.result (search rules)) (to_z-of_z w32 c.args.p.x (search rules)) c.min.ensures.other_bound;
  right = at_most (to_z-of_z w32 c.max.result (search rules)) (to_z-of_z w32 c.args.p.x (search rules)) c.max.ensures.other_bound;
  low = at_least (to_z-of_z w32 c.min-2.result (search rules)) (to_z-of_z w32 c.args.p.y (search rules)) c.min-2.ensures.other_bound;
  high = at_most (to_z-of_z w32 c.max-2.result (search rules)) (to_z-of_z w32 c.args.p.y (search rules)) c.max-2.ensures.other_bound;
}

pub returns-clause-old : goal.returns-clause-old
returns-clause-old c = λ q was. record {
  left = through (at_least (to_z-of_z w32 c.min.result (search rules)) (to_z-of_z w32 c.args.self.left (search rules)) c.min.ensures.self_bound) was.left;
  right = through was.right (at_most (to_z-of_z w32 c.max.result (search rules)) (to_z-of_z w32 c.args.self.right (search rules)) c.max.ensures.self_bound);
  low = through (at_least (to_z-of_z w32 c.min-2.result (search rules)) (to_z-of_z w32 c.args.self.low (search rules)) c.min-2.ensures.self_bound) was.low;
  high = through was.high (at_most (to_z-of_z w32 c.max-2.result (search rules)) (to_z-of_z w32 c.args.self.high (search rules)) c.max-2.ensures.self_bound);
}
