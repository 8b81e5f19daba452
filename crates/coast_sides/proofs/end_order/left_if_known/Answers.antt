-- The order is known.
use Rattle.std.proofs.Common.{Option, subst}
use Rattle.std.specs.Prelude.{IfSome}
use Rattle.std.proofs.lemmas.Option.{IfSome_then}
use Rattle.std.proofs.lemmas.Result.{IfOk-weaker}
use Rattle.coast_sides.specs.KeptSegments.{AreByEndsAmong}
use Rattle.coast_sides.specs.declared.kept_segments.EndOrder.{EndOrder}
use Rattle.coast_sides.proofs.end_order.left_if_known.Goals as goal

pub returns-in-Some : goal.returns-in-Some
returns-in-Some c =
    IfOk-weaker c.left_among.result _ _
    (λ found told. IfSome_then found told (λ ends by_ends segs are repeats among. by_ends segs are repeats (subst (λ (order : Option EndOrder). IfSome order (AreByEndsAmong segs)) c.in-Some.is among)))
    c.left_among.ensures
