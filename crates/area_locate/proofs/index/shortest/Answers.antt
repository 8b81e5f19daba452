-- One more stretch.
use Rattle.std.proofs.Common.{All, subst, sym}
use Rattle.std.proofs.lemmas.List.Elements.{All-push}
use Rattle.area_locate.specs.Index.{IsStretch}
use Rattle.area_locate.proofs.index.shortest.Goals as goal

pub loop-first-preserved : goal.loop-first-preserved
loop-first-preserved c =
    let points = c.args.points.now in let so_far = c.loop-first.invariant in
    (subst (All (IsStretch points)) (sym c.in_ok-push.ensures.items) (All-push (IsStretch points) c.loop-first.stretches.items c.in_ok-stretch_at.field-0 so_far.0 c.in_ok-stretch_at.ensures), so_far.1, so_far.2)
