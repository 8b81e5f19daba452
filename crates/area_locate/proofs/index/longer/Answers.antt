-- One more stretch.
use Rattle.std.proofs.Common.{All, drop, subst, sym, ◌-◌}
use Rattle.std.proofs.lemmas.List.Elements.{All-drop, All-push, All-take}
use Rattle.area_locate.specs.Index.{IsStretch}
use Rattle.area_locate.proofs.index.longer.Goals as goal

pub loop-from-preserved : goal.loop-from-preserved
loop-from-preserved c points are =
    let all = c.args.stretches.now in let from = c.loop-from.from in let to = c.min-to.result in
    subst (All (IsStretch points)) (sym c.in_ok-push.ensures.items) (All-push (IsStretch points) c.loop-from.longer.items c.in_ok-joined.field-0 (c.loop-from.invariant points are) (c.in_ok-joined.ensures points (All-take (IsStretch points) (to - from) (drop from all) (All-drop (IsStretch points) from all are))))
