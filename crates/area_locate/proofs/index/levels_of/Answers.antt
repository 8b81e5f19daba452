-- One level, and the same ones in another order.
use Rattle.std.proofs.Common.{All, arith, subst, sym}
use Rattle.std.proofs.lemmas.List.Elements.{All-nil, All-push}
use Rattle.std.proofs.lemmas.List.Sorted.{All-permutation}
use Rattle.area_locate.specs.Index.{IsPointLevel}
use Rattle.area_locate.proofs.index.levels_of.Goals as goal

pub loop-width-init : goal.loop-width-init
loop-width-init c =
    let right = IsPointLevel c.args.points.now in
    (subst (All right) (sym c.in_ok-push.ensures.items) (All-push right c.new-levels.result.items _ (subst (All right) (sym c.new-levels.ensures.items) (All-nil right)) c.in_ok-stretches.ensures), omega arith)

pub returns : goal.returns
returns c = All-permutation (IsPointLevel c.args.points.now) c.loop-width.levels.items c.reverse.new.self.items c.reverse.ensures.permutation c.loop-width.invariant.0
