-- It is one of a level.
use Rattle.std.proofs.Common.{All, subst, sym}
use Rattle.area_locate.specs.Index.{IsPointLevel}
use Rattle.area_locate.proofs.index.PointIndex.longest.Goals as goal

pub returns-in-Some : goal.returns-in-Some
returns-in-Some c points index =
    let all = subst (All (IsPointLevel points)) (sym c.deref-level-items.ensures.value) index in
    c.in-Some.ensures points (subst (IsPointLevel points) (sym c.level-item.is) (all c.loop-level.level-index c.level-item.result c.loop-level-test.true))
