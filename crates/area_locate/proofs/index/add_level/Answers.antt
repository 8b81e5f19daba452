-- One more level.
use Rattle.std.proofs.Common.{All, arith, length, subst, sym, ◌-◌, ◌<◌}
use Rattle.std.proofs.lemmas.Bool.{ltb-true}
use Rattle.std.proofs.lemmas.List.Elements.{All-push}
use Rattle.area_locate.specs.Index.{IsPointLevel, IsStretch}
use Rattle.area_locate.proofs.index.add_level.Goals as goal

pub returns : goal.returns
returns c points are =
    let levels = c.deref.result.now in let level = c.in-Some.level.now in
    let some : 0 < length levels = ltb-true 0 (length levels) (sym c.in-Some.ensures.item.0) in
    let all = subst (All (IsPointLevel points)) (sym c.deref.ensures.value) are in
    let last = subst (IsPointLevel points) (sym c.in-Some.ensures.item.1) (all (length levels - 1) level (omega arith)) in
    let longer = c.in_ok-stretches-in-Some.ensures points (subst (All (IsStretch points)) (sym c.deref-in-Some.ensures.value) last) in
    subst (All (IsPointLevel points)) (sym c.in_ok-push.ensures.items) (All-push (IsPointLevel points) c.args.levels.now.items _ are longer)
