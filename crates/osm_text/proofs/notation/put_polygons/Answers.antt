use Rattle.std.proofs.Common.{◌<◌, ◌≡◌, length, arith}
use Rattle.std.proofs.lemmas.Grind.{common_steps}
use Rattle.osm_text.specs.Paths.{paths_of}
use Rattle.osm_text.proofs.NotationLemmas.{none-put, some-put}
use Rattle.osm_text.proofs.notation.put_polygons.Goals as goal

pub returns-then-is_empty-clause-text : goal.returns-then-is_empty-clause-text
returns-then-is_empty-clause-text c =
    let none : length (paths_of c.args.polygons.now) ≡ 0 = grind (arith, common_steps, c.is_empty.ensures, c.if-is_empty.true) in
    none-put c.args.notation c.open.result c.close.result (paths_of c.args.polygons.now) _ _ _ none c.open.ensures c.close.ensures c.in_ok-push.ensures.items c.in_ok-push-2.ensures.items

pub returns-clause-text : goal.returns-clause-text
returns-clause-text c =
    let some : 0 < length (paths_of c.args.polygons.now) = grind (arith, common_steps, c.is_empty.ensures, c.if-is_empty.false) in
    some-put c.args.notation c.open-2.result c.close-2.result (paths_of c.args.polygons.now) _ _ _ some c.open-2.ensures c.close-2.ensures c.in_ok-put_each.ensures.text c.in_ok-push-3.ensures.items
