-- The floor of a latitude is in range.
use Rattle.std.proofs.Common.{pos, rules, subst, sym, w32, ◌-ℤ◌, ◌≤ℤ◌}
use Rattle.std.proofs.lemmas.Int.{to_z-of_z}
use Rattle.osm_geom.specs.declared.point.Point.TheVariants.{OnVertical}
use Rattle.osm_geom.specs.Point.{IsInWorld}
use Rattle.osm_rings.proofs.RankOrder.{row-within}
use Rattle.osm_rings.proofs.ranks.rank.Goals as goal

pub rank_at-requires-in-OnVertical-clause-row : goal.rank_at-requires-in-OnVertical-clause-row
rank_at-requires-in-OnVertical-clause-row c =
    let y = c.in-OnVertical.y in
    let world : IsInWorld (OnVertical c.in-OnVertical.c y) = subst IsInWorld c.in-OnVertical.is c.requires in
    subst (λ z. ((pos 0 -ℤ pos 1_000_000_000) ≤ℤ z) × (z ≤ℤ pos 1_000_000_000)) (sym (to_z-of_z w32 y.floor (search rules))) (row-within y world.1)
