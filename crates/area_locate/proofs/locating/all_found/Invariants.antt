-- The points so far have their hits.
use Rattle.std.proofs.Common.{List, map, take, ◌≡◌}
use Rattle.osm_lattice.specs.declared.loc.Loc.{Loc}
use Rattle.area_locate.specs.declared.found.Hit.{Hit}
use Rattle.area_locate.specs.Areas.{found_as}
use Rattle.area_locate.proofs.locating.all_found.Given as goal

abbrev pub invariant-loop-at : goal.invariant-loop-at
invariant-loop-at l = (f : Loc → List Hit) → l.hits ≡ map f l.sorted → l.found ≡ map (found_as f) (take l.at-index l.points)
