-- The lesser west and the greater east are those of both ends.
use Rattle.std.proofs.Common.{rules, subst, w32, ◌≤ℤ◌}
use Rattle.std.proofs.lemmas.Int.{to_z-of_z}
use Rattle.osm_geom.specs.Point.{x_of}
use Rattle.osm_geom.proofs.GeometryKit.{at_least_less, at_most_more}
use Rattle.osm_nest.proofs.sweep.reach.reach_of.Goals as goal

pub returns : goal.returns
returns c =
    let from = x_of c.args.edge.now.from in let to = x_of c.args.edge.now.to in
    let west = c.lesser.result in let east = c.greater.result in
    let first : west ≤ℤ c.west_of.result = subst (λ z. west ≤ℤ z) (to_z-of_z w32 c.west_of.result (search rules)) c.lesser.ensures.first in
    let second : west ≤ℤ c.west_of-2.result = subst (λ z. west ≤ℤ z) (to_z-of_z w32 c.west_of-2.result (search rules)) c.lesser.ensures.second in
    let third : c.east_of.result ≤ℤ east = subst (λ z. z ≤ℤ east) (to_z-of_z w32 c.east_of.result (search rules)) c.greater.ensures.first in
    let last : c.east_of-2.result ≤ℤ east = subst (λ z. z ≤ℤ east) (to_z-of_z w32 c.east_of-2.result (search rules)) c.greater.ensures.second in
    rw (to_z-of_z w32 west (search rules), to_z-of_z w32 east (search rules)) (
      (at_least_less west c.west_of.result from first c.west_of.ensures, at_least_less west c.west_of-2.result to second c.west_of-2.ensures),
      (at_most_more c.east_of.result east from third c.east_of.ensures, at_most_more c.east_of-2.result east to last c.east_of-2.ensures),
    )
