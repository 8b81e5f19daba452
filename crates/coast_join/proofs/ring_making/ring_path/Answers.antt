-- The path is closed without equal neighbours.
use Rattle.std.proofs.Common.{◌≡◌, ◌++◌, List, ap, sym, subst, ◌∙◌}
use Rattle.osm_lattice.specs.declared.loc.Loc.{Loc}
use Rattle.coast_join.specs.Joined.{chains_at, corners, locations_along}
use Rattle.coast_rings.specs.Line.{IsLine}
use Rattle.coast_rings.specs.Round.{IsRound, once}
use Rattle.coast_join.proofs.Following.{line_of_chains}
use Rattle.coast_join.proofs.Parts.{parts_round}
use Rattle.coast_rings.proofs.RingsKit.{round_from}
use Rattle.coast_join.proofs.ring_making.ring_path.Goals as goal

pub returns-then-not-any_antarctic-clause-round : goal.returns-then-not-any_antarctic-clause-round
returns-then-not-any_antarctic-clause-round c = subst IsRound (sym (c.from_vec.ensures ∙ c.in_ok-locs.ensures)) (parts_round c.args.chains.now c.args.places.now c.requires)

pub returns-clause-round : goal.returns-clause-round
returns-clause-round c =
    let line : IsLine (once (locations_along (chains_at c.args.chains.now c.args.places.now) ++ corners)) = line_of_chains c.orders_are_exact.ensures.locations c.args.chains.now c.args.places.now corners c.requires.some c.requires.inside in
    let is : c.add_corners.new.locs.items ≡ locations_along (chains_at c.args.chains.now c.args.places.now) ++ corners = c.in_ok-add_corners.ensures ∙ ap (λ (xs : List Loc). xs ++ corners) c.in_ok-locs.ensures in
    subst IsRound (sym c.in_ok-path.ensures.path) (round_from c.orders_are_exact.ensures.locations (once c.add_corners.new.locs.items) (subst (λ (xs : List Loc). IsLine (once xs)) (sym is) line))
