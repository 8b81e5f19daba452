-- What `dedup` leaves.
use Rattle.std.proofs.Common.{◌∙◌}
use Rattle.std.proofs.lemmas.List.Filters.{dedup_is}
use Rattle.coast_rings.specs.Round.{is_same_location}
use Rattle.coast_rings.proofs.Rounding.{dedup_alike, tests_alike}
use Rattle.coast_rings.proofs.round.once.Goals as goal

pub returns : goal.returns
returns c = dedup_is _ c.args.locs.items c.dedup.new.self.items c.dedup.ensures.filtered ∙ dedup_alike _ is_same_location (λ p q. tests_alike p q) c.args.locs.items
