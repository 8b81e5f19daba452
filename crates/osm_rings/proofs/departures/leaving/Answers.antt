-- The departures of the range.
use Rattle.osm_rings.proofs.Starts.{range-from}
use Rattle.osm_rings.proofs.departures.leaving.Goals as goal

pub returns : goal.returns
returns c =
    let found = c.range_at-range.ensures in
    range-from c.args.departures.now c.requires.round c.args.p c.range_at-range.result.0 c.range_at-range.result.1 found.ordered found.inside found.first found.end
