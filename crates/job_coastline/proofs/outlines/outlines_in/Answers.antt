use Rattle.std.proofs.Common.{refl}
use Rattle.osm_words.specs.Answers.{coastline_seen}
use Rattle.job_coastline.proofs.CoastJoined.{outlines_made}
use Rattle.job_coastline.proofs.outlines.outlines_in.Goals as goal

pub returns : goal.returns
returns c = λ input is.
    outlines_made (coastline_seen c.args.settings.now) input c.args.shore is (record { land = c.in_ok-land.land; water = c.in_ok-water.water; lines = c.args.shore.lines })
    c.has_land.result c.has_water.result c.has_land.ensures c.has_water.ensures c.in_ok-land.ensures c.in_ok-water.ensures refl
