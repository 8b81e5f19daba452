use Rattle.osm_words.specs.Answers.{coastline_seen}
use Rattle.job_coastline.proofs.CoastJoined.{shore_made}
use Rattle.job_coastline.proofs.coast.shore_of.Goals as goal

pub returns : goal.returns
returns c =
    shore_made (coastline_seen c.args.settings.now) c.args.input (record { land = c.in_ok-land.land; lines = c.land_in.new.lines }) c.new-lines.result.items c.new-lines.ensures.items c.in_ok-land.ensures
