use Rattle.std.proofs.lemmas.Result.{IfOk-weaker}
use Rattle.osm_words.specs.Answers.{coastline_seen}
use Rattle.job_coastline.proofs.CoastJoined.{coast_made}
use Rattle.job_coastline.proofs.coast.land_in.Goals as goal

pub returns : goal.returns
returns c =
    IfOk-weaker c.land_of.result _ _ (λ edges land.
    coast_made (coastline_seen c.args.settings.now) c.args.input c.in_ok-chains.chains.items c.in_ok-joined.joined c.in_ok-sorted.sorted edges
    c.args.lines.now.items c.chains_of.new.lines.items c.joined_of.new.lines.items c.sorted_of.new.lines.items c.land_of.new.lines.items
    c.in_ok-chains.ensures.chains c.in_ok-chains.ensures.told c.in_ok-joined.ensures c.in_ok-sorted.ensures.sorted c.in_ok-sorted.ensures.told land) c.land_of.ensures
