use Rattle.osm_input.proofs.Answered.{told, completes}
use Rattle.osm_input.proofs.reading.read_all.Goals as goal

pub returns-clause-told : goal.returns-clause-told
returns-clause-told g c =
    told c.args.limit c.args.longest (g.H.Host.seen c.args.host.now) (g.H.Host.seen c.read_pieces.new.host) c.read_pieces.result c.read_pieces.ensures.reads

pub returns-clause-complete : goal.returns-clause-complete
returns-clause-complete g c =
    completes c.args.limit c.args.longest (g.H.Host.seen c.args.host.now) (g.H.Host.seen c.read_pieces.new.host) c.read_pieces.result c.read_pieces.ensures.reads c.read_pieces.ensures.at_once
