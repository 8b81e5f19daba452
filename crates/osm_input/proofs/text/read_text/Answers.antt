use Rattle.osm_input.specs.Text.{text_seen}
use Rattle.osm_input.proofs.TextAnswered.{text_told, text_completes}
use Rattle.osm_input.proofs.text.read_text.Goals as goal

pub returns-clause-told : goal.returns-clause-told
returns-clause-told g c =
    text_told c.args.limit (g.H.Host.seen c.args.host.now) (g.H.Host.seen c.read_whole.new.host) (text_seen c.read_whole.result) c.read_whole.ensures.reads

pub returns-clause-complete : goal.returns-clause-complete
returns-clause-complete g c =
    text_completes c.args.limit (g.H.Host.seen c.args.host.now) (g.H.Host.seen c.read_whole.new.host) (text_seen c.read_whole.result) c.read_whole.ensures.reads c.read_whole.ensures.at_once
