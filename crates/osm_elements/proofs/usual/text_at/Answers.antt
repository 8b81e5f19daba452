use Rattle.osm_elements.proofs.UsualLemmas.{text_is}
use Rattle.osm_elements.proofs.usual.text_at.Goals as goal

pub returns : goal.returns
returns c = text_is c.args.texts.now c.args.place _ c.requires
