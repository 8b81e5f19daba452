use Rattle.std.proofs.Common.{rules}
use Rattle.osm_elements.proofs.PackedLemmas.{as_many}
use Rattle.osm_elements.proofs.tags.Tags.len.Goals as goal

pub returns : goal.returns
returns c = rw (← c.self.view_is, as_many c.self.inside.count c.self.inside.texts) (search rules)
