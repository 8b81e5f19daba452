use Rattle.std.proofs.Common.{rules}
use Rattle.osm_elements.proofs.PackedLemmas.{as_many_members}
use Rattle.osm_elements.proofs.members.Members.len.Goals as goal

pub returns : goal.returns
returns c = rw (← c.self.view_is, as_many_members c.self.inside.targets.items c.self.inside.roles) (search rules)
