-- The rings have the edges of the list, so that both common denominators are one.
use Rattle.osm_nest.proofs.NestedRings.{may-be-nested, rings-whole}
use Rattle.osm_nest.proofs.laws.rings_may_be_nested.Goals as goal

pub returns-clause-nested : goal.returns-clause-nested
returns-clause-nested c = may-be-nested c.rings_do_not_cross.ensures

pub returns-clause-whole : goal.returns-clause-whole
returns-clause-whole c = rings-whole
