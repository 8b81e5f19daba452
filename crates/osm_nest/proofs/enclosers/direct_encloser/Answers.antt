-- What is known is right.
use Rattle.osm_nest.proofs.enclosers.direct_encloser.Goals as goal

pub returns-in-Some : goal.returns-in-Some
returns-in-Some c = c.requires.known.right c.args.place c.in-Some.encloser c.requires.inside c.in-Some.is
