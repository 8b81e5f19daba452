-- One more encloser, or as many as before.
use Rattle.std.proofs.Common.{refl}
use Rattle.osm_nest.proofs.KnownEnclosers.{one-known}
use Rattle.osm_nest.proofs.sweep.enclosers.settle.Goals as goal

pub returns-in-Some : goal.returns-in-Some
returns-in-Some c = one-known c.args.rings.now c.args.anchor.now.ring c.encloser_by-encloser.result c.args.known.now.items _ c.requires.inside c.encloser_by-encloser.ensures refl c.requires.known
