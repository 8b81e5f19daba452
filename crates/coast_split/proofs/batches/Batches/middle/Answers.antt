-- The envelope is that of a list, so it is small.
use Rattle.std.proofs.Common.{List, subst, sym}
use Rattle.osm_geom.specs.declared.edge.Edge.{Edge}
use Rattle.coast_split.specs.Envelope.{IsSmall}
use Rattle.coast_split.specs.declared.batches.Batches.{Batches}
use Rattle.coast_split.specs.Batches.{AreBatches, batched_edges}
use Rattle.coast_split.proofs.WholeEnvelopes.{small-envelope}
use Rattle.coast_split.proofs.batches.Batches.middle.Goals as goal

small : (whole : List Edge) (list : Batches) → AreBatches whole list → IsSmall list.envelope
small whole list h = subst IsSmall (sym h.envelope) (small-envelope (batched_edges whole list))

pub longer-axis-requires : goal.longer-axis-requires
longer-axis-requires c = small c.requires.0 c.args.self.now c.requires.1

pub width-requires : goal.width-requires
width-requires c = small c.requires.0 c.args.self.now c.requires.1

pub middle-requires : goal.middle-requires
middle-requires c = small c.requires.0 c.args.self.now c.requires.1
