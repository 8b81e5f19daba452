use Rattle.osm_segments.proofs.ConflictKinds.{conflicts_of_kind}
use Rattle.osm_segments.proofs.laws.conflicts_have_their_kind.Goals as goal

pub returns : goal.returns
returns c = conflicts_of_kind
