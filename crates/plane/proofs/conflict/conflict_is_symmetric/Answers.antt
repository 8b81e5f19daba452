use Rattle.plane.proofs.conflict.conflict_is_symmetric.Goals as goal
use Rattle.plane.proofs.Conflicts.{conflicts_reversed, crosses_reversed, overlaps_reversed, self_overlaps}

pub returns-clause-overlap : goal.returns-clause-overlap
returns-clause-overlap c = overlaps_reversed

pub returns-clause-crossing : goal.returns-clause-crossing
returns-clause-crossing c = crosses_reversed

pub returns-clause-conflict : goal.returns-clause-conflict
returns-clause-conflict c = conflicts_reversed

pub returns-clause-itself : goal.returns-clause-itself
returns-clause-itself c = self_overlaps
