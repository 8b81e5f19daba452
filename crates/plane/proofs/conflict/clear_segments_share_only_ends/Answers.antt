use Rattle.plane.proofs.conflict.clear_segments_share_only_ends.Goals as goal
use Rattle.plane.proofs.Conflicts.{clear_end_off, clear_misses}

pub returns-clause-between : goal.returns-clause-between
returns-clause-between c = clear_misses

pub returns-clause-ends : goal.returns-clause-ends
returns-clause-ends c = clear_end_off
