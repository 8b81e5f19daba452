use Rattle.std.proofs.Common.{sym, ◌∙◌}
use Rattle.osm_segments.proofs.SegmentTests.{seg_by_tests}
use Rattle.osm_segments.proofs.sweep.finding.is_at.Goals as goal

pub returns-then-place-len-clause-at : goal.returns-then-place-len-clause-at
returns-then-place-len-clause-at c same = sym (c.get.ensures c.args.s) ∙ seg_by_tests c.get.result c.args.s (sym c.eq.ensures ∙ same)
