use Rattle.std.proofs.Common.{take}
use Rattle.osm_words.specs.Answers.{coastline_seen}
use Rattle.job_coastline.specs.OutlineSteps.{HaveLeaves}
use Rattle.job_coastline.proofs.counting.count_all.Given as goal

abbrev pub invariant-loop-edges : goal.invariant-loop-edges
invariant-loop-edges l = HaveLeaves (coastline_seen l.settings) l.most (take l.edges-index l.lists) l.count
