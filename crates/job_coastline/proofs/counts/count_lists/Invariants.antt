use Rattle.std.proofs.Common.{length, take}
use Rattle.osm_words.specs.Answers.{coastline_seen}
use Rattle.job_coastline.specs.CountSteps.{CountsLists}
use Rattle.job_coastline.proofs.counts.count_lists.Given as goal

abbrev pub invariant-loop-edges : goal.invariant-loop-edges
invariant-loop-edges l = CountsLists (coastline_seen l.settings) l.kind (take (length l.yielded) l.fn.lists.items) l.fn.tally l.now
