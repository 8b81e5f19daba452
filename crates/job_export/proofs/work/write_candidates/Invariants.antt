use Rattle.std.proofs.Common.{◌≤◌, take}
use Rattle.osm_words.specs.Answers.{settings_seen}
use Rattle.job_export.proofs.Candidates.{WroteFirst}
use Rattle.job_export.proofs.work.write_candidates.Given as goal

abbrev pub invariant-loop-candidate : goal.invariant-loop-candidate
invariant-loop-candidate g l = (l.features ≤ l.candidate-index) × WroteFirst (settings_seen l.settings) l.store (take l.candidate-index l.candidates) l.features l.waiting.items (g.H.Host.seen l.fn.host) (g.H.Host.seen l.host)
