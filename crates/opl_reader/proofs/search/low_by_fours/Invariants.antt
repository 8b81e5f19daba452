use Rattle.std.proofs.Common.{◌+◌, ◌-◌, drop, length}
use Rattle.std.specs.List.{position_or_len}
use Rattle.opl_reader.specs.Steps.{is_low}
use Rattle.opl_reader.proofs.SearchLemmas.{SearchedTo}
use Rattle.opl_reader.proofs.search.low_by_fours.Given as goal

abbrev pub invariant-loop-place : goal.invariant-loop-place
invariant-loop-place l = SearchedTo is_low l.text l.place (l.start + position_or_len is_low (drop l.start l.text))

abbrev pub decreases-loop-place : goal.decreases-loop-place
decreases-loop-place l = length l.text - l.place
