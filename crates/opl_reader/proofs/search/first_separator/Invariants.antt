use Rattle.std.proofs.Common.{◌-◌, length}
use Rattle.std.specs.List.{position_or_len}
use Rattle.opl_reader.specs.LineReading.{is_separator}
use Rattle.opl_reader.proofs.SearchLemmas.{SearchedTo}
use Rattle.opl_reader.proofs.search.first_separator.Given as goal

abbrev pub invariant-loop-place : goal.invariant-loop-place
invariant-loop-place l = SearchedTo is_separator l.text l.place (position_or_len is_separator l.text)

abbrev pub decreases-loop-place : goal.decreases-loop-place
decreases-loop-place l = length l.text - l.place
