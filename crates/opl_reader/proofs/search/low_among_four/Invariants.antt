use Rattle.std.proofs.Common.{◌+◌, drop}
use Rattle.std.specs.List.{position_or_len}
use Rattle.opl_reader.specs.Steps.{is_low}
use Rattle.opl_reader.proofs.SearchLemmas.{SearchedTo}
use Rattle.opl_reader.proofs.search.low_among_four.Given as goal

abbrev pub invariant-loop-step : goal.invariant-loop-step
invariant-loop-step l = SearchedTo is_low l.text (l.place + l.step) (l.place + position_or_len is_low (drop l.place l.text))
