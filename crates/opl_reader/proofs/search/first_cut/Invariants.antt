use Rattle.std.proofs.Common.{◌==◌}
use Rattle.std.specs.List.{position_or_len}
use Rattle.opl_reader.proofs.SearchLemmas.{SearchedTo}
use Rattle.opl_reader.proofs.search.first_cut.Given as goal

abbrev pub invariant-loop-place : goal.invariant-loop-place
invariant-loop-place l = SearchedTo (λ b. b == l.byte) l.text l.place (position_or_len (λ b. b == l.byte) l.text)
