-- The same names in order.
use Rattle.std.proofs.Common.{ap, sym, ◌∙◌}
use Rattle.std.specs.List.{list_any}
use Rattle.std.specs.Ordering.{int_eq}
use Rattle.std.proofs.lemmas.List.Sorted.{list_any-IsPermutation}
use Rattle.coast_filter.proofs.names.names_of.Goals as goal

pub returns-clause-same : goal.returns-clause-same
returns-clause-same c = λ id. sym (list_any-IsPermutation (int_eq id) _ _ c.sort_unstable.ensures.permutation) ∙ ap (list_any (int_eq id)) c.in_ok-names.ensures
