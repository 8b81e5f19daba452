-- The chains are those of the ways, and the closings those of the chains.
use Rattle.std.proofs.Common.{List, sym, subst, ◌∙◌}
use Rattle.coast_join.specs.declared.chain.Chain.{Chain}
use Rattle.coast_join.specs.Chains.{AreChains}
use Rattle.coast_join.specs.Closings.{AreClosings}
use Rattle.tests_coast.proofs.reading.joined_of.Goals as goal

pub closings-requires : goal.closings-requires
closings-requires c = (c.as_slice.result.now, subst (AreChains c.as_slice.result.now) (sym c.deref.ensures.value) c.in_ok-chains.ensures)

pub closed_rings-requires-clause-are_chains : goal.closed_rings-requires-clause-are_chains
closed_rings-requires-clause-are_chains c = (c.as_slice.result.now, subst (AreChains c.as_slice.result.now) (sym c.deref-2.ensures.value) c.in_ok-chains.ensures)

pub closed_rings-requires-clause-are_closings : goal.closed_rings-requires-clause-are_closings
closed_rings-requires-clause-are_closings c = (c.args.limit, subst (λ (chains : List Chain). AreClosings chains c.args.limit c.in_ok-closings.closings) (c.deref.ensures.value ∙ sym c.deref-2.ensures.value) c.in_ok-closings.ensures)
