-- Words of private clauses on finding gaps. No public contract cites them.
use Rattle.std.specs.declared.cmp.Ordering.{Ordering}
use Rattle.std.specs.Ordering.{nat_cmp, on, then_cmp}
use Rattle.coast_join.specs.declared.gap.Gap.{Gap}

-- the order of pairs, if names rise along the list of chains: by the squared distance, then by the places of the chains
abbrev pub gap_cmp : Gap → Gap → Ordering
gap_cmp = then_cmp (on (λ g. g.square) nat_cmp) (then_cmp (on (λ g. g.from_chain) nat_cmp) (on (λ g. g.to_chain) nat_cmp))
