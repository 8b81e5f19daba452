use Rattle.coast_split.proofs.SidedHalves.{half-beyond, half-kept}
use Rattle.coast_split.proofs.laws.half_counts_as_list.Goals as goal

pub returns-clause-kept : goal.returns-clause-kept
returns-clause-kept c = λ cut s es hs h sd q hq p e off. half-kept cut s es hs h sd q hq p e off

pub returns-clause-beyond : goal.returns-clause-beyond
returns-clause-beyond c = λ cut s es hs h sd q hq p e. half-beyond cut s es hs h sd q hq p e
