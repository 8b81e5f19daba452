-- The half of the whole list.
use Rattle.std.proofs.Common.{subst, sym, ◌∙◌}
use Rattle.coast_split.specs.Half.{IsHalf}
use Rattle.coast_split.proofs.SidedHalves.{half-beyond, half-kept, half-sided}
use Rattle.coast_split.proofs.halves.half.Goals as goal

is_half : (c : goal.After-drop-list-2) → IsHalf c.args.cut c.args.side c.args.edges.now c.in_ok-edges.edges
is_half c =
    subst (λ es. IsHalf c.args.cut c.args.side es c.in_ok-edges.edges) (c.in_ok-list.ensures.1 ∙ c.as_slice-whole.ensures)
    (subst (IsHalf c.args.cut c.args.side _) (sym c.in_ok-edges.ensures) c.in_ok-half.ensures.half)

pub returns-clause-half : goal.returns-clause-half
returns-clause-half c = is_half c

pub returns-clause-sided : goal.returns-clause-sided
returns-clause-sided c = half-sided c.args.cut c.args.side c.args.edges.now c.in_ok-edges.edges (is_half c) c.requires

pub returns-clause-kept : goal.returns-clause-kept
returns-clause-kept c = λ q hq p e off. half-kept c.args.cut c.args.side c.args.edges.now c.in_ok-edges.edges (is_half c) c.requires q hq p e off

pub returns-clause-beyond : goal.returns-clause-beyond
returns-clause-beyond c = λ q hq p e. half-beyond c.args.cut c.args.side c.args.edges.now c.in_ok-edges.edges (is_half c) c.requires q hq p e
