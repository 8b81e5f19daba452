use Rattle.std.proofs.Common.{sym, ◌∙◌}
use Rattle.lists.proofs.ListsKit.{not-true-out}
use Rattle.osm_lattice.proofs.ClearAtOnce.{beside_clear, beside_clear_back, fork_clear}
use Rattle.osm_lattice.proofs.conflicts.are_clear_at_once.Goals as goal

pub returns-then-is_beside : goal.returns-then-is_beside
returns-then-is_beside c _ = beside_clear c.args.s c.args.t (sym c.is_beside.ensures ∙ c.if-is_beside.true)

pub returns-then-meet_at_end : goal.returns-then-meet_at_end
returns-then-meet_at_end c leaves =
    fork_clear c.args.s c.args.t (sym c.meet_at_end.ensures ∙ c.if-meet_at_end.true) (sym c.is_along.ensures ∙ not-true-out c.is_along.result leaves)

pub returns : goal.returns
returns c beside = beside_clear_back c.args.s c.args.t (sym c.is_beside-2.ensures ∙ beside)
