use Rattle.std.proofs.Common.{sym, ◌∙◌}
use Rattle.coast_split.proofs.Walks.{adds-link, not-one}
use Rattle.coast_split.proofs.halves.push_link.Goals as goal

pub link-requires-clause-apart : goal.link-requires-clause-apart
link-requires-clause-apart c =
    not-one c.args.cut c.args.side c.args.count c.args.passed c.args.z c.args.w (sym c.is_skipped.ensures ∙ c.if-not-is_skipped.true)

pub returns-in_ok-push : goal.returns-in_ok-push
returns-in_ok-push c =
    adds-link c.args.cut c.args.z c.args.w _ c.link.result c.args.edges.now c.push.new.self (sym c.is_skipped.ensures ∙ c.if-not-is_skipped.true) c.link.ensures c.in_ok-push.ensures.ok
