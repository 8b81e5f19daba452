-- Where two locations are left, the line is closed.
use Rattle.std.proofs.Common.{◌≡◌, ◌≤◌, ap, length, ◌∙◌}
use Rattle.std.proofs.lemmas.Result.{IfOk-weaker}
use Rattle.coast_rings.specs.Round.{IsRound, opened}
use Rattle.coast_rings.proofs.Rounding.{round_left}
use Rattle.coast_rings.proofs.round.round_path.Goals as goal

pub returns-clause-round : goal.returns-clause-round
returns-clause-round c =
    let is = c.opened.ensures ∙ ap opened (c.deref.ensures.value ∙ c.once-line.ensures) in
    IfOk-weaker c.path_of.result (λ path. path ≡ c.opened.result.now) (λ path. 2 ≤ length path → IsRound path) (λ path e. round_left c.orders_are_exact.ensures.locations c.args.locs.items path (e ∙ is)) c.path_of.ensures
