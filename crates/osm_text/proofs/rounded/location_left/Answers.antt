use Rattle.std.proofs.Common.{◌≡◌, ◌∙◌, Bool, true, false, cond, Some, None, ap, ap₂, sym}
use Rattle.osm_text.specs.Rounded.{is_same, start_near}
use Rattle.osm_text.specs.RoundedSteps.{end_near}
use Rattle.osm_text.proofs.rounded.location_left.Goals as goal

pub returns-then-eq : goal.returns-then-eq
returns-then-eq c =
    let e = c.args.edge.now in
    let from = c.location_near-from.ensures e.from_in in
    let to = c.location_near-to.ensures e.to_in in
    let same : is_same (start_near e) (end_near e) ≡ true = ap₂ is_same (sym from) (sym to) ∙ sym c.eq.ensures ∙ c.if-eq.true in
    ap (λ (b : Bool). cond b None (Some (start_near e))) (sym same)

pub returns-else-eq : goal.returns-else-eq
returns-else-eq c =
    let e = c.args.edge.now in
    let from = c.location_near-from.ensures e.from_in in
    let to = c.location_near-to.ensures e.to_in in
    let differ : is_same (start_near e) (end_near e) ≡ false = ap₂ is_same (sym from) (sym to) ∙ sym c.eq.ensures ∙ c.if-eq.false in
    ap Some from ∙ ap (λ (b : Bool). cond b None (Some (start_near e))) (sym differ)
