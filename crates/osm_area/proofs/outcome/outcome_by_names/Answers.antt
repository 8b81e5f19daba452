-- Names, no two of them the same, are the ways, and there is nothing to note.
use Rattle.std.proofs.Common.{◌≡◌, ◌∙◌, ap, sym, true}
use Rattle.osm_area.specs.Names.{differ}
use Rattle.osm_area.proofs.OutcomeLemmas.{few_notes, few_ways}
use Rattle.osm_area.proofs.outcome.outcome_by_names.Goals as goal

pub outcome_by-requires-clause-ways : goal.outcome_by-requires-clause-ways
outcome_by-requires-clause-ways c =
    let lent = c.deref-then-branch in
    let apart : differ lent.result.now ≡ true = ap differ (lent.ensures.value ∙ sym c.deref.ensures.value) ∙ c.in_ok-all_differ.ensures c.if-branch.true in
    few_ways c.args.store.now c.args.candidate c.in_ok-named.named.items lent.result.now c.in_ok-named.ensures lent.ensures.value apart

pub outcome_by-requires-clause-notes : goal.outcome_by-requires-clause-notes
outcome_by-requires-clause-notes c =
    let lent = c.deref-then-branch in
    let apart : differ lent.result.now ≡ true = ap differ (lent.ensures.value ∙ sym c.deref.ensures.value) ∙ c.in_ok-all_differ.ensures c.if-branch.true in
    few_notes c.args.store.now c.args.candidate c.in_ok-named.named.items lent.result.now c.new.result c.in_ok-named.ensures lent.ensures.value apart c.new.ensures
