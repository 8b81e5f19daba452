-- Names, no two of them the same, are the ways.
use Rattle.std.proofs.Common.{◌≡◌, ◌∙◌, ap, sym, true}
use Rattle.osm_area.specs.Names.{differ}
use Rattle.osm_area.proofs.OutcomeLemmas.{few_ways}
use Rattle.osm_area.proofs.outcome.outline_by_names.Goals as goal

pub outline_by-requires : goal.outline_by-requires
outline_by-requires c =
    let lent = c.deref-then-branch in
    let apart : differ lent.result.now ≡ true = ap differ (lent.ensures.value ∙ sym c.deref.ensures.value) ∙ c.in_ok-all_differ.ensures c.if-branch.true in
    few_ways c.args.store.now c.args.candidate c.in_ok-named.named.items lent.result.now c.in_ok-named.ensures lent.ensures.value apart
