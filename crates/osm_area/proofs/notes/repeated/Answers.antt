-- By how often the ways are named.
use Rattle.std.proofs.Common.{ap, map, subst, sym, ◌∙◌}
use Rattle.std.specs.List.Sorted.{IsSorted}
use Rattle.std.specs.Ordering.{int_cmp}
use Rattle.std.proofs.lemmas.Cmp.{int_cmp_total}
use Rattle.std.proofs.lemmas.Result.{IfOk-weaker}
use Rattle.lists.proofs.ListsKit.{sorted_from_rising}
use Rattle.lists.specs.Rising.{count_of}
use Rattle.osm_area.proofs.FewNames.{twice_among}
use Rattle.osm_area.proofs.notes.repeated.Goals as goal

pub returns-clause-sorted : goal.returns-clause-sorted
returns-clause-sorted c = IfOk-weaker c.items_of.result _ _ (λ v e. subst (IsSorted int_cmp) (sym (e ∙ ap (map (λ t. t.item)) c.deref.ensures.value)) (sorted_from_rising int_cmp_total (map (λ t. t.item) c.in_ok-tallies.tallies.items) c.in_ok-tallies.ensures.rising)) c.items_of.ensures

pub returns-clause-twice : goal.returns-clause-twice
returns-clause-twice c = IfOk-weaker c.items_of.result _ _ (λ v e way. twice_among c.args.named.now v.items way (ap (count_of int_cmp way) (e ∙ ap (map (λ t. t.item)) c.deref.ensures.value) ∙ c.in_ok-tallies.ensures.repeated way)) c.items_of.ensures
