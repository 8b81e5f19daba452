-- The sorted pairs have the places in order.
use Rattle.std.proofs.Common.{ℤ, ℕ, List, map, sym, subst, ap, ◌∙◌}
use Rattle.std.specs.List.Sorted.{IsPermutation}
use Rattle.std.proofs.lemmas.Result.{IfOk-weaker}
use Rattle.coast_join.specs.ById.{AreById, ids_with_places}
use Rattle.coast_join.proofs.Sorting.{by_id_are}
use Rattle.coast_join.proofs.by_id.by_id.Goals as goal

pub returns : goal.returns
returns c =
    let ids = c.args.ids.now in
    let moved : IsPermutation (ids_with_places ids) c.sort.new.self.items = subst (λ (xs : List (ℤ × ℕ)). IsPermutation xs c.sort.new.self.items) c.in_ok-placed.ensures c.in_ok-sort.ensures.permutation in
    IfOk-weaker c.places.result _ _ (λ v e. subst (AreById ids) (sym (e ∙ ap (map (λ (p : ℤ × ℕ). p.1)) c.deref.ensures.value)) (by_id_are ids c.sort.new.self.items c.requires moved c.in_ok-sort.ensures.sorted)) c.places.ensures
