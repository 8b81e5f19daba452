-- One more way.
use Rattle.std.proofs.Common.{◌≡◌, FitsSigned, w64, ℤ, get_or, pos, take, sym, ap, subst, ◌∙◌, rules}
use Rattle.std.specs.List.{IsDistinct, flat_map}
use Rattle.std.specs.Ordering.{int_eq}
use Rattle.std.proofs.lemmas.List.{take_all}
use Rattle.coast_join.specs.Input.{asides_of, way_paths_in}
use Rattle.std.proofs.lemmas.Int.{to_z-of_z}
use Rattle.coast_join.proofs.Inputs.{flat_more, ways_apart}
use Rattle.coast_join.proofs.input.coast_input.Goals as goal

pub loop-way-preserved : goal.loop-way-preserved
loop-way-preserved c =
    let items = c.deref-way-items.result.now in
    let i = c.loop-way.way-index in
    let way : ℤ = get_or items i (pos 0) in
    let fits : FitsSigned w64 (get_or items i (pos 0)) = search rules in
    let same = to_z-of_z w64 way fits in
    record {
      ways = flat_more (way_paths_in c.args.store.now) items i _ _ _ c.loop-way-test.true same c.loop-way.invariant.ways c.in_ok-add_held.ensures.ways;
      aside = flat_more (asides_of c.args.store.now) items i _ _ _ c.loop-way-test.true same c.loop-way.invariant.aside c.in_ok-add_held.ensures.asides;
    }

pub returns-clause-apart : goal.returns-clause-apart
returns-clause-apart c =
    let items = c.deref-way-items.result.now in
    let whole : take c.loop-way.way-index items ≡ items = take_all c.loop-way.way-index items c.loop-way-test.false in
    let differ : IsDistinct int_eq items = subst (IsDistinct int_eq) (sym (c.deref-way-items.ensures.value ∙ c.in_ok-coast.ensures.list)) c.in_ok-coast.ensures.distinct in
    ways_apart c.args.store.now c.loop-way.ways items (c.loop-way.invariant.ways ∙ ap (flat_map (way_paths_in c.args.store.now)) whole) differ
