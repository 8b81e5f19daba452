use Rattle.std.proofs.Common.{◌≡◌, All, length, sym, ap, subst, ◌∙◌}
use Rattle.std.proofs.lemmas.List.{length-map}
use Rattle.coast_join.specs.declared.chain.Chain.{Chain}
use Rattle.coast_join.specs.declared.gap.Closings.{Closings}
use Rattle.coast_join.specs.Closings.{names_of, near_pairs, open_ends}
use Rattle.coast_join.proofs.NameOrder.{IsBelow, one_by_names}
use Rattle.coast_join.proofs.NearPairs.{ends_below, pairs_below}
use Rattle.coast_join.proofs.ring_laws.closings_are_determined.Goals as goal

same_closings : (c d : Closings) → c.antarctica ≡ d.antarctica → c.gaps ≡ d.gaps → c ≡ d
same_closings c d a g =
    let one : c ≡ record { antarctica = d.antarctica; gaps = c.gaps } = ap (λ xs. record { antarctica = xs; gaps = c.gaps }) a in
    let two : ◌≡◌ {A = Closings} (record { antarctica = d.antarctica; gaps = c.gaps }) d = ap (λ xs. record { antarctica = d.antarctica; gaps = xs }) g in
    one ∙ two

pub returns : goal.returns
returns c ways chains are limit x y of_x of_y =
    let near = near_pairs limit (open_ends chains) in
    let below : All (IsBelow (length (names_of chains))) near = subst (λ n. All (IsBelow n) near) (sym (length-map chains (λ (z : Chain). z.name))) (pairs_below (length chains) limit (open_ends chains) (ends_below chains)) in
    same_closings x y (of_x.antarctica ∙ sym of_y.antarctica) (one_by_names (names_of chains) near x.gaps y.gaps (c.names_rise.ensures ways chains are) below of_x.gaps of_y.gaps)
