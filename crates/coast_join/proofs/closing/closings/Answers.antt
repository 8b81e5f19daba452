-- The near pairs that are taken, told by names.
use Rattle.std.proofs.Common.{◌<◌, All, AllPairs, List, length, sym, subst, ◌∙◌}
use Rattle.std.proofs.lemmas.List.{length-map}
use Rattle.coast_join.specs.declared.chain.Chain.{Chain}
use Rattle.coast_join.specs.declared.closing.OpenEnds.{OpenEnds}
use Rattle.coast_join.specs.Closings.{names_of, near_pairs, open_ends}
use Rattle.coast_join.specs.GapSteps.{gap_cmp}
use Rattle.coast_join.specs.Taken.{AreTaken}
use Rattle.coast_join.proofs.MatchedPairs.{open_ends_rise}
use Rattle.coast_join.proofs.NameOrder.{IsBelow, by_names}
use Rattle.coast_join.proofs.NearPairs.{ends_below, pairs_below}
use Rattle.coast_join.proofs.closing.closings.Goals as goal

pub nearest_pairs-requires-clause-inside : goal.nearest_pairs-requires-clause-inside
nearest_pairs-requires-clause-inside c = subst (All (λ (e : OpenEnds). e.chain < length c.args.chains.now)) (sym (c.deref.ensures.value ∙ c.in_ok-ends.ensures)) (ends_below c.args.chains.now)

pub nearest_pairs-requires-clause-rising : goal.nearest_pairs-requires-clause-rising
nearest_pairs-requires-clause-rising c = subst (AllPairs (λ (e f : OpenEnds). e.chain < f.chain)) (sym (c.deref.ensures.value ∙ c.in_ok-ends.ensures)) (open_ends_rise c.args.chains.now)

pub returns : goal.returns
returns c =
    let chains = c.args.chains.now in
    let near = near_pairs c.args.limit (open_ends chains) in
    let below : All (IsBelow (length chains)) near = pairs_below (length chains) c.args.limit (open_ends chains) (ends_below chains) in
    record {
      antarctica = c.in_ok-antarctica.ensures;
      gaps = by_names (names_of chains) (c.names_rise.ensures c.requires.0 chains c.requires.1) near c.in_ok-gaps.gaps
          (subst (λ n. All (IsBelow n) near) (sym (length-map chains (λ (x : Chain). x.name))) below)
          (subst (λ (xs : List OpenEnds). AreTaken gap_cmp (near_pairs c.args.limit xs) c.in_ok-gaps.gaps) (c.deref.ensures.value ∙ c.in_ok-ends.ensures) c.in_ok-gaps.ensures);
    }
