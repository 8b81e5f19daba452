-- The pairs of sites are those of the chains.
use Rattle.std.proofs.Common.{Contains, Err, IfOk, List, Ok, Result}
use Rattle.lists.specs.Rising.{IsRising}
use Rattle.coast_join.specs.declared.gap.Gap.{Gap}
use Rattle.coast_join.specs.Closings.{near_pairs}
use Rattle.coast_join.specs.GapSteps.{gap_cmp}
use Rattle.coast_join.specs.Matches.{IsNearPair}
use Rattle.coast_join.specs.Taken.{AreTaken, IsFree}
use Rattle.coast_join.proofs.MatchedPairs.{taken_by_sites}
use Rattle.coast_join.proofs.nearest_pairs.nearest_pairs.Goals as goal

ok_by_both : {X E : Type 0} (r : Result X E) (P Q R : X → Type 0) → ((x : X) → P x → Q x → R x) → IfOk r P → IfOk r Q → IfOk r R
ok_by_both (Ok x) P Q R h p q = h x p q
ok_by_both (Err e) P Q R h p q = tt

pub matched_gaps-requires : goal.matched_gaps-requires
matched_gaps-requires c = c.in_ok-matching.ensures.matched c.args.limit

pub returns : goal.returns
returns c =
    let ends = c.in_ok-matching.matching.ends.sites.items in
    let starts = c.in_ok-matching.matching.starts.sites.items in
    ok_by_both c.matched_gaps.result (IsRising gap_cmp)
    (λ (v : List Gap). (g : Gap) → (Contains v g → IsNearPair c.args.limit ends starts g × IsFree gap_cmp v g) × (IsNearPair c.args.limit ends starts g × IsFree gap_cmp v g → Contains v g))
    (AreTaken gap_cmp (near_pairs c.args.limit c.args.ends.now))
    (λ v rising exact. taken_by_sites c.args.limit c.args.ends.now ends starts v c.in_ok-matching.ensures.ends c.in_ok-matching.ensures.starts rising exact)
    c.matched_gaps.ensures.rising c.matched_gaps.ensures.exact
