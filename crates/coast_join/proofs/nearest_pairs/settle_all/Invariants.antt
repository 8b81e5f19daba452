use Rattle.std.proofs.Common.{◌≡◌, ◌<◌, ℕ, get_or, true}
use Rattle.coast_join.specs.declared.sites.Site.{Site}
use Rattle.coast_join.specs.Matches.{HasMatched, IsFurther}
use Rattle.coast_join.specs.Sites.{is_gone}
use Rattle.coast_join.proofs.nearest_pairs.settle_all.Given as goal

abbrev pub invariant-loop-place : goal.invariant-loop-place
invariant-loop-place l = record {
  matched : HasMatched l.limit l.matching;
  further : IsFurther l.initial.matching l.matching;
  gone : (k : ℕ) (d : Site) → k < l.place → is_gone l.matching.ends.gone.items (get_or l.matching.ends.sites.items k d) ≡ true;
}
