-- One step more.
use Rattle.std.proofs.Common.{Contains, List, ◌∙◌, sym, subst}
use Rattle.coast_join.specs.declared.sites.Site.{Site}
use Rattle.coast_join.proofs.MatchedPairs.{still_waiting}
use Rattle.coast_join.proofs.nearest_pairs.settle.Goals as goal

pub settle_one-requires-clause-matched : goal.settle_one-requires-clause-matched
settle_one-requires-clause-matched c = still_waiting c.args.limit c.loop-end.matching c.next_end-from.new.waiting c.loop-end.invariant.matched (c.next_end-from.ensures.rest c.loop-end.matching.ends.sites.items c.loop-end.invariant.matched.waiting)

pub settle_one-requires-clause-stands : goal.settle_one-requires-clause-stands
settle_one-requires-clause-stands c = c.next_end-from.ensures.among c.loop-end.matching.ends.sites.items c.loop-end.invariant.matched.waiting (subst (λ (xs : List Site). Contains xs c.args.end) (sym c.loop-end.invariant.further.ends) c.requires.stands)

pub loop-end-preserved : goal.loop-end-preserved
loop-end-preserved c =
    let f = c.in_ok-settle_one.ensures.further in
    let g = c.loop-end.invariant.further in
    record {
      matched = c.in_ok-settle_one.ensures.matched;
      further = record { ends = f.ends ∙ g.ends; starts = f.starts ∙ g.starts; marked = λ k h. f.marked k (g.marked k h) };
    }
