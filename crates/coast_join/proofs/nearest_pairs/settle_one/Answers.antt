-- One end more is put aside, or one pair more is taken.
use Rattle.std.proofs.Common.{◌++◌, ◌∷◌, [], ◌∙◌, ap, refl}
use Rattle.std.proofs.Math.Nat.{lt_of_le_of_lt}
use Rattle.coast_join.specs.declared.gap.Gap.{Gap}
use Rattle.coast_join.specs.declared.nearest_pairs.Matching.{Matching}
use Rattle.coast_join.proofs.MatchedPairs.{aside_step, take_step, unmarked_inside}
use Rattle.coast_join.proofs.nearest_pairs.settle_one.Goals as goal

pub mark-requires-clause-tree : goal.mark-requires-clause-tree
mark-requires-clause-tree c = c.requires.matched.ends

pub mark-requires-clause-inside : goal.mark-requires-clause-inside
mark-requires-clause-inside c = unmarked_inside c.args.matching.now.ends.gone.items c.args.from.chain c.requires.free

pub mutual_match-requires-clause-choice : goal.mutual_match-requires-clause-choice
mutual_match-requires-clause-choice c = record { stands = c.requires.stands; free = c.requires.free; to = c.in-Some.ensures.to; least = c.in-Some.ensures.least }

pub mark-requires-2-clause-tree : goal.mark-requires-2-clause-tree
mark-requires-2-clause-tree c = c.requires.matched.ends

pub mark-requires-2-clause-inside : goal.mark-requires-2-clause-inside
mark-requires-2-clause-inside c = unmarked_inside c.args.matching.now.ends.gone.items c.in_ok-pair.pair.from.chain c.in_ok-pair.ensures.mutual.choice.free

pub mark-requires-3-clause-tree : goal.mark-requires-3-clause-tree
mark-requires-3-clause-tree c = c.requires.matched.starts

pub mark-requires-3-clause-inside : goal.mark-requires-3-clause-inside
mark-requires-3-clause-inside c = unmarked_inside c.args.matching.now.starts.gone.items c.in_ok-pair.pair.to.site.chain c.in_ok-pair.ensures.mutual.choice.to.free

pub returns-in_default : goal.returns-in_default
returns-in_default c =
    let m = c.args.matching.now in
    let n : Matching = record { ends = c.mark.new.tree; starts = m.starts; waiting = m.waiting; gaps = m.gaps } in
    let step = aside_step c.args.limit m c.requires.matched n c.args.from c.requires.stands c.requires.free c.in_default.ensures c.mark.ensures.tree c.mark.ensures.sites c.mark.ensures.gone refl refl refl in
    record { matched = step.matched; further = step.further; fewer = step.fewer }

pub returns : goal.returns
returns c =
    let m = c.args.matching.now in
    let n : Matching = record { ends = c.mark-2.new.tree; starts = c.mark-3.new.tree; waiting = c.mutual_match.new.waiting; gaps = c.push.new.self } in
    let step = take_step c.args.limit m c.requires.matched n c.in_ok-pair.pair c.in_ok-pair.ensures.mutual (lt_of_le_of_lt c.in_ok-pair.ensures.square c.in-Some.ensures.below)
    c.mark-2.ensures.tree c.mark-3.ensures.tree c.mark-2.ensures.sites c.mark-3.ensures.sites c.mark-2.ensures.gone c.mark-3.ensures.gone
    (c.in_ok-pair.ensures.waiting c.requires.matched.waiting)
    (c.in_ok-push.ensures.items ∙ ap (λ (g : Gap). m.gaps.items ++ g ∷ []) c.gap_of.ensures) in
    record { matched = step.matched; further = step.further; fewer = step.fewer }
