-- One more candidate.
use Rattle.std.proofs.Common.{List, [], ap, arith, drop, length, refl, subst, sym, take, ◌∙◌, ◌≡◌}
use Rattle.std.proofs.lemmas.List.{get_or_default, length-map, take_at}
use Rattle.area_locate.specs.declared.found.Hit.{Hit}
use Rattle.area_locate.specs.Areas.{HaveHits, all_hits}
use Rattle.area_locate.proofs.Founds.{next_hits}
use Rattle.area_locate.proofs.candidates.hits_of_all.Goals as goal

pub loop-candidate-init : goal.loop-candidate-init
loop-candidate-init c = (([], refl, c.in_ok-hits.ensures), c.new-index.ensures c.args.points.now)

pub loop-candidate-preserved : goal.loop-candidate-preserved
loop-candidate-preserved c =
    let objects = c.args.store.now in let cs = c.args.candidates.now in let points = c.args.points.now in let k = c.loop-candidate.candidate-index in
    let old = c.deref_mut.result.now in let new = c.add_candidate.new.hits in
    let had = subst (λ (hits : List (List Hit)). HaveHits objects (take k cs) points hits) (sym c.deref_mut.ensures.value) c.loop-candidate.invariant.0 in
    let next = next_hits objects cs points k _ old new c.loop-candidate-test.true (get_or_default cs k _ _ c.loop-candidate-test.true) had c.in_ok-add_candidate.ensures.added in
    let before = ap length had.2 ∙ length-map points (all_hits had.0) in let after = ap length next.2 ∙ length-map points (all_hits next.0) in let len = c.deref_mut.ensures.len in
    let sized : length new ≡ c.loop-candidate.hits.len = omega (arith, before, after, len) in
    ((next.0, next.1, take_at new (drop (length new) c.loop-candidate.hits.items) c.loop-candidate.hits.len sized ∙ next.2), c.in_ok-add_candidate.ensures.index)
