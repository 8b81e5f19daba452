use Rattle.std.proofs.Common.{ap, arith, get_or, length, subst, sym, ⊎_elim, ◌<◌, ◌∙◌, ◌≡◌, ◌≢◌}
use Rattle.std.proofs.lemmas.Bool.{cases_eq}
use Rattle.lists.proofs.ListsKit.{same_get}
use Rattle.osm_segments.specs.declared.ranges.strips.SegAt.{SegAt}
use Rattle.osm_segments.specs.Ranges.{IsTried}
use Rattle.osm_segments.proofs.SettledPairs.{grown_more, tried_still}
use Rattle.osm_segments.proofs.ranges.telling.try_some.Goals as goal

pub loop-i-preserved : goal.loop-i-preserved
loop-i-preserved c =
    let segs = c.args.segs.now in let all = c.args.all.now in let i = c.loop-i.i in let old = c.loop-i.told.items in let new = c.try_pair.new.told.items in let place = c.args.place in
    let grown = c.in_ok-try_pair.ensures.grown in
    let inside : i < length all = omega arith in (
      grown_more segs c.args.told.now.items old new c.loop-i.invariant.0 grown,
      λ k d a b. ⊎_elim
          (λ (e : k ≡ i). subst (λ (u : SegAt). IsTried segs new u.place place) (same_get all i c.index-all-i.result d inside ∙ ap (λ m. get_or all m d) (sym e)) c.in_ok-try_pair.ensures.tried)
          (λ (n : k ≢ i). tried_still segs old new (get_or all k d).place place grown.kept (c.loop-i.invariant.1 k d a (omega (arith, n))))
          (cases_eq k i),
    )
