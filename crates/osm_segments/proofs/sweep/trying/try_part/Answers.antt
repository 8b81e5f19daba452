use Rattle.std.proofs.Common.{arith, subst, sym, ⊎_elim, ◌≡◌, ◌≢◌}
use Rattle.std.proofs.lemmas.Bool.{cases_eq}
use Rattle.osm_segments.specs.Ranges.{IsTried}
use Rattle.osm_segments.proofs.SettledPairs.{grown_more, tried_still}
use Rattle.osm_segments.proofs.sweep.trying.try_part.Goals as goal

pub loop-j-preserved : goal.loop-j-preserved
loop-j-preserved c =
    let segs = c.args.segs.now in let i = c.args.i in let old = c.loop-j.told.items in let new = c.try_near.new.told.items in let grown = c.in_ok-try_near.ensures.grown in (
      grown_more segs c.args.told.now.items old new c.loop-j.invariant.0 grown,
      λ j a l. ⊎_elim
          (λ (e : j ≡ c.loop-j.j). subst (λ k. IsTried segs new i k) (sym e) c.in_ok-try_near.ensures.tried)
          (λ (n : j ≢ c.loop-j.j). tried_still segs old new i j grown.kept (c.loop-j.invariant.1 j a (omega (arith, n))))
          (cases_eq j c.loop-j.j),
    )
