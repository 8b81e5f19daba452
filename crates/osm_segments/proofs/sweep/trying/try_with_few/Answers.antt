use Rattle.std.proofs.Common.{Contains, ap, arith, get_or, length, subst, sym, take, ⊎_elim, ◌<◌, ◌≡◌}
use Rattle.std.proofs.lemmas.List.{get_or_default}
use Rattle.osm_segments.specs.Ranges.{IsGrown, IsTried}
use Rattle.osm_segments.proofs.SettledPairs.{all_taken, grown_more, one_more_in, tried_still}
use Rattle.osm_segments.proofs.sweep.trying.try_with_few.Goals as goal
use Rattle.osm_segments.proofs.sweep.trying.try_with_few.Goals.{then-not-is_beside+in_ok-try_part, else-not-is_beside}

pub loop-i-preserved : goal.loop-i-preserved
loop-i-preserved c =
    let segs = c.args.segs.now in let few = c.args.few.now in let at = c.loop-i.i-index in let first = c.args.told.now.items in let old = c.loop-i.told.items in
    let x = get_or few at 0 in let inside : at < length few = omega arith in
    elim c.if-not-is_beside.branch [
      | then-not-is_beside+in_ok-try_part w ↦
          let new = w.try_part.new.told.items in let grown = w.in_ok-try_part.ensures.grown in let same = sym (ap (λ v. v.items) w.told-is) in (
            subst (IsGrown segs first) same (grown_more segs first old new c.loop-i.invariant.0 grown),
            λ i j m a l. subst (λ told. IsTried segs told i j) same
                (⊎_elim
                (λ (k : Contains (take at few) i). tried_still segs old new i j grown.kept (c.loop-i.invariant.1 i j k a l))
                (λ (e : x ≡ i). subst (λ k. IsTried segs new k j) e (w.in_ok-try_part.ensures.tried j a l))
                (one_more_in few at x inside (get_or_default few at 0 x inside) i m)),
          )
      | else-not-is_beside w ↦
          let same = sym (ap (λ v. v.items) w.told-is) in (
            subst (IsGrown segs first) same c.loop-i.invariant.0,
            λ i j m a l. subst (λ told. IsTried segs told i j) same
                (⊎_elim
                (λ (k : Contains (take at few) i). c.loop-i.invariant.1 i j k a l)
                (λ (e : x ≡ i). subst (λ k. IsTried segs old k j) e (c.is_beside.ensures w.if-not-is_beside.false old j a l))
                (one_more_in few at x inside (get_or_default few at 0 x inside) i m)),
          )
    ]

pub returns-clause-tried : goal.returns-clause-tried
returns-clause-tried c i j m a l = c.loop-i.invariant.1 i j (all_taken c.args.few.now c.loop-i.i-index i c.loop-i-test.false m) a l
