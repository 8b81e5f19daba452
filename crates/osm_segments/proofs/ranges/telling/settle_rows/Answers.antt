use Rattle.std.proofs.Common.{arith, length, subst, sym, ◌++◌, ◌∙◌, ◌≡◌}
use Rattle.std.proofs.lemmas.Bool.Decides.{nat_tests}
use Rattle.osm_segments.specs.Ranges.{IsReduced}
use Rattle.osm_segments.proofs.SettledPairs.{grown_more, none_left, reduced_more, reduced_none}
use Rattle.osm_segments.proofs.ranges.telling.settle_rows.Goals as goal

pub loop-alloc-preserved : goal.loop-alloc-preserved
loop-alloc-preserved c =
    let segs = c.args.segs.now in let strip = c.args.strip in let all = c.args.all.items in let others = c.args.others.now in
    let old = c.loop-alloc.told.items in let new = c.settle_row.new.told.items in let rest = c.loop-alloc.rest.items in let left = c.in_ok-rest.rest.items in
    let grown = c.in_ok-rest.ensures.grown in
    let reduced : IsReduced segs strip new (left ++ others) (rest ++ others) = subst (λ xs. IsReduced segs strip new (left ++ others) (xs ++ others)) c.deref.ensures.value c.in_ok-rest.ensures.reduced in (
      grown_more segs c.args.told.now.items old new c.loop-alloc.invariant.0 grown,
      reduced_more segs strip old new (left ++ others) (rest ++ others) (all ++ others) grown.kept c.loop-alloc.invariant.1 reduced,
    )

pub returns-clause-reduced : goal.returns-clause-reduced
returns-clause-reduced c =
    let segs = c.args.segs.now in let strip = c.args.strip in let all = c.args.all.items in let others = c.args.others.now in
    let told = c.loop-alloc.told.items in let rest = c.loop-alloc.rest.items in
    let none : length rest ≡ 0 = (let h = sym c.is_empty.ensures ∙ c.loop-alloc-test.false in let ok = c.loop-alloc.rest.ok in grind (arith, nat_tests, h)) in
    reduced_more segs strip told told others (rest ++ others) (all ++ others) (λ p k. k) c.loop-alloc.invariant.1 (reduced_none segs strip told others (rest ++ others) (none_left rest others none))
