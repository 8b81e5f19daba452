use Rattle.std.proofs.Common.{arith, rules, slice_index_or, true, ◌+◌, ◌-◌, ◌≡◌}
use Rattle.std.proofs.Math.Path.{subst, sym}
use Rattle.chunked_list.proofs.searching.Search.point_above.Goals as goal

pub overflow_add-place : goal.overflow_add-place
overflow_add-place g c = let fits = c.fails_from.ensures.fits c.if-fails_from.false in search rules

pub loop-preserved : goal.loop-preserved
loop-preserved g c =
    let place = c.loop.place in
    let at : place + 1 - 1 ≡ place = omega arith in
    let inside = c.fails_from.ensures.inside c.if-fails_from.false in (
      omega arith,
      λ p told d some. subst (λ n. p (slice_index_or c.args.self.now n d) ≡ true) (sym at) (c.fails_from.ensures.passes c.if-fails_from.false p told d),
    )

pub returns-then-fails_from-clause-within : goal.returns-then-fails_from-clause-within
returns-then-fails_from-clause-within g c = c.loop.invariant.0

pub returns-then-fails_from-clause-point : goal.returns-then-fails_from-clause-point
returns-then-fails_from-clause-point g c = λ p told d.
    (c.loop.invariant.1 p told d, c.fails_from.ensures.fails c.if-fails_from.true p told d)
