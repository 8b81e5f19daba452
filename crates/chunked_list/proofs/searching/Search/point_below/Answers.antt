use Rattle.chunked_list.proofs.searching.Search.point_below.Goals as goal

pub returns-then-fails_from-clause-point : goal.returns-then-fails_from-clause-point
returns-then-fails_from-clause-point g c = λ p told d.
    (c.passes_before.ensures c.if-passes_before.true p told d, c.fails_from.ensures.fails c.if-fails_from.true p told d)
