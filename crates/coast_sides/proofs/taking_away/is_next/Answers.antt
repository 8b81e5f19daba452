-- Segments that tie are one.
use Rattle.std.proofs.Common.{sym, ◌∙◌}
use Rattle.std.proofs.lemmas.List.{get_or_default}
use Rattle.osm_lattice.specs.contracts.seg.SegOrd.TheImpl.Laws.{matches_eq-law}
use Rattle.coast_sides.proofs.Conflicts.{is_eq_same}
use Rattle.coast_sides.proofs.taking_away.is_next.Goals as goal

pub returns-then-next-away-clause-next : goal.returns-then-next-away-clause-next
returns-then-next-away-clause-next c told =
    let here = c.index-away-next.result in
    let same = is_eq_same c.orders_are_exact.ensures.segments here c.args.seg (sym (matches_eq-law here c.args.seg) ∙ (sym c.eq.ensures ∙ told)) in
    get_or_default c.args.away.now c.args.next c.args.seg here c.if-next-away.true ∙ (sym c.index-away-next.is ∙ same)
