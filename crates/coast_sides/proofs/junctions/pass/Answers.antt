-- One end more: after the last one, where it was, or anywhere.
use Rattle.std.proofs.Common.{◌+◌, arith, refl, sym, ◌∙◌}
use Rattle.osm_lattice.specs.contracts.loc.LocOrd.TheImpl.Laws.{matches_eq-law}
use Rattle.coast_sides.proofs.Conflicts.{is_eq_there}
use Rattle.coast_sides.proofs.PassedEnds.{again, counted_busy, further}
use Rattle.coast_sides.proofs.junctions.pass.Goals as goal

pub returns-then-lt : goal.returns-then-lt
returns-then-lt c passed was = further c.orders_are_exact.ensures.locations passed c.args.passing.now was c.args.end (sym c.lt.ensures ∙ c.if-lt.true) 1 refl

pub returns-then-passing-lt2 : goal.returns-then-passing-lt2
returns-then-passing-lt2 c passed was =
    let last = c.args.passing.now.last in
    let same = is_eq_there c.orders_are_exact.ensures.locations last c.args.end (sym (matches_eq-law last c.args.end) ∙ (sym c.eq.ensures ∙ c.if-eq.true)) in
    again c.orders_are_exact.ensures.locations passed c.args.passing.now was c.args.end same (c.args.passing.now.times + 1) refl (omega arith)

pub returns-in_ok-push : goal.returns-in_ok-push
returns-in_ok-push c passed was =
    counted_busy c.orders_are_exact.ensures.locations passed c.args.passing.now was c.args.end (sym c.lt.ensures ∙ c.if-lt.false) c.push.new.self.items c.in_ok-push.ensures.items _ refl refl refl
