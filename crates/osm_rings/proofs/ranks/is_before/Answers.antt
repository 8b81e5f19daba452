-- Different ranks tell the order of points.
use Rattle.std.proofs.Common.{ap, arith, int_div, nat_eq, not, of_z, pos, rules, subst, sym, to_z, w64, ◌*ℤ◌, ◌<ℤ◌, ◌∙◌, ◌≡◌}
use lib.Signed.{mag_rem, rem_z}
use Rattle.std.specs.Ordering.{is_lt, ordering_reverse}
use Rattle.std.specs.declared.cmp.Ordering.TheVariants.{Equal}
use Rattle.std.proofs.lemmas.Int.{ints, quot-rem, to_z-of_z}
use Rattle.osm_geom.proofs.GeometryKit.{point_total}
use Rattle.osm_rings.specs.Ranks.{point_rank}
use Rattle.osm_geom.specs.Point.{point_cmp}
use Rattle.osm_rings.proofs.RankOrder.{even-is-one, rank-tells}
use Rattle.osm_rings.proofs.ranks.is_before.Goals as goal

pub returns-then-rank-other : goal.returns-then-rank-other
returns-then-rank-other c =
    let p = c.args.p.now in let q = c.args.q.now in
    let less : c.args.rank <ℤ c.args.other = (
    let first = to_z-of_z w64 c.args.rank (search rules) in let second = to_z-of_z w64 c.args.other (search rules) in let told = c.if-rank-other.true in
    grind (arith, ints, told, first, second)) in
    sym (ap is_lt (rank-tells p q c.requires.first.1 c.requires.second.1 (subst (λ z. z <ℤ point_rank q) c.requires.first.0 (subst (λ z. c.args.rank <ℤ z) c.requires.second.0 less))))

pub returns-then-other-rank : goal.returns-then-other-rank
returns-then-other-rank c =
    let p = c.args.p.now in let q = c.args.q.now in
    let less : c.args.other <ℤ c.args.rank = (
    let first = to_z-of_z w64 c.args.rank (search rules) in let second = to_z-of_z w64 c.args.other (search rules) in let told = c.if-other-rank.true in
    grind (arith, ints, told, first, second)) in
    let back = rank-tells q p c.requires.second.1 c.requires.first.1 (subst (λ z. z <ℤ point_rank p) c.requires.second.0 (subst (λ z. c.args.other <ℤ z) c.requires.first.0 less)) in
    sym (ap is_lt (point_total.antisymm p q ∙ ap ordering_reverse back))

pub returns-else-rank-ne0 : goal.returns-else-rank-ne0
returns-else-rank-ne0 c =
    let p = c.args.p.now in let q = c.args.q.now in
    let rank = c.args.rank in let other = c.args.other in
    let rem = rem_z rank (pos 2) in
    let first = to_z-of_z w64 rank (search rules) in let second = to_z-of_z w64 other (search rules) in
    let none : of_z w64 rem ≡ 0 = subst (λ z. of_z w64 (rem_z z (pos 2)) ≡ 0) first c.if-rank-ne0.false in
    let back : to_z w64 (of_z w64 rem) ≡ rem = to_z-of_z w64 rem (record { sfits = omega (arith, mag_rem rank (pos 2), c.ranges.rank.sfits) }) in
    let zero : rem ≡ pos 0 = sym back ∙ ap (to_z w64) none in
    let parts = quot-rem rank (pos 2) in
    let even : rank ≡ int_div rank (pos 2) *ℤ pos 2 = omega (arith, ints, parts, zero) in
    let equal : rank ≡ other = (let above = c.if-rank-other.false in let below = c.if-other-rank.false in grind (arith, ints, above, below, first, second)) in
    let one : point_cmp p q ≡ Equal = even-is-one p q c.requires.first.1 c.requires.second.1 (int_div rank (pos 2)) (sym c.requires.first.0 ∙ even) (sym c.requires.first.0 ∙ (equal ∙ c.requires.second.0)) in
    ap (λ n. not (nat_eq n 0)) c.if-rank-ne0.false ∙ sym (ap is_lt one)
