-- A line without conflicts, or a shorter one.
use Rattle.std.proofs.Common.{◌<◌, ◌≡◌, ◌++◌, List, ap, arith, length, of_z, refl, rules, subst, sym, to_z, vec_len, w64, ℤ, ◌∙◌}
use Rattle.std.proofs.lemmas.Bool.{eqb-false, eqb-true}
use Rattle.std.proofs.lemmas.Int.{to_z-of_z}
use Rattle.osm_lattice.specs.declared.loc.Loc.{Loc}
use Rattle.coast_sides.specs.Rounds.{round_cuts}
use Rattle.coast_sides.proofs.CutRings.{clear_line, crossed_line}
use Rattle.coast_sides.proofs.ShorterLines.{shorter}
use Rattle.coast_sides.proofs.rounds.round_along.Goals as goal

pub returns-then-is_empty : goal.returns-then-is_empty
returns-then-is_empty c =
    let none = eqb-true (vec_len c.in_ok-conflicts.conflicts) 0 (sym c.is_empty.ensures ∙ c.if-is_empty.true) in (
      clear_line c.orders_are_exact.ensures.segments c.conflicts_are_symmetric.ensures c.args.path.now c.args.segs.now c.in_ok-conflicts.conflicts.items c.requires c.in_ok-conflicts.ensures (omega (arith, none, c.in_ok-conflicts.conflicts.ok.0)),
      refl,
    )

pub returns : goal.returns
returns c =
    let some = eqb-false (vec_len c.in_ok-conflicts.conflicts) 0 (sym c.is_empty.ensures ∙ c.if-is_empty.false) in
    let crossed = crossed_line c.orders_are_exact.ensures.segments c.conflicts_are_symmetric.ensures c.args.path.now c.args.segs.now c.in_ok-conflicts.conflicts.items c.requires c.in_ok-conflicts.ensures (λ none. some (omega (arith, none, c.in_ok-conflicts.conflicts.ok.0))) in
    let same : to_z w64 (of_z w64 c.args.ring) ≡ c.args.ring = to_z-of_z w64 c.args.ring (search rules) in
    record {
      conflicts = crossed;
      is = c.in_ok-shorter.ensures.path;
      fewer = subst (λ (p : List Loc). length p < length c.args.path.now) (sym c.in_ok-shorter.ensures.path) (shorter c.args.path.now c.conflicts_are_symmetric.ensures crossed);
      round = c.in_ok-shorter.ensures.round;
      told = c.in_ok-shorter.ensures.told ∙ ap (λ (z : ℤ). c.args.cuts.now ++ round_cuts z c.args.path.now) same;
    }
