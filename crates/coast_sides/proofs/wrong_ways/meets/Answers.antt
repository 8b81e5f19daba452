-- One more step: as the one before it, or looked up.
use Rattle.std.proofs.Common.{Bool, ◌+◌, sym, ◌∙◌}
use Rattle.std.specs.List.{list_any}
use Rattle.osm_lattice.specs.declared.loc.Loc.{Loc}
use Rattle.coast_sides.specs.WrongWays.{runs_between}
use Rattle.coast_sides.proofs.RingDirections.{goes_on}
use Rattle.coast_sides.proofs.RoundSteps.{tested_all, tested_front, tested_more}
use Rattle.coast_sides.proofs.wrong_ways.meets.Goals as goal

pub returns-then-has_edge : goal.returns-then-has_edge
returns-then-has_edge c =
    let f : Loc × Loc → Bool = λ step. list_any (runs_between step.1 step.0) c.args.edges.now in
    sym (tested_front f c.args.path.now (c.loop-place.place + 1)
    (tested_more f c.args.path.now c.loop-place.place c.next_round.result c.index-path-place.result c.index-path-next_round.result _ c.loop-place-test.true c.next_round.ensures.inside c.next_round.ensures.value c.index-path-place.is c.index-path-next_round.is
    (sym c.has_edge.ensures ∙ c.if-has_edge.true) c.loop-place.invariant))

pub loop-place-preserved : goal.loop-place-preserved
loop-place-preserved c =
    let f : Loc × Loc → Bool = λ step. list_any (runs_between step.1 step.0) c.args.edges.now in
    tested_more f c.args.path.now c.loop-place.place c.next_round.result c.index-path-place.result c.index-path-next_round.result _ c.loop-place-test.true c.next_round.ensures.inside c.next_round.ensures.value c.index-path-place.is c.index-path-next_round.is
    (sym c.has_edge.ensures ∙ c.if-has_edge.false) c.loop-place.invariant

pub loop-place-preserved-then-goes_on : goal.loop-place-preserved-then-goes_on
loop-place-preserved-then-goes_on c =
    goes_on c.args.edges.now c.args.junctions.now c.args.path.now c.requires.junctions c.requires.along c.loop-place.place c.next_round.result c.index-path-place-then-place-gt0.result c.index-path-place.result c.index-path-next_round.result
    c.if-place-gt0.true c.loop-place-test.true c.next_round.ensures.inside c.next_round.ensures.value c.index-path-place-then-place-gt0.is c.index-path-place.is c.index-path-next_round.is
    (c.goes_on.ensures.moves c.if-goes_on.true) (c.goes_on.ensures.ahead c.if-goes_on.true) (c.goes_on.ensures.plain c.if-goes_on.true) c.loop-place.invariant

pub returns : goal.returns
returns c =
    let f : Loc × Loc → Bool = λ step. list_any (runs_between step.1 step.0) c.args.edges.now in
    sym (tested_all f c.args.path.now c.loop-place.place c.loop-place-test.false c.loop-place.invariant)
