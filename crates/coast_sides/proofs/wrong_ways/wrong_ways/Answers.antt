-- One more ring.
use Rattle.std.proofs.Common.{ap, filter, map, subst, sym, ◌∙◌}
use Rattle.std.proofs.lemmas.List.{take_all}
use Rattle.std.specs.List.{list_any}
use Rattle.osm_lattice.specs.declared.loc.Loc.{Loc}
use Rattle.coast_rings.specs.declared.ring.CoastRing.{CoastRing}
use Rattle.coast_sides.specs.Junctions.{RunsOn}
use Rattle.coast_sides.specs.Segments.{steps_round}
use Rattle.coast_sides.specs.WrongWays.{runs_against, runs_between}
use Rattle.coast_sides.proofs.ListSteps.{named_step}
use Rattle.coast_sides.proofs.wrong_ways.wrong_ways.Goals as goal

pub loop-ring-preserved : goal.loop-ring-preserved
loop-ring-preserved c =
    let edges = c.args.edges.now in
    named_step (λ (ring : CoastRing). ring.name) (runs_against edges) c.args.rings.now c.loop-ring.ring-index c.ring-item.result c.meets-is_wrong.result c.loop-ring.names _ c.loop-ring-test.true c.ring-item.is
    (c.meets-is_wrong.ensures ∙ ap (λ path. list_any (λ (step : Loc × Loc). list_any (runs_between step.1 step.0) edges) (steps_round path)) c.as_slice.ensures) c.loop-ring.invariant c.in_ok-add_name.ensures

pub returns : goal.returns
returns c = c.loop-ring.invariant ∙ ap (λ rings. map (λ (ring : CoastRing). ring.name) (filter (runs_against c.args.edges.now) rings)) (take_all c.loop-ring.ring-index c.args.rings.now c.loop-ring-test.false)

pub meets-is_wrong-requires-clause-along : goal.meets-is_wrong-requires-clause-along
meets-is_wrong-requires-clause-along c =
    let ring = c.ring-item.result in
    subst (RunsOn c.args.edges.now c.args.junctions.now) (sym c.as_slice.ensures) (c.requires.along ring (c.loop-ring.ring-index, c.loop-ring-test.true, sym c.ring-item.is))
