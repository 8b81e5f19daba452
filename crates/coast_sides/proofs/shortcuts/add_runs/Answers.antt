-- One more run, or none.
use Rattle.std.proofs.Common.{◌≡◌, Bool, false, ap, ◌∙◌, ◌++◌, of_z, rules, to_z, w64, ℤ}
use Rattle.std.proofs.lemmas.Int.{to_z-of_z}
use Rattle.osm_lattice.specs.declared.loc.Loc.{Loc}
use Rattle.coast_rings.specs.Line.{origin}
use Rattle.coast_sides.specs.Shortcuts.{runs}
use Rattle.coast_sides.specs.ShortcutSteps.{cuts_of}
use Rattle.coast_sides.proofs.LeftRuns.{left_inside, runs_all, runs_more}
use Rattle.coast_sides.proofs.shortcuts.add_runs.Goals as goal

pub add_run-requires-clause-place : goal.add_run-requires-clause-place
add_run-requires-clause-place c = left_inside c.args.marks.now c.args.left.now c.requires c.loop-index.index c.loop-index-test.true

pub add_run-requires-clause-next : goal.add_run-requires-clause-next
add_run-requires-clause-next c = left_inside c.args.marks.now c.args.left.now c.requires c.next_round.result c.next_round.ensures.inside

pub loop-index-preserved : goal.loop-index-preserved
loop-index-preserved c =
    let nowhere : Loc × Bool = (origin, false) in
    let marks = c.args.marks.now in
    let left = c.args.left.now in
    runs_more marks left c.requires nowhere (to_z w64 (of_z w64 c.args.ring)) c.loop-index.index c.next_round.result c.args.cuts.now c.loop-index.cuts c.add_run.new.cuts c.loop-index-test.true c.next_round.ensures.inside c.next_round.ensures.value c.loop-index.invariant
    (c.in_ok-add_run.ensures nowhere)

pub returns : goal.returns
returns c =
    let same : to_z w64 (of_z w64 c.args.ring) ≡ c.args.ring = to_z-of_z w64 c.args.ring (search rules) in
    runs_all c.args.marks.now c.args.left.now c.requires (to_z w64 (of_z w64 c.args.ring)) c.loop-index.index c.args.cuts.now c.loop-index.cuts c.loop-index-test.false c.loop-index.invariant
    ∙ ap (λ (z : ℤ). c.args.cuts.now ++ cuts_of z (runs c.args.marks.now)) same
