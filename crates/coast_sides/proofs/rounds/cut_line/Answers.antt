-- One more round, or the last.
use Rattle.std.proofs.Common.{◌≡◌, false, List, of_z, rules, subst, to_z, w64, ℤ}
use Rattle.std.proofs.lemmas.Int.{to_z-of_z}
use Rattle.std.proofs.lemmas.Option.{MatchOption-at_none, MatchOption-at_some}
use Rattle.osm_lattice.specs.declared.loc.Loc.{Loc}
use Rattle.coast_sides.specs.CutSteps.{IsCutLine, IsShortened}
use Rattle.coast_sides.specs.Rounds.{conflicts_itself}
use Rattle.coast_sides.proofs.CutRings.{underway_end, underway_more}
use Rattle.coast_sides.proofs.rounds.cut_line.Goals as goal

pub loop-left-preserved : goal.loop-left-preserved
loop-left-preserved c =
    let lent = c.as_slice.result.now in
    let r = MatchOption-at_some ((conflicts_itself lent ≡ false) × (c.round.new.cuts ≡ c.loop-left.cuts)) (λ (p : List Loc). IsShortened (to_z w64 (of_z w64 c.args.ring)) lent c.loop-left.cuts p c.round.new.cuts) c.in-Some.shorter c.in-Some.is c.in_ok-shorter.ensures in
    underway_more (to_z w64 (of_z w64 c.args.ring)) c.args.path.now c.loop-left.left lent c.in-Some.shorter c.args.cuts.now c.loop-left.cuts c.round.new.cuts c.as_slice.ensures c.loop-left.invariant r

pub returns : goal.returns
returns c =
    let lent = c.as_slice.result.now in
    let same : to_z w64 (of_z w64 c.args.ring) ≡ c.args.ring = to_z-of_z w64 c.args.ring (search rules) in
    let r = MatchOption-at_none ((conflicts_itself lent ≡ false) × (c.round.new.cuts ≡ c.loop-left.cuts)) (λ (p : List Loc). IsShortened (to_z w64 (of_z w64 c.args.ring)) lent c.loop-left.cuts p c.round.new.cuts) c.in_default.is c.in_ok-shorter.ensures in
    subst (λ (z : ℤ). IsCutLine z c.args.path.now c.args.cuts.now c.loop-left.left c.round.new.cuts) same
    (underway_end (to_z w64 (of_z w64 c.args.ring)) c.args.path.now c.loop-left.left lent c.args.cuts.now c.loop-left.cuts c.round.new.cuts c.as_slice.ensures c.loop-left.invariant r.0 r.1)
