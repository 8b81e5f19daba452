use Rattle.osm_input.proofs.PointLines.ReadLines.{read_all, read_bad, read_none, read_passed, read_point}
use Rattle.osm_input.proofs.points.reading.read_points.Goals as goal

pub loop-left-init : goal.loop-left-init
loop-left-init c = rw c.new-points.ensures.items (read_none c.args.text)

pub returns-in-Bad-clause-bad : goal.returns-in-Bad-clause-bad
returns-in-Bad-clause-bad c =
    read_bad c.args.text.now c.in-Some.rest c.loop-left.number c.loop-left.points.items (rw c.in-Some.is at c.loop-left.invariant) c.next_line.result.0.now
    c.next_line.result.1 c.next_line.ensures.lines c.next_line.ensures.len c.in-Bad.ensures

pub loop-left-preserved-in-Nothing : goal.loop-left-preserved-in-Nothing
loop-left-preserved-in-Nothing c =
    read_passed c.args.text.now c.in-Some.rest c.loop-left.number c.loop-left.points.items (rw c.in-Some.is at c.loop-left.invariant) c.next_line.result.0.now
    c.next_line.result.1 c.next_line.ensures.lines c.next_line.ensures.len c.in-Nothing.ensures

pub loop-left-preserved : goal.loop-left-preserved
loop-left-preserved c =
    let read = read_point c.args.text.now c.in-Some.rest c.loop-left.number c.loop-left.points.items (rw c.in-Some.is at c.loop-left.invariant)
    c.next_line.result.0.now c.next_line.result.1 c.next_line.ensures.lines c.next_line.ensures.len c.in-Point.point c.in-Point.ensures in
    rw c.in-Ok.ensures.items read

pub returns-clause-points : goal.returns-clause-points
returns-clause-points c = read_all c.args.text.now c.loop-left.number c.loop-left.points.items (rw c.in_default.is at c.loop-left.invariant)
